-- What the private functions of `route` compute: the pairs of code and address that the entries
-- name, collected in two tables of sets; the table that they change; and the report. The rules of
-- document 01 are defined in Entries.antt and Updating.antt; proofs/ shows that these definitions
-- agree with them.
-- Assumes nothing.
use Rattle.std.specs.Prelude.{◌≡◌, Bool, true, false, cond, List, [], ◌∷◌, ◌++◌, ℕ, ◌+◌, ◌-◌, ◌%◌, ◌<◌, ◌≤◌, leb, length, get_or, drop, set, replicate}
use Rattle.lists.specs.Lists.{list_from}
use Rattle.wordset.specs.Sets.{with, union, difference}
use Rattle.route.specs.declared.Report.{Report}
use Rattle.route.specs.Entries.{Entry, entry, Parsed, cut, whole}
use Rattle.route.specs.Updating.{is_lost, those}

-- for each address the set of the codes that a route list adds there, and the set of those that it
-- deletes there
pub record Change : Type 0 where
  pub added : List ℕ
  pub deleted : List ℕ

-- the change with these two tables
abbrev pub change : List ℕ → List ℕ → Change
change added deleted = record { added = added; deleted = deleted }

-- one entry read: its size in bytes, 0 if it is cut, and the change with its pairs added
pub record Taken : Type 0 where
  pub size : ℕ
  pub change : Change

-- an entry read, from its size and the two tables of the change
abbrev pub taken : ℕ → List ℕ → List ℕ → Taken
taken size added deleted = record { size = size; change = change added deleted }

-- all entries of a list read: whether the last one is whole, and the change with all their pairs
-- added
pub record Collected : Type 0 where
  pub whole : Bool
  pub change : Change

-- `code` is added to the set of each of these addresses
unfoldable pub mark : ℕ → List ℕ → List ℕ → List ℕ
mark code [] sets = sets
mark code (a ∷ rest) sets = mark code rest (set sets a (with 16 (get_or sets a 0) code))

-- the change after an entry: its pairs are added to `added` if AD = 1, else to `deleted`
abbrev pub step_to : Bool → Entry → Change → Change
step_to true e c = record { added = mark e.code e.addresses c.added; deleted = c.deleted }
step_to false e c = record { added = c.added; deleted = mark e.code e.addresses c.deleted }

-- the same, with AD taken from the entry
unfoldable pub step : Entry → Change → Change
step e c = step_to e.adding e c

-- the change after all entries
unfoldable pub collect : List Entry → Change → Change
collect [] c = c
collect (e ∷ es) c = collect es (step e c)

-- the change that adds and deletes nothing
abbrev pub no_change : Change
no_change = record { added = replicate 256 0; deleted = replicate 256 0 }

-- the first entry of `rest` read, and its pairs added to the change c; the size is 0 and the change
-- is c if the entry is cut
unfoldable pub taken_of : List ℕ → Change → Taken
taken_of rest c =
    cond (leb (get_or rest 0 0 % 8 + 2) (length rest))
    (record { size = get_or rest 0 0 % 8 + 2; change = step (entry (get_or rest 0 0) (drop 1 rest)) c })
    (record { size = 0; change = c })

-- the pairs of all entries added to the change c; the change that does nothing if the last entry is
-- cut
abbrev pub collected_by : Parsed → Change → Collected
collected_by cut c = record { whole = false; change = no_change }
collected_by (whole es) c = record { whole = true; change = collect es c }

-- the result of `collect_list`: `whole` is whether all entries are whole, and only if they are,
-- `change` is the change that they make
pub record Found (c : Collected) (whole : Bool) (change : Change) : Type 0 where
  pub told : whole ≡ c.whole
  pub gathered : whole ≡ true → change ≡ c.change

-- the set of address a after a change: its codes and the added ones, less the deleted ones
abbrev pub settled_at : List ℕ → Change → ℕ → ℕ
settled_at codes c a = difference 16 (union 16 (get_or codes a 0) (get_or c.added a 0)) (get_or c.deleted a 0)

-- the sets of all 256 addresses after a change
unfoldable pub settled : List ℕ → Change → List ℕ
settled codes c = list_from 0 256 (settled_at codes c)

-- the report of the addresses l: their count, and their list in 256 places, of which the unused
-- ones are 0
abbrev pub report_of : List ℕ → Report
report_of l = record { count = length l; lost = l ++ replicate (256 - length l) 0 }

-- a report after address a: a is written to its next free place if `gone` is true
unfoldable pub noted : Report → ℕ → Bool → Report
noted r a gone = cond gone (record { count = r.count + 1; lost = set r.lost r.count a }) r

-- the test whether an address had a code in the sets `before` and has none in the sets `after`
abbrev pub lost_in : List ℕ → List ℕ → ℕ → Bool
lost_in before after = is_lost (record { codes = before }) (record { codes = after })

-- p is false for each of the n numbers starting at `from`
abbrev pub NoneFrom : ℕ → ℕ → (ℕ → Bool) → Type 0
NoneFrom from n p = (i : ℕ) → i < n → p (from + i) ≡ false

-- what a report must hold before the 16 addresses starting at `from` are looked at: those below
-- `from` that are lost
abbrev pub Told : List ℕ → List ℕ → ℕ → Report → Type 0
Told before after from r = (from + 16 ≤ 256) × (r ≡ report_of (those from (lost_in before after)))
