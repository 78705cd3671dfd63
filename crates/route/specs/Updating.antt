-- The table, the number and the choice of interrogators of an address, and the update of the table:
-- document 01, "Interrogators and ground addresses".
-- Assumes nothing.
use Rattle.std.specs.Prelude.{Bool, true, false, not, cond, ◌&&◌, ◌||◌, List, [], ◌∷◌, ◌++◌, ℕ, zero, suc, ◌-◌, leb, eqb, length, get_or, replicate, Result, Ok, Err, Option}
use Rattle.refusal.specs.declared.Refusal.TheVariants.{RouteListMalformed}
use Rattle.refusal.specs.Numbers.{check, Verdict}
use Rattle.lists.specs.Lists.{list_from}
use Rattle.wordset.specs.Sets.{member, set_of, count}
use Rattle.route_choice.specs.Choosing.{choose_of}
use Rattle.route.specs.declared.Table.{Table}
use Rattle.route.specs.declared.Updated.{Updated}
use Rattle.route.specs.Entries.{Entry, Parsed, cut, whole, entries_in, adds, deletes}
use Rattle.refusal.specs.declared.Refusal.{Refusal}

-- "for each of 256 ground addresses, a set of the 16 codes II; it starts empty"
abbrev pub empty_table : Table
empty_table = record { codes = replicate 256 0 }

-- the set of the codes of address a, a word whose bit i is code i
abbrev pub codes_of : Table → ℕ → ℕ
codes_of t a = get_or t.codes a 0

-- "The number of interrogators of an address is the count of ones in its set."
abbrev pub count_of : Table → ℕ → ℕ
count_of t a = count 16 (codes_of t a)

-- the choice of an interrogator for address a: the choice among its codes
abbrev pub choose_for : Table → ℕ → Option ℕ → ℕ → Result ℕ Refusal
choose_for t a last failed = choose_of (codes_of t a) last failed

-- ---- the update

-- "All additions (AD = 1) are made before any deletion": the codes of address a afterwards are
-- those that were there or are added, and are not deleted
abbrev pub codes_after : List Entry → Table → ℕ → ℕ
codes_after es t a = set_of 16 (λ i. (member (codes_of t a) i || adds es i a) && not (deletes es i a))

-- the table after the entries of a list
unfoldable pub table_after : List Entry → Table → Table
table_after es t = record { codes = list_from 0 256 (codes_after es t) }

-- the numbers below n for which p is true, rising
unfoldable pub those : ℕ → (ℕ → Bool) → List ℕ
those zero p = []
those (suc n) p = those n p ++ cond (p n) (n ∷ []) []

-- a is one of "the addresses that had a code before and have none after"
abbrev pub is_lost : Table → Table → ℕ → Bool
is_lost before after a = not (eqb (codes_of before a) 0) && eqb (codes_of after a) 0

-- all these addresses, rising
unfoldable pub lost_between : Table → Table → List ℕ
lost_between before after = those 256 (is_lost before after)

-- an answer that reports the addresses `lost`: their count, and their list in 256 places, of which
-- the unused ones are 0
abbrev pub reported : Verdict → Table → List ℕ → Updated
reported verdict after lost = record { verdict = verdict; next = after; count = length lost; lost = lost ++ replicate (256 - length lost) 0 }

-- whether every entry of a list is whole
abbrev pub is_whole : Parsed → Bool
is_whole cut = false
is_whole (whole es) = true

-- the check of a list: 6, "route list over 255 bytes, or its last entry is cut"
abbrev pub update_verdict : List ℕ → Verdict
update_verdict list = check (leb (length list) 255 && is_whole (entries_in list)) RouteListMalformed (Ok tt)

-- the answer, from whether the list has at most 255 bytes and from its entries: "6 is the only
-- refusal", and it changes and reports nothing
abbrev pub update_by : Bool → Parsed → Table → Updated
update_by true (whole es) t = reported (Ok tt) (table_after es t) (lost_between t (table_after es t))
update_by true cut t = reported (Err RouteListMalformed) t []
update_by false p t = reported (Err RouteListMalformed) t []

-- 6: "route list over 255 bytes, or its last entry is cut"
unfoldable pub update_of : Table → List ℕ → Updated
update_of t list = update_by (leb (length list) 255) (entries_in list) t
