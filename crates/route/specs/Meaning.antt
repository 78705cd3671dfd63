-- What an update means (document 01, "Interrogators and ground addresses", first paragraph): which
-- pairs of code and address the table has afterwards, and which addresses are reported.
-- proofs/Meaning.antt proves it (`update-claim`).
-- Assumes nothing.
use Rattle.std.specs.Prelude.{◌≡◌, ◌≢◌, ◌↔◌, true, not, ◌&&◌, ◌||◌, List, [], ℕ, ◌≤◌, ◌<◌, ◌^◌, length, get_or, take, replicate, Ok, Err}
use Rattle.refusal.specs.declared.Refusal.TheVariants.{RouteListMalformed}
use Rattle.wordset.specs.Sets.{member}
use Rattle.route.specs.declared.Table.{Table}
use Rattle.route.specs.Entries.{Entry, cut, whole, entries_in, is_in, adds, deletes}
use Rattle.route.specs.Updating.{codes_of, update_of}

-- a table with the sizes of the struct `Table`: 256 words of 16 bits
pub record IsTable (t : Table) : Type 0 where
  pub places : length t.codes ≡ 256
  pub words : (a : ℕ) → codes_of t a < 2 ^ 16

-- the update of table t by a list of at most 255 bytes whose entries es are all whole
pub record UpdateDone (t : Table) (list : List ℕ) (es : List Entry) : Type 0 where
  -- it is not refused
  pub done : (update_of t list).verdict ≡ Ok tt
  -- code i is at address a afterwards exactly if it was there or is added, and is not deleted
  pub pairs : (i a : ℕ) → i < 16 → a < 256
      → member (codes_of (update_of t list).next a) i ≡ ((member (codes_of t a) i || adds es i a) && not (deletes es i a))
  -- an address is reported exactly if it had a code before and has none after
  pub reports : (a : ℕ) → a < 256
      → (is_in a (take (update_of t list).count (update_of t list).lost) ≡ true) ↔ ((codes_of t a ≢ 0) × (codes_of (update_of t list).next a ≡ 0))
  -- the addresses reported rise
  pub rising : (j k : ℕ) → j < k → k < (update_of t list).count → get_or (update_of t list).lost j 0 < get_or (update_of t list).lost k 0
  -- the unused places are 0
  pub rest-zero : (j : ℕ) → (update_of t list).count ≤ j → get_or (update_of t list).lost j 0 ≡ 0
  -- the table afterwards has the same sizes
  pub is-table : IsTable (update_of t list).next

pub record UpdateClaim : Type 0 where
  -- any list of at most 255 bytes whose entries are all whole
  pub accepted : (t : Table) (list : List ℕ) (es : List Entry) → length list ≤ 255 → entries_in list ≡ whole es → UpdateDone t list es
  -- 6: "route list over 255 bytes, or its last entry is cut"
  pub refused : (t : Table) (list : List ℕ) → (255 < length list → (update_of t list).verdict ≡ Err RouteListMalformed)
      × (entries_in list ≡ cut → (update_of t list).verdict ≡ Err RouteListMalformed)
  -- a refusal changes nothing and reports nothing
  pub unchanged : (t : Table) (list : List ℕ) → (update_of t list).verdict ≡ Err RouteListMalformed → ((update_of t list).next ≡ t) × ((update_of t list).count ≡ 0) × ((update_of t list).lost ≡ replicate 256 0)
  -- "An empty list changes nothing."
  pub empty : (t : Table) → IsTable t → ((update_of t []).next ≡ t) × ((update_of t []).count ≡ 0)
