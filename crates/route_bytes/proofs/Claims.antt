-- The claims: a table is written and read back, by the law of numbers in bytes; and a call that is
-- refused answers with the value 0 and has written nothing.
-- Assumes nothing.
use mathlib.Core.Path.{◌≡◌, refl, sym, ap, ◌∙◌}
use mathlib.Core.Logic.{◌≢◌}
use mathlib.Core.Bool.{Bool, true, false, cond}
use mathlib.Core.List.{List}
use Prim.Native.Nat.{ℕ, ◌+◌, ◌*◌, ◌/◌, ◌%◌}
use native.Mathlib.Omega.{arith}
use lib.ListN.{length}
use Rattle.refusal.specs.Numbers.{value_by, refusal_number, Verdict}
use Rattle.refusal.proofs.Numbers.{number-range}
use Rattle.little.specs.Little.{little_list}
use Rattle.little.proofs.Little.{list-read-back, list-written-back}
use Rattle.route_choice.specs.Choosing.{choose_of}
use Rattle.route.specs.Updating.{codes_of, count_of, choose_for, empty_table}
use Rattle.route_bytes.specs.Stored.{is_table, table_in, table_bytes, last_in, choice_answer, update_in, update_checks, update_answer, if_done, update_bytes, update_lost}
use Rattle.route_bytes.specs.Claims.{RoundTrips, RefusalsChangeNothing}
use Rattle.std.specs.Prelude.{Result, Ok, Err}
use Rattle.refusal.specs.declared.Refusal.{Refusal}

pub round-trips : RoundTrips
round-trips = record {
  read_back = λ t i.
      let back : little_list 2 256 (table_bytes t) ≡ t.codes =
      ap (λ (n : ℕ). little_list 2 n (table_bytes t)) (sym i.places) ∙ list-read-back 2 t.codes (λ a h. i.words a) in
      λ k. record { codes = back k };
  written_back = list-written-back 2 256;
}

-- ---- refusals

-- an answer with a value has the refusal number 0
value-only : (t : Bool) (v : ℕ) → cond t (256 * v) 14 % 256 ≢ 0 → cond t (256 * v) 14 / 256 ≡ 0
value-only true v h = absurd (h (omega arith))
value-only false v h = refl

-- an answer with a number and a value: a refusal's number fits the lowest byte
choice : (c : Result ℕ Refusal) → choice_answer c % 256 ≢ 0 → choice_answer c / 256 ≡ 0
choice (Ok code) h = absurd (h (omega arith))
choice (Err why) h = omega (arith, (number-range why).1)

chosen : (t : Bool) (c : Result ℕ Refusal) → cond t (choice_answer c) 14 % 256 ≢ 0 → cond t (choice_answer c) 14 / 256 ≡ 0
chosen true c h = choice c h
chosen false c h = refl

module _ (b list lost : List ℕ) where
  -- by the verdict of the checks, whatever is counted and written
  updated-by : (v : Verdict) (count : ℕ) (bytes report : List ℕ) → (refusal_number v + 256 * value_by v count) % 256 ≢ 0
      → ((refusal_number v + 256 * value_by v count) / 256 ≡ 0) × (if_done v bytes b ≡ b) × (if_done v report lost ≡ lost)
  updated-by (Ok tt) count bytes report h = absurd (h (omega arith))
  updated-by (Err why) count bytes report h = (omega (arith, (number-range why).1), refl, refl)

  updated : update_answer b list (length lost) % 256 ≢ 0
      → (update_answer b list (length lost) / 256 ≡ 0) × (update_bytes b list (length lost) ≡ b) × (update_lost b list lost ≡ lost)
  unfolding update_answer update_bytes update_lost
  updated = updated-by (update_checks b list (length lost)) (update_in b list).count _ _

made : (t : Bool) (b : List ℕ) → cond t 0 14 % 256 ≢ 0 → (cond t 0 14 / 256 ≡ 0) × (cond t (table_bytes empty_table) b ≡ b)
made true b h = absurd (h refl)
made false b h = (refl, refl)

pub refusals-change-nothing : RefusalsChangeNothing
refusals-change-nothing = record {
  empty = λ b. made (is_table b) b;
  codes = λ b a. value-only (is_table b) (codes_of (table_in b) a);
  count = λ b a. value-only (is_table b) (count_of (table_in b) a);
  choose = λ b a last failed. chosen (is_table b) (choose_for (table_in b) a (last_in last) failed);
  choose-among = λ codes last failed. choice (choose_of codes (last_in last) failed);
  update = updated;
}
