-- The numbers in the answer of `choose`, from the answer itself.
-- Assumes nothing.
use mathlib.Core.Path.{◌≡◌, refl, ap, ◌∙◌}
use Prim.Native.Nat.{ℕ}
use Rattle.refusal.specs.Numbers.{value_by, refusal_number, Verdict}
use Rattle.route_choice.specs.Choosing.{choice_code, usable, choose_verdict, chosen_code, choose_by, choose_of}
use Rattle.std.specs.Prelude.{Result, Ok, Err, Option}
use Rattle.refusal.specs.declared.Refusal.{Refusal}

number_by : (v : Verdict) (code : ℕ) → refusal_number (choose_by v code) ≡ refusal_number v
number_by (Ok tt) code = refl
number_by (Err why) code = refl

code_by : (v : Verdict) (code : ℕ) → choice_code (choose_by v code) ≡ value_by v code
code_by (Ok tt) code = refl
code_by (Err why) code = refl

pub choose-numbers : (codes : ℕ) (last : Option ℕ) (failed : ℕ) (r : Result ℕ Refusal) → r ≡ choose_of codes last failed
    → (r ≡ choose_of codes last failed)
    × ((refusal_number r ≡ refusal_number (choose_verdict codes last failed))
    × (choice_code r ≡ value_by (choose_verdict codes last failed) (chosen_code (usable codes failed) last)))
unfolding choose_of
choose-numbers codes last failed r e = (
  e,
  (
    ap refusal_number e ∙ number_by (choose_verdict codes last failed) (chosen_code (usable codes failed) last),
    ap choice_code e ∙ code_by (choose_verdict codes last failed) (chosen_code (usable codes failed) last),
  ),
)
