-- The number of an answer's outcome is that of the verdict of the call's checks: an arrival or a
-- clock end that the checks accept is never answered with a refusal.
-- Assumes nothing.
use mathlib.Core.Path.{◌≡◌, refl, ap, ◌∙◌}
use mathlib.Core.Bool.{Bool, true, false}
use Prim.Native.Nat.{ℕ}
use Rattle.refusal.specs.declared.Refusal.TheVariants.{NotInOrder}
use Rattle.refusal.specs.Numbers.{check, refusal_number, Verdict}
use Rattle.resequencer.specs.declared.Resequencer.{Resequencer}
use Rattle.resequencer.specs.declared.Answer.{Answer}
use Rattle.resequencer.specs.declared.Numbers.{Numbers}
use Rattle.resequencer.specs.declared.Step.{Step}
use Rattle.resequencer.specs.Events.{plain, arrive_verdict, arrive_by, arrive_of, clock_end_verdict, clock_end_by, clock_end_of}
use Rattle.resequencer.specs.Numbers.{bare, step_by, arrive_step, clock_end_step}
use Rattle.resequencer.proofs.Refusing.{taken-accepted, ended-accepted}
use Rattle.std.specs.Prelude.{Ok, Err}

arrive-by : (v : Verdict) (s : Resequencer) (n ticket : ℕ) → refusal_number (arrive_by v s n ticket).outcome ≡ refusal_number v
arrive-by (Ok tt) s n ticket = taken-accepted s n ticket
arrive-by (Err why) s n ticket = unfold plain in refl

pub arrive-number : (s : Resequencer) (n ticket : ℕ) → refusal_number (arrive_of s n ticket).outcome ≡ refusal_number (arrive_verdict s n)
unfolding arrive_of
arrive-number s n ticket = arrive-by (arrive_verdict s n) s n ticket

end_by : (v : Verdict) (s : Resequencer) (n : ℕ) → refusal_number (clock_end_by v s n).outcome ≡ refusal_number v
end_by (Ok tt) s n = ended-accepted s n
end_by (Err why) s n = unfold plain in refl

pub end-number : (s : Resequencer) (n : ℕ) → refusal_number (clock_end_of s n).outcome ≡ refusal_number (clock_end_verdict s n)
unfolding clock_end_of
end-number s n = end_by (clock_end_verdict s n) s n

-- ---- the same beside the answer, as the calls promise both

pub arrive-numbers : (s : Resequencer) (n ticket : ℕ) (r : Answer) → r ≡ arrive_of s n ticket
    → (r ≡ arrive_of s n ticket) × (refusal_number r.outcome ≡ refusal_number (arrive_verdict s n))
arrive-numbers s n ticket r e = (e, ap (λ (a : Answer). refusal_number a.outcome) e ∙ arrive-number s n ticket)

pub end-numbers : (s : Resequencer) (n : ℕ) (r : Answer) → r ≡ clock_end_of s n
    → (r ≡ clock_end_of s n) × (refusal_number r.outcome ≡ refusal_number (clock_end_verdict s n))
end-numbers s n r e = (e, ap (λ (a : Answer). refusal_number a.outcome) e ∙ end-number s n)

-- ---- the same of a step, which `Numbers` decides without the tickets; `fits` is whether those of
-- numbers not held are all 0

pub arrive-step-numbers : (fits : Bool) (m : Numbers) (n : ℕ) (r : Step) → r ≡ arrive_step fits m n
    → (r ≡ arrive_step fits m n) × (refusal_number r.outcome ≡ refusal_number (check fits NotInOrder (arrive_verdict (bare m) n)))
arrive-step-numbers fits m n r e = (e, ap (λ (a : Step). refusal_number a.outcome) e ∙ by_fits fits)
  where
    by_fits : (b : Bool) → refusal_number (arrive_step b m n).outcome ≡ refusal_number (check b NotInOrder (arrive_verdict (bare m) n))
    by_fits true = unfold arrive_step step_by in arrive-number (bare m) n 0
    by_fits false = unfold arrive_step step_by plain in refl

pub end-step-numbers : (fits : Bool) (m : Numbers) (n : ℕ) (r : Step) → r ≡ clock_end_step fits m n
    → (r ≡ clock_end_step fits m n) × (refusal_number r.outcome ≡ refusal_number (check fits NotInOrder (clock_end_verdict (bare m) n)))
end-step-numbers fits m n r e = (e, ap (λ (a : Step). refusal_number a.outcome) e ∙ by_fits fits)
  where
    by_fits : (b : Bool) → refusal_number (clock_end_step b m n).outcome ≡ refusal_number (check b NotInOrder (clock_end_verdict (bare m) n))
    by_fits true = unfold clock_end_step step_by in end-number (bare m) n
    by_fits false = unfold clock_end_step step_by plain in refl
