-- What follows from a step about the state before it: tickets are handed on only in good order, and
-- a step that neither hands on nor holds leaves the numbers unchanged.
-- Assumes nothing.
use mathlib.Core.Path.{◌≡◌, refl, sym, ap, ◌∙◌, subst}
use mathlib.Core.Bool.{Bool, true, false, cond, false≢true}
use Prim.Native.Nat.{ℕ}
use lib.Dec.{ltb, eqb}
use Rattle.refusal.specs.declared.Refusal.TheVariants.{NotInOrder}
use Rattle.refusal.specs.Numbers.{check, Verdict}
use Rattle.refusal.proofs.Checks.{check_done}
use Rattle.wordset.specs.Sets.{every}
use Rattle.resequencer.specs.declared.Resequencer.{Resequencer}
use Rattle.resequencer.specs.declared.Numbers.{Numbers}
use Rattle.resequencer.specs.declared.Step.{Step}
use Rattle.resequencer.specs.State.{is_held, ahead, in_order}
use Rattle.resequencer.specs.Events.{plain, hand_on, hold, hand_on_run, take_arrival, arrive_verdict, take_clock_end, clock_end_verdict}
use Rattle.resequencer.specs.Parts.{ticket_fits}
use Rattle.resequencer.specs.Numbers.{numbers_of, bare, hands_on, holds, step_by, arrive_step, clock_end_step}
use Rattle.resequencer.proofs.Steps.{order-told, arrive-taken, arrive-left, arrive-may, end-taken, end-left, end-may}
use Rattle.resequencer.specs.declared.Outcome.TheVariants.{Held, Old, Duplicate}
use Rattle.std.specs.Prelude.{Ok, Err}

abbrev pub Tells : Resequencer → Step → Type 0
Tells s step = (hands_on step.outcome ≡ true → in_order s ≡ true) × (hands_on step.outcome ≡ false → holds step.outcome ≡ false → step.next ≡ numbers_of s)

module _ (s : Resequencer) (fits : Bool) (f : fits ≡ every 64 (ticket_fits s.held s.tickets)) where
  abbrev m : Numbers
  m = numbers_of s

  good : (v : Verdict) → check fits NotInOrder v ≡ Ok tt → in_order (bare m) ≡ true → in_order s ≡ true
  good v e g = sym (order-told s fits (in_order (bare m)) f (check_done fits NotInOrder v e).0 refl) ∙ g

  arrive-tells : (n : ℕ) → Tells s (arrive_step fits m n)
  arrive-tells n = go (check fits NotInOrder (arrive_verdict (bare m) n)) refl
    where
      taken : in_order s ≡ true → (a h z : Bool)
          → Tells s (step_by m (cond a (plain (Ok Old) (bare m)) (cond h (plain (Ok Duplicate) (bare m)) (cond z (hand_on_run (bare m) 0) (plain (Ok Held) (hold (bare m) n 0))))))
      taken g true h z = unfold step_by in unfold plain in (λ t. g, λ t u. refl)
      taken g false true z = unfold step_by in unfold plain in (λ t. g, λ t u. refl)
      taken g false false true = unfold step_by in unfold hand_on_run in unfold hand_on in (λ t. g, λ t u. absurd (false≢true (sym t)))
      taken g false false false = unfold step_by in unfold plain in (λ t. g, λ t u. absurd (false≢true (sym u)))

      go : (v : Verdict) → check fits NotInOrder (arrive_verdict (bare m) n) ≡ v → Tells s (arrive_step fits m n)
      go (Ok tt) e =
          subst (Tells s) (arrive-taken fits m n e)
          (unfold take_arrival in taken (good _ e (arrive-may fits m n e).0) (ltb 31 (ahead (bare m) n)) (is_held (bare m) n) (eqb (ahead (bare m) n) 0))
      go (Err why) e =
          subst (Tells s) (arrive-left fits m n why e) (unfold step_by in unfold plain in (λ t. absurd (false≢true t), λ t u. refl))

  end-tells : (n : ℕ) → Tells s (clock_end_step fits m n)
  end-tells n = go (check fits NotInOrder (clock_end_verdict (bare m) n)) refl
    where
      go : (v : Verdict) → check fits NotInOrder (clock_end_verdict (bare m) n) ≡ v → Tells s (clock_end_step fits m n)
      go (Ok tt) e =
          subst (Tells s) (end-taken fits m n e)
          (unfold step_by in unfold take_clock_end in unfold hand_on in (λ t. good _ e (end-may fits m n e).0, λ t u. absurd (false≢true (sym t))))
      go (Err why) e =
          subst (Tells s) (end-left fits m n why e) (unfold step_by in unfold plain in (λ t. absurd (false≢true t), λ t u. refl))

  -- the same for the code's step, made on the numbers k read from the state
  module _ (k : Numbers) (e : k ≡ numbers_of s) (n : ℕ) (step : Step) where
    pub arrival-tells : step ≡ arrive_step fits k n → Tells s step
    arrival-tells q = subst (Tells s) (sym (q ∙ ap (λ (x : Numbers). arrive_step fits x n) e)) (arrive-tells n)

    pub clock-tells : step ≡ clock_end_step fits k n → Tells s step
    clock-tells q = subst (Tells s) (sym (q ∙ ap (λ (x : Numbers). clock_end_step fits x n) e)) (end-tells n)
