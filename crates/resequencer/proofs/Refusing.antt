-- Refusals change nothing: an answer whose number is not 0 comes from a refusing verdict, and there
-- the definition returns the given state.
-- Assumes nothing.
use mathlib.Core.Path.{◌≡◌, refl}
use mathlib.Core.Bool.{Bool, true, false, cond}
use mathlib.Core.Logic.{◌≢◌}
use Prim.Native.Nat.{ℕ}
use lib.Dec.{ltb, eqb}
use Rattle.resequencer.specs.declared.Resequencer.{Resequencer}
use Rattle.resequencer.specs.declared.Answer.{Answer}
use Rattle.resequencer.specs.State.{is_held, ahead}
use Rattle.resequencer.specs.Events.{plain, hand_on, hand_on_run, take_arrival, arrive_verdict, arrive_by, arrive_of, take_clock_end, clock_end_verdict, clock_end_by, clock_end_of}
use Rattle.resequencer.specs.Refusing.{RefusalsChangeNothing}
use Rattle.refusal.specs.Numbers.{Verdict, refusal_number}
use Rattle.std.specs.Prelude.{Ok, Err}

abbrev pub Accepted : Answer → Type 0
Accepted a = refusal_number a.outcome ≡ 0

either-accepted : (b : Bool) (x y : Answer) → Accepted x → Accepted y → Accepted (cond b x y)
either-accepted true x y p q = p
either-accepted false x y p q = q

pub taken-accepted : (s : Resequencer) (n ticket : ℕ) → Accepted (take_arrival s n ticket)
unfolding take_arrival hand_on_run hand_on plain
taken-accepted s n ticket =
    either-accepted (ltb 31 (ahead s n)) _ _ refl
    (either-accepted (is_held s n) _ _ refl (either-accepted (eqb (ahead s n) 0) _ _ refl refl))

pub ended-accepted : (s : Resequencer) (n : ℕ) → Accepted (take_clock_end s n)
unfolding take_clock_end hand_on
ended-accepted s n = refl

arrive-by : (v : Verdict) (s : Resequencer) (n ticket : ℕ) → refusal_number (arrive_by v s n ticket).outcome ≢ 0
    → arrive_by v s n ticket ≡ plain (arrive_by v s n ticket).outcome s
arrive-by (Ok tt) s n ticket h = absurd (h (taken-accepted s n ticket))
arrive-by (Err why) s n ticket h = unfold plain in refl

end_by : (v : Verdict) (s : Resequencer) (n : ℕ) → refusal_number (clock_end_by v s n).outcome ≢ 0 → clock_end_by v s n ≡ plain (clock_end_by v s n).outcome s
end_by (Ok tt) s n h = absurd (h (ended-accepted s n))
end_by (Err why) s n h = unfold plain in refl

pub refusals-change-nothing : RefusalsChangeNothing
unfolding arrive_of clock_end_of
refusals-change-nothing = record {
  arrival = λ s n ticket. arrive-by (arrive_verdict s n) s n ticket;
  clock-end = λ s n. end_by (clock_end_verdict s n) s n;
}
