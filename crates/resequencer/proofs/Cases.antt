-- The answer to an arrival and to a clock end, case by case: the premises are the tests of the
-- definition.
-- Assumes nothing.
use mathlib.Core.Path.{◌≡◌, ap}
use mathlib.Core.Bool.{true, false}
use mathlib.Core.Logic.{◌≢◌}
use Prim.Native.Nat.{ℕ, ◌≤◌, ◌<◌}
use native.Mathlib.Omega.{arith}
use borrow.Author.Tests.{ltb-true, lt-ltb, le-ltb, eq-eqb, ne_eqb}
use Rattle.refusal.specs.declared.Refusal.{Refusal}
use Rattle.refusal.proofs.Checks.{check_done}
use Rattle.sequence.specs.Numbers.{in_field}
use Rattle.resequencer.specs.declared.Resequencer.{Resequencer}
use Rattle.resequencer.specs.State.{is_held, has_clock, ahead, in_order}
use Rattle.resequencer.specs.Events.{plain, hold, hand_on_run, take_arrival, arrive_verdict, arrive_by, arrive_of, take_clock_end, clock_end_verdict, clock_end_by, clock_end_of}
use Rattle.refusal.specs.Numbers.{Verdict}
use Rattle.resequencer.specs.declared.Outcome.TheVariants.{Held, Old, Duplicate}
use Rattle.std.specs.Prelude.{Ok, Err}

module _ (s : Resequencer) where
  module _ (n ticket : ℕ) where
    -- ---- an arrival

    pub old : 31 < ahead s n → take_arrival s n ticket ≡ plain (Ok Old) s
    unfolding take_arrival
    old a = rw (lt-ltb 31 (ahead s n) a)

    pub duplicate : ahead s n ≤ 31 → is_held s n ≡ true → take_arrival s n ticket ≡ plain (Ok Duplicate) s
    unfolding take_arrival
    duplicate a h = rw (le-ltb 31 (ahead s n) a, h)

    pub expected : ahead s n ≡ 0 → is_held s n ≡ false → take_arrival s n ticket ≡ hand_on_run s ticket
    unfolding take_arrival
    expected a h = rw (le-ltb 31 (ahead s n) (omega arith), h, eq-eqb (ahead s n) 0 a)

    pub held_on : ahead s n ≤ 31 → is_held s n ≡ false → ahead s n ≢ 0 → take_arrival s n ticket ≡ plain (Ok Held) (hold s n ticket)
    unfolding take_arrival
    held_on a h z = rw (le-ltb 31 (ahead s n) a, h, ne_eqb (ahead s n) 0 z)

    pub arrive-done : arrive_verdict s n ≡ Ok tt → arrive_of s n ticket ≡ take_arrival s n ticket
    unfolding arrive_of
    arrive-done e = ap (λ (v : Verdict). arrive_by v s n ticket) e

    pub arrive-refused : (why : Refusal) → arrive_verdict s n ≡ Err why → arrive_of s n ticket ≡ plain (Err why) s
    unfolding arrive_of
    arrive-refused why e = ap (λ (v : Verdict). arrive_by v s n ticket) e

  module _ (n : ℕ) where
    -- what holds if an arrival is not refused
    pub arrive-passed : arrive_verdict s n ≡ Ok tt → (in_order s ≡ true) × (n < 64)
    unfolding arrive_verdict
    arrive-passed e =
        let a = check_done (in_order s) _ _ e in
        (a.0, ltb-true n 64 (check_done (in_field 64 n) _ _ a.1).0)

    -- ---- the end of a clock

    pub end-done : clock_end_verdict s n ≡ Ok tt → clock_end_of s n ≡ take_clock_end s n
    unfolding clock_end_of
    end-done e = ap (λ (v : Verdict). clock_end_by v s n) e

    pub end_refused : (why : Refusal) → clock_end_verdict s n ≡ Err why → clock_end_of s n ≡ plain (Err why) s
    unfolding clock_end_of
    end_refused why e = ap (λ (v : Verdict). clock_end_by v s n) e

    pub end-passed : clock_end_verdict s n ≡ Ok tt → (in_order s ≡ true) × ((n < 64) × (has_clock s n ≡ true))
    unfolding clock_end_verdict
    end-passed e =
        let a = check_done (in_order s) _ _ e in
        let b = check_done (in_field 64 n) _ _ a.1 in
        (a.0, (ltb-true n 64 b.0, (check_done (has_clock s n) _ _ b.1).0))
