-- Every refusal number is from 1 to 23, so that it fits the low byte of an answer that is one
-- number.
-- Assumes nothing.
use mathlib.Core.Path.{◌≡◌, refl, sym}
use mathlib.Core.Logic.{◌≢◌}
use Prim.Native.Nat.{ℕ, ◌/◌, ◌≤◌}
use borrow.Author.Tests.{ne_eqb}
use native.Mathlib.Omega.{arith}
use Rattle.refusal.specs.declared.Refusal.{Refusal}
use Rattle.refusal.specs.declared.Refusal.TheVariants.{OutOfRange, Malformed, FormatError, MessageTooLong, OutputTooShort, RouteListMalformed, NoClock, NoInterrogator, WindowClosed, OutsideWindow, OutOfSequence, FirstNotZero, PacketTooLong, NotInOrder, AllFailed, NeverSent, RunBroken, ShortForm}
use Rattle.refusal.specs.Numbers.{number_of, refusal_at}

pub number-range : (why : Refusal) → (1 ≤ number_of why) × (number_of why ≤ 23)
number-range OutOfRange = omega arith
number-range Malformed = omega arith
number-range FormatError = omega arith
number-range MessageTooLong = omega arith
number-range OutputTooShort = omega arith
number-range RouteListMalformed = omega arith
number-range NoClock = omega arith
number-range NoInterrogator = omega arith
number-range WindowClosed = omega arith
number-range OutsideWindow = omega arith
number-range OutOfSequence = omega arith
number-range FirstNotZero = omega arith
number-range PacketTooLong = omega arith
number-range NotInOrder = omega arith
number-range AllFailed = omega arith
number-range NeverSent = omega arith
number-range RunBroken = omega arith
number-range ShortForm = omega arith

-- a refusal's number fits one byte
pub number-alone : (why : Refusal) → number_of why / 256 ≡ 0
number-alone why = omega (arith, (number-range why).1)

-- a refusal is the one with its number
pub number-back : (why : Refusal) → refusal_at (number_of why) ≡ why
unfolding refusal_at
number-back OutOfRange = refl
number-back Malformed = refl
number-back FormatError = refl
number-back MessageTooLong = refl
number-back OutputTooShort = refl
number-back RouteListMalformed = refl
number-back NoClock = refl
number-back NoInterrogator = refl
number-back WindowClosed = refl
number-back OutsideWindow = refl
number-back OutOfSequence = refl
number-back FirstNotZero = refl
number-back PacketTooLong = refl
number-back NotInOrder = refl
number-back AllFailed = refl
number-back NeverSent = refl
number-back RunBroken = refl
number-back ShortForm = refl

-- a number that no refusal has
pub none-at : (n : ℕ) → ((why : Refusal) → number_of why ≢ n) → refusal_at n ≡ OutOfRange
unfolding refusal_at
none-at n none = simp (
  ne_eqb n 2 (λ e. none Malformed (sym e)),
  ne_eqb n 3 (λ e. none FormatError (sym e)),
  ne_eqb n 4 (λ e. none MessageTooLong (sym e)),
  ne_eqb n 5 (λ e. none OutputTooShort (sym e)),
  ne_eqb n 6 (λ e. none RouteListMalformed (sym e)),
  ne_eqb n 7 (λ e. none NoClock (sym e)),
  ne_eqb n 8 (λ e. none NoInterrogator (sym e)),
  ne_eqb n 9 (λ e. none WindowClosed (sym e)),
  ne_eqb n 10 (λ e. none OutsideWindow (sym e)),
  ne_eqb n 11 (λ e. none OutOfSequence (sym e)),
  ne_eqb n 12 (λ e. none FirstNotZero (sym e)),
  ne_eqb n 13 (λ e. none PacketTooLong (sym e)),
  ne_eqb n 14 (λ e. none NotInOrder (sym e)),
  ne_eqb n 15 (λ e. none AllFailed (sym e)),
  ne_eqb n 16 (λ e. none NeverSent (sym e)),
  ne_eqb n 17 (λ e. none RunBroken (sym e)),
  ne_eqb n 23 (λ e. none ShortForm (sym e)),
)
