-- The refusal numbers, and how the definitions list the checks of a call: document 01, "Refusal
-- numbers", and document 02 for the numbers past 17.
-- Assumes nothing.
use Rattle.std.specs.Prelude.{Bool, true, false, cond, ℕ, eqb, ◌≡◌, ◌≢◌, Result, Ok, Err}
use Rattle.refusal.specs.declared.Refusal.{Refusal}
use Rattle.refusal.specs.declared.Refusal.TheVariants.{OutOfRange, Malformed, FormatError, MessageTooLong, OutputTooShort, RouteListMalformed, NoClock, NoInterrogator, WindowClosed, OutsideWindow, OutOfSequence, FirstNotZero, PacketTooLong, NotInOrder, AllFailed, NeverSent, RunBroken, ShortForm}
use Rattle.refusal.specs.declared.UnknownNumber.{UnknownNumber}

-- the number of each refusal in the table
abbrev pub number_of : Refusal → ℕ
number_of OutOfRange = 1
number_of Malformed = 2
number_of FormatError = 3
number_of MessageTooLong = 4
number_of OutputTooShort = 5
number_of RouteListMalformed = 6
number_of NoClock = 7
number_of NoInterrogator = 8
number_of WindowClosed = 9
number_of OutsideWindow = 10
number_of OutOfSequence = 11
number_of FirstNotZero = 12
number_of PacketTooLong = 13
number_of NotInOrder = 14
number_of AllFailed = 15
number_of NeverSent = 16
number_of RunBroken = 17
number_of ShortForm = 23

-- the refusal with a number in the table; `OutOfRange` if there is none
unfoldable pub refusal_at : ℕ → Refusal
refusal_at n =
    cond (eqb n 2) Malformed
    (cond (eqb n 3) FormatError
    (cond (eqb n 4) MessageTooLong
    (cond (eqb n 5) OutputTooShort
    (cond (eqb n 6) RouteListMalformed
    (cond (eqb n 7) NoClock
    (cond (eqb n 8) NoInterrogator
    (cond (eqb n 9) WindowClosed
    (cond (eqb n 10) OutsideWindow
    (cond (eqb n 11) OutOfSequence
    (cond (eqb n 12) FirstNotZero
    (cond (eqb n 13) PacketTooLong
    (cond (eqb n 14) NotInOrder
    (cond (eqb n 15) AllFailed
    (cond (eqb n 16) NeverSent
    (cond (eqb n 17) RunBroken
    (cond (eqb n 23) ShortForm OutOfRange))))))))))))))))

-- the conversion from a number: the refusal that has it, else the number is told back
abbrev pub Numbered : ℕ → Result Refusal UnknownNumber → Type 0
Numbered n (Ok why) = number_of why ≡ n
Numbered n (Err unknown) = (unknown.0 ≡ n) × ((why : Refusal) → number_of why ≢ n)

-- the number of an answer: 0 is "done", else the refusal's number
abbrev pub refusal_number : {T : Type 0} → Result T Refusal → ℕ
refusal_number (Ok done) = 0
refusal_number (Err why) = number_of why

-- what the checks of a call come to: all hold, or the refusal of the first that fails
abbrev pub Verdict : Type 0
Verdict = Result Unit Refusal

-- a value of an answer by the verdict of its checks: "A refusal returns its number, counts of 0,
-- unused places 0"
abbrev pub value_by : Verdict → ℕ → ℕ
value_by (Ok tt) n = n
value_by (Err why) n = 0

-- the same for a value that is a flag: false after a refusal
abbrev pub flag_by : Verdict → Bool → Bool
flag_by (Ok tt) b = b
flag_by (Err why) b = false

-- ---- the checks of a call, in the order in which it makes them: check test1 why1 (check test2
-- why2 (.. (Ok tt))). The first test that fails gives the refusal; if all tests hold, the verdict is
-- `Ok tt`.

-- the test must hold, else the call is refused with `why`; `rest` is the verdict of the checks
-- after it
abbrev pub check : Bool → Refusal → Verdict → Verdict
check true why rest = rest
check false why rest = Err why

-- the checks of the first verdict, then those of the second
abbrev pub and_then : Verdict → Verdict → Verdict
and_then (Ok tt) rest = rest
and_then (Err why) rest = Err why
