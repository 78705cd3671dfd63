-- Checks that say where the fault is: document 02, Q-5, "Every frame read must also give the byte
-- position of the first fault". Each check has the refusal and the position that it gives.
-- Assumes nothing.
use Rattle.std.specs.Prelude.{Bool, true, false, ℕ, ◌+◌, Result, Ok, Err}
use Rattle.refusal.specs.declared.Refusal.{Refusal}
use Rattle.refusal.specs.declared.Fault.{Fault}
use Rattle.refusal.specs.Numbers.{number_of, Verdict}

-- the checks of a call: all passed, or the first that failed gave this refusal at this position
abbrev pub Checked : Type 0
Checked = Result Unit Fault

-- an answer that is this refusal, at this position
abbrev pub refused_at : {T : Type 0} → Refusal → ℕ → Result T Fault
refused_at why at = Err (record { why = why; at = at })

-- the test must hold, else the call is refused with `why` at the position `at`; `rest` are the
-- checks after it
abbrev pub check_at : Bool → Refusal → ℕ → Checked → Checked
check_at true why at rest = rest
check_at false why at rest = refused_at why at

-- the checks of the first, then those of the second
abbrev pub and_then_at : Checked → Checked → Checked
and_then_at (Ok tt) rest = rest
and_then_at (Err fault) rest = Err fault

-- a verdict whose refusals are all given at one position
abbrev pub all_at : ℕ → Verdict → Checked
all_at at (Ok tt) = Ok tt
all_at at (Err why) = refused_at why at

-- the same checks, with every position counted from `start` places before
abbrev pub from : ℕ → Checked → Checked
from start (Ok tt) = Ok tt
from start (Err fault) = refused_at fault.why (start + fault.at)

-- the same checks without the position
abbrev pub verdict_of : Checked → Verdict
verdict_of (Ok tt) = Ok tt
verdict_of (Err fault) = Err fault.why

-- the number of an answer that says where the fault is: 0 is "done", else the refusal's number
abbrev pub fault_number : {T : Type 0} → Result T Fault → ℕ
fault_number (Ok done) = 0
fault_number (Err fault) = number_of fault.why

-- the position of the fault; 0 if there is none
abbrev pub fault_position : {T : Type 0} → Result T Fault → ℕ
fault_position (Ok done) = 0
fault_position (Err fault) = fault.at
