-- The receiving end of the flow window: document 01, "The two counters", third paragraph.
-- Assumes nothing.
use Rattle.std.specs.Prelude.{Bool, true, false, not, cond, ◌&&◌, ◌||◌, ℕ, ◌+◌, min, leb, eqb, Result, Ok, Err}
use Rattle.refusal.specs.declared.Refusal.{Refusal}
use Rattle.refusal.specs.declared.Refusal.TheVariants.{OutOfRange, OutsideWindow, OutOfSequence, FirstNotZero, NotInOrder}
use Rattle.refusal.specs.Numbers.{check, Verdict}
use Rattle.sequence.specs.declared.PacketNumber.{PacketNumber}
use Rattle.sequence.specs.Modular.{distance, next}
use Rattle.sequence.specs.Numbers.{packet, in_field}
use Rattle.window.specs.declared.receiver.Receiver.{Receiver}
use Rattle.window.specs.declared.receiver.Received.{Received}
use Rattle.window.specs.declared.receiver.Told.{Told}

-- "Fresh: 0, mark standing, 0."
abbrev pub fresh_receiver : Receiver
fresh_receiver = record { expected = packet 0; first = true; untold = 0 }

-- "Good order: .. expected at most 15, count at most 8; while the mark stands, expected and count
-- are 0."
unfoldable pub receiver_in_order : Receiver → Bool
receiver_in_order r =
    leb r.expected.0 15 && (leb r.untold 8 && (not r.first || (eqb r.expected.0 0 && eqb r.untold 0)))

-- ---- a received PS

-- whether the answer to `receive` says that PR is due; a refusal never does
abbrev pub receipt_due : Result Bool Refusal → Bool
receipt_due (Ok due) = due
receipt_due (Err why) = false

-- the refusal of a PS that is not the expected one: "Any other PS is refused: 12 if the mark
-- stands, else 10 if its distance from expected is 15, else 11."
unfoldable pub other_ps : Receiver → ℕ → Refusal
other_ps r ps = cond r.first FirstNotZero (cond (eqb (distance 16 r.expected.0 ps) 15) OutsideWindow OutOfSequence)

-- the checks in their order: 14, 1, and then "The expected PS is accepted", any other refused with
-- 12, 10 or 11
unfoldable pub receive_verdict : Receiver → ℕ → Verdict
receive_verdict r ps =
    check (receiver_in_order r) NotInOrder
    (check (in_field 16 ps) OutOfRange
    (check (eqb ps r.expected.0) (other_ps r ps)
    (Ok tt)))

-- the count after one more packet: it goes up "by one but never over 8"
abbrev pub count_after : Receiver → ℕ
count_after r = min 8 (r.untold + 1)

-- "At 8 the answer says that PR is due"
abbrev pub due_after : Receiver → Bool
due_after r = eqb (count_after r) 8

-- the answer and the next state, by the verdict. Accepted: "the mark falls, expected goes up by one
-- modulo 16, the count by one but never over 8. At 8 the answer says that PR is due". Refused: "the
-- same state", so that the mark stays as it is.
abbrev pub receive_by : Verdict → Receiver → Received
receive_by (Ok tt) r = record {
  answer = Ok (due_after r);
  next = record { expected = packet (next 16 r.expected.0); first = false; untold = count_after r };
}
receive_by (Err why) r = record { answer = Err why; next = r }

-- what `receive` returns for the end r and a received PS
unfoldable pub receive_of : Receiver → ℕ → Received
receive_of r ps = receive_by (receive_verdict r ps) r

-- ---- telling PR

-- the PR that the answer to `tell` gives, 0 if it is refused
abbrev pub telling_pr : Result PacketNumber Refusal → ℕ
telling_pr (Ok pr) = pr.0
telling_pr (Err why) = 0

-- the check: 14
unfoldable pub tell_verdict : Receiver → Verdict
tell_verdict r = check (receiver_in_order r) NotInOrder (Ok tt)

-- the answer and the next state, by the verdict: PR is the expected PS, "telling sets the count to
-- 0", and the mark stays as it is. Refused: "the same state".
abbrev pub tell_by : Verdict → Receiver → Told
tell_by (Ok tt) r = record { answer = Ok r.expected; next = record { expected = r.expected; first = r.first; untold = 0 } }
tell_by (Err why) r = record { answer = Err why; next = r }

-- what `tell` returns for the end r
unfoldable pub tell_of : Receiver → Told
tell_of r = tell_by (tell_verdict r) r
