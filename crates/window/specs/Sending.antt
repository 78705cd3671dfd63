-- The sending end of the flow window: document 01, "The two counters", second paragraph, and good
-- order from the third; and document 02, Q-4: "RNR closes the sending end of its circuit until an
-- RR or REJECT comes". The field `edge` is the paper's lower edge, `ps` its next PS, `held` the
-- mark that an RNR holds the end off.
-- Assumes nothing.
use Rattle.std.specs.Prelude.{Bool, true, false, not, ◌&&◌, ℕ, leb, Result, Ok, Err}
use Rattle.refusal.specs.declared.Refusal.{Refusal}
use Rattle.refusal.specs.declared.Refusal.TheVariants.{OutOfRange, WindowClosed, NotInOrder, NeverSent}
use Rattle.refusal.specs.Numbers.{check, Verdict}
use Rattle.sequence.specs.declared.PacketNumber.{PacketNumber}
use Rattle.sequence.specs.Modular.{distance, next}
use Rattle.sequence.specs.Numbers.{packet, in_field}
use Rattle.window.specs.declared.sender.Sender.{Sender}
use Rattle.window.specs.declared.sender.Sent.{Sent}
use Rattle.window.specs.declared.sender.Acknowledged.{Acknowledged}

-- "Fresh: both 0", and not held off
abbrev pub fresh_sender : Sender
fresh_sender = record { edge = packet 0; ps = packet 0; held = false }

-- "Good order: edge, next .. at most 15". It says nothing of the mark
unfoldable pub sender_in_order : Sender → Bool
sender_in_order s = leb s.edge.0 15 && leb s.ps.0 15

-- ---- asking for permission to send

-- the PS that the answer to `send` grants, 0 if it is refused
abbrev pub grant_ps : Result PacketNumber Refusal → ℕ
grant_ps (Ok ps) = ps.0
grant_ps (Err why) = 0

-- the checks in their order: 14, and then 9: "Sending is permitted exactly if the distance from
-- edge to next is at most 14", and "9 also while a circuit is held off by RNR"
unfoldable pub send_verdict : Sender → Verdict
send_verdict s =
    check (sender_in_order s) NotInOrder
    (check (leb (distance 16 s.edge.0 s.ps.0) 14 && not s.held) WindowClosed
    (Ok tt))

-- the answer and the next state, by the verdict. Permitted: "it answers next, which then goes up by
-- one modulo 16". Refused: "the same state".
abbrev pub send_by : Verdict → Sender → Sent
send_by (Ok tt) s = record { answer = Ok s.ps; next = record { edge = s.edge; ps = packet (next 16 s.ps.0); held = s.held } }
send_by (Err why) s = record { answer = Err why; next = s }

-- what `send` returns for the end s
unfoldable pub send_of : Sender → Sent
send_of s = send_by (send_verdict s) s

-- ---- a received PR

-- the checks in their order: 14, 1, and then 16: "An incoming PR is accepted if its distance from
-- the edge is no more than that of next"
unfoldable pub acknowledge_verdict : Sender → ℕ → Verdict
acknowledge_verdict s pr =
    check (sender_in_order s) NotInOrder
    (check (in_field 16 pr) OutOfRange
    (check (leb (distance 16 s.edge.0 pr) (distance 16 s.edge.0 s.ps.0)) NeverSent
    (Ok tt)))

-- the answer and the next state, by the verdict; `held` is the mark afterwards. Accepted: "it
-- becomes the edge". Refused: "the same state", so that the mark stays as it is: "a refused one
-- changes nothing".
abbrev pub acknowledge_by : Verdict → Sender → ℕ → Bool → Acknowledged
acknowledge_by (Ok tt) s pr held = record { verdict = Ok tt; next = record { edge = packet pr; ps = s.ps; held = held } }
acknowledge_by (Err why) s pr held = record { verdict = Err why; next = s }

-- what `acknowledge` returns for the end s and a PR that DATA carries: the mark stays as it is
unfoldable pub acknowledge_of : Sender → ℕ → Acknowledged
acknowledge_of s pr = acknowledge_by (acknowledge_verdict s pr) s pr s.held

-- ---- RR, RNR and REJECT: "each first gives its PR"

-- what `ready` returns for the PR of an RR: the mark is lifted
unfoldable pub ready_of : Sender → ℕ → Acknowledged
ready_of s pr = acknowledge_by (acknowledge_verdict s pr) s pr false

-- what `not_ready` returns for the PR of an RNR: the mark is set
unfoldable pub not_ready_of : Sender → ℕ → Acknowledged
not_ready_of s pr = acknowledge_by (acknowledge_verdict s pr) s pr true

-- what `reject` returns for the PR of a REJECT: the mark is lifted, and "REJECT leaves next as it
-- is (house)"
unfoldable pub reject_of : Sender → ℕ → Acknowledged
reject_of s pr = acknowledge_by (acknowledge_verdict s pr) s pr false
