-- The ends of the flow window in lent bytes, and the answer of each call as one number. What a call
-- answers and the next state of the end are defined in `window`, specs/Sending.antt and
-- specs/Receiving.antt; this file defines how both are encoded. Document 01 does not say how a
-- state is stored; of it only "Refusal numbers" is used here.
-- Assumes nothing.
use Rattle.std.specs.Prelude.{◌≡◌, Bool, true, false, cond, ◌&&◌, List, [], ◌∷◌, ℕ, ◌+◌, ◌*◌, leb, eqb, length, get_or, Result, Option, Some, None}
use Rattle.refusal.specs.declared.Refusal.{Refusal}
use Rattle.refusal.specs.declared.Refusal.TheVariants.{NotInOrder}
use Rattle.refusal.specs.Numbers.{number_of, refusal_number}
use Rattle.little.specs.Little.{flag}
use Rattle.sequence.specs.declared.PacketNumber.{PacketNumber}
use Rattle.sequence.specs.Numbers.{packet}
use Rattle.window.specs.declared.sender.Sender.{Sender}
use Rattle.window.specs.Sending.{fresh_sender, sender_in_order, grant_ps, send_of}
use Rattle.window.specs.History.{Carrier, pr_of}
use Rattle.window.specs.declared.receiver.Receiver.{Receiver}
use Rattle.window.specs.Receiving.{fresh_receiver, receiver_in_order, receipt_due, receive_of, telling_pr, tell_of}

-- an answer as one number: the refusal number plus 256 times the value
abbrev pub answer_with : ℕ → ℕ → ℕ
answer_with number value = number + 256 * value

-- ---- the sending end: 3 bytes, the edge, the next PS, and the mark "held off" as 0 or 1

-- the bytes encode a sending end, in good order or not: there are 3, and the mark is 0 or 1
unfoldable pub is_sender : List ℕ → Bool
is_sender b = eqb (length b) 3 && leb (get_or b 2 0) 1

-- the end that the bytes encode
abbrev pub sender_in : List ℕ → Sender
sender_in b = record { edge = packet (get_or b 0 0); ps = packet (get_or b 1 0); held = eqb (get_or b 2 0) 1 }

-- the bytes of an end
abbrev pub sender_bytes : Sender → List ℕ
sender_bytes s = s.edge.0 ∷ s.ps.0 ∷ flag s.held ∷ []

-- the answer to `send`: the value is the PS granted
abbrev pub grant_answer : Result PacketNumber Refusal → ℕ
grant_answer g = answer_with (refusal_number g) (grant_ps g)

-- a fresh end: any 3 bytes are overwritten with it, whatever the mark was; another number of bytes
-- is refused with 14, and nothing is written
unfoldable pub fresh_sender_answer : List ℕ → ℕ
fresh_sender_answer b = cond (eqb (length b) 3) 0 (number_of NotInOrder)

-- the bytes afterwards
unfoldable pub fresh_sender_bytes : List ℕ → List ℕ
fresh_sender_bytes b = cond (eqb (length b) 3) (sender_bytes fresh_sender) b

-- 0 if the bytes encode a sending end in good order, else 14
unfoldable pub sender_order_answer : List ℕ → ℕ
sender_order_answer b = cond (is_sender b && sender_in_order (sender_in b)) 0 (number_of NotInOrder)

-- asking for a PS; bytes that encode no sending end are refused with 14, and nothing is written
unfoldable pub send_answer : List ℕ → ℕ
send_answer b = cond (is_sender b) (grant_answer (send_of (sender_in b)).answer) (number_of NotInOrder)

-- the bytes afterwards
unfoldable pub send_bytes : List ℕ → List ℕ
send_bytes b = cond (is_sender b) (sender_bytes (send_of (sender_in b)).next) b

-- taking a received PR, which DATA, RR, RNR or REJECT carries: the answer is the refusal number
-- alone, without a value
unfoldable pub pr_answer : Carrier → List ℕ → ℕ → ℕ
pr_answer carrier b pr = cond (is_sender b) (refusal_number (pr_of carrier (sender_in b) pr).verdict) (number_of NotInOrder)

-- the bytes afterwards
unfoldable pub pr_bytes : Carrier → List ℕ → ℕ → List ℕ
pr_bytes carrier b pr = cond (is_sender b) (sender_bytes (pr_of carrier (sender_in b) pr).next) b

-- ---- the receiving end: 3 bytes, the expected PS, the first-packet mark as 0 or 1, and the count

-- the bytes encode a receiving end, in good order or not: there are 3, and the mark is 0 or 1
unfoldable pub is_receiver : List ℕ → Bool
is_receiver b = eqb (length b) 3 && leb (get_or b 1 0) 1

-- the end that the bytes encode
abbrev pub receiver_in : List ℕ → Receiver
receiver_in b = record { expected = packet (get_or b 0 0); first = eqb (get_or b 1 0) 1; untold = get_or b 2 0 }

-- the bytes of an end
abbrev pub receiver_bytes : Receiver → List ℕ
receiver_bytes r = r.expected.0 ∷ flag r.first ∷ r.untold ∷ []

-- the answer to `receive`: the value is 1 if PR is due, else 0
abbrev pub receipt_answer : Result Bool Refusal → ℕ
receipt_answer r = answer_with (refusal_number r) (flag (receipt_due r))

-- the answer to `tell`: the value is PR
abbrev pub telling_answer : Result PacketNumber Refusal → ℕ
telling_answer t = answer_with (refusal_number t) (telling_pr t)

-- a fresh end: any 3 bytes are overwritten with it, whatever the mark was; another number of bytes
-- is refused with 14, and nothing is written
unfoldable pub fresh_receiver_answer : List ℕ → ℕ
fresh_receiver_answer b = cond (eqb (length b) 3) 0 (number_of NotInOrder)

-- the bytes afterwards
unfoldable pub fresh_receiver_bytes : List ℕ → List ℕ
fresh_receiver_bytes b = cond (eqb (length b) 3) (receiver_bytes fresh_receiver) b

-- 0 if the bytes encode a receiving end in good order, else 14
unfoldable pub receiver_order_answer : List ℕ → ℕ
receiver_order_answer b = cond (is_receiver b && receiver_in_order (receiver_in b)) 0 (number_of NotInOrder)

-- taking a received PS; bytes that encode no receiving end are refused with 14, and nothing is
-- written
unfoldable pub receive_answer : List ℕ → ℕ → ℕ
receive_answer b ps = cond (is_receiver b) (receipt_answer (receive_of (receiver_in b) ps).answer) (number_of NotInOrder)

-- the bytes afterwards
unfoldable pub receive_bytes : List ℕ → ℕ → List ℕ
receive_bytes b ps = cond (is_receiver b) (receiver_bytes (receive_of (receiver_in b) ps).next) b

-- telling PR; bytes that encode no receiving end are refused with 14, and nothing is written
unfoldable pub tell_answer : List ℕ → ℕ
tell_answer b = cond (is_receiver b) (telling_answer (tell_of (receiver_in b)).answer) (number_of NotInOrder)

-- the bytes afterwards
unfoldable pub tell_bytes : List ℕ → List ℕ
tell_bytes b = cond (is_receiver b) (receiver_bytes (tell_of (receiver_in b)).next) b
