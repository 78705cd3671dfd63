-- The claims about one end over any list of calls, accepted or refused, that starts from a fresh
-- end: document 01, "The two counters"; and about the mark of an end held off: document 02, Q-4.
-- proofs/History.antt and, for the mark, proofs/Holding.antt prove them.
-- Assumes nothing.
use Rattle.std.specs.Prelude.{◌≡◌, Bool, true, false, List, [], ◌∷◌, ◌++◌, ℕ, ◌+◌, ◌%◌, ◌≤◌, ◌<◌, length, get_or, Result, Ok, Err}
use Rattle.refusal.specs.declared.Refusal.{Refusal}
use Rattle.refusal.specs.Numbers.{Verdict}
use Rattle.sequence.specs.declared.PacketNumber.{PacketNumber}
use Rattle.sequence.specs.Modular.{distance}
use Rattle.window.specs.declared.sender.Sender.{Sender}
use Rattle.window.specs.declared.receiver.Receiver.{Receiver}
use Rattle.window.specs.declared.sender.Acknowledged.{Acknowledged}
use Rattle.window.specs.Sending.{fresh_sender, sender_in_order, send_of, acknowledge_of, ready_of, not_ready_of, reject_of}
use Rattle.window.specs.Receiving.{fresh_receiver, receiver_in_order, receive_of, tell_of}

-- each number in the list is its index modulo 16
abbrev pub Numbered : List ℕ → Type 0
Numbered numbers = (i : ℕ) → i < length numbers → get_or numbers i 0 ≡ i % 16

-- ---- the sending end

-- the packet that carries a received PR: DATA, RR, RNR or REJECT
pub data Carrier : Type 0 where
  by_data : Carrier
  ready : Carrier
  not_ready : Carrier
  reject : Carrier

-- what the call for that packet returns
abbrev pub pr_of : Carrier → Sender → ℕ → Acknowledged
pr_of by_data s pr = acknowledge_of s pr
pr_of ready s pr = ready_of s pr
pr_of not_ready s pr = not_ready_of s pr
pr_of reject s pr = reject_of s pr

-- a call: asking for a PS, or taking a PR that such a packet carries
pub data SenderCall : Type 0 where
  send : SenderCall
  take_pr : Carrier → ℕ → SenderCall

-- what there is after some calls: the end, the PS granted so far in their order, and the number of
-- packets acknowledged
pub record SenderHistory : Type 0 where
  pub next : Sender
  pub granted : List ℕ
  pub acknowledged : ℕ

-- a PS that is granted is added to the list
abbrev pub note_grant : Result PacketNumber Refusal → List ℕ → List ℕ
note_grant (Ok ps) granted = granted ++ (ps.0 ∷ [])
note_grant (Err why) granted = granted

-- the number of packets acknowledged after a PR: if it is accepted, the first number from
-- `acknowledged` up that is PR modulo 16, else the same as before
abbrev pub note_pr : Verdict → ℕ → ℕ → ℕ
note_pr (Ok tt) pr acknowledged = acknowledged + distance 16 acknowledged pr
note_pr (Err why) pr acknowledged = acknowledged

-- one more call
abbrev pub sender_step : SenderHistory → SenderCall → SenderHistory
sender_step h send = record {
  next = (send_of h.next).next;
  granted = note_grant (send_of h.next).answer h.granted;
  acknowledged = h.acknowledged;
}
sender_step h (take_pr carrier pr) = record {
  next = (pr_of carrier h.next pr).next;
  granted = h.granted;
  acknowledged = note_pr (pr_of carrier h.next pr).verdict pr h.acknowledged;
}

-- a list of calls
unfoldable pub sender_run : SenderHistory → List SenderCall → SenderHistory
sender_run h [] = h
sender_run h (c ∷ cs) = sender_run (sender_step h c) cs

-- a list of calls that starts from a fresh end
abbrev pub sender_history : List SenderCall → SenderHistory
sender_history calls = sender_run (record { next = fresh_sender; granted = []; acknowledged = 0 }) calls

-- The end is in good order; at most 15 packets are unacknowledged; no more packets are acknowledged
-- than were granted; every PS granted is the number of packets granted before it, modulo 16.
pub record SenderClaim (calls : List SenderCall) : Type 0 where
  pub in_order : sender_in_order (sender_history calls).next ≡ true
  pub at-most-15 : length (sender_history calls).granted ≤ (sender_history calls).acknowledged + 15
  pub none_ahead : (sender_history calls).acknowledged ≤ length (sender_history calls).granted
  pub numbered : Numbered (sender_history calls).granted

-- ---- the sending end, held off

-- the call lifts the mark: it is an RR or a REJECT, and its PR is accepted
abbrev pub Lifts : SenderHistory → SenderCall → Type 0
Lifts h send = ⊥
Lifts h (take_pr by_data pr) = ⊥
Lifts h (take_pr ready pr) = (ready_of h.next pr).verdict ≡ Ok tt
Lifts h (take_pr not_ready pr) = ⊥
Lifts h (take_pr reject pr) = (reject_of h.next pr).verdict ≡ Ok tt

-- none of these calls does
abbrev pub NoneLifts : SenderHistory → List SenderCall → Type 0
NoneLifts h [] = Unit {0}
NoneLifts h (c ∷ cs) = (Lifts h c → ⊥) × NoneLifts (sender_step h c) cs

-- Of any end, damaged or not, and any calls from there.
pub record HoldClaim : Type 0 where
  -- between an accepted RNR and the next accepted RR or REJECT nothing is granted
  pub nothing-while-held : (h : SenderHistory) (pr : ℕ) (calls : List SenderCall) → (not_ready_of h.next pr).verdict ≡ Ok tt
      → NoneLifts (sender_step h (take_pr not_ready pr)) calls → (sender_run h (take_pr not_ready pr ∷ calls)).granted ≡ h.granted
  -- an accepted RR or REJECT lifts the mark, so that the window alone decides from there
  pub lifted : (h : SenderHistory) (c : SenderCall) → Lifts h c → (sender_step h c).next.held ≡ false
  -- a PR that DATA carries leaves the mark, and so does sending
  pub left-by-data : (s : Sender) (pr : ℕ) → (acknowledge_of s pr).next.held ≡ s.held
  pub left-by-sending : (s : Sender) → (send_of s).next.held ≡ s.held
  -- no PR moves the next PS, that of a REJECT neither
  pub next-left : (carrier : Carrier) (s : Sender) (pr : ℕ) → (pr_of carrier s pr).next.ps ≡ s.ps

-- ---- the receiving end

-- a call: taking a received PS, or telling PR
pub data ReceiverCall : Type 0 where
  receive : ℕ → ReceiverCall
  tell : ReceiverCall

-- what there is after some calls: the end, and the PS accepted so far in their order
pub record ReceiverHistory : Type 0 where
  pub next : Receiver
  pub taken : List ℕ

-- a PS that is accepted is added to the list
abbrev pub note_receipt : Result Bool Refusal → ℕ → List ℕ → List ℕ
note_receipt (Ok due) ps taken = taken ++ (ps ∷ [])
note_receipt (Err why) ps taken = taken

-- one more call
abbrev pub receiver_step : ReceiverHistory → ReceiverCall → ReceiverHistory
receiver_step h (receive ps) = record {
  next = (receive_of h.next ps).next;
  taken = note_receipt (receive_of h.next ps).answer ps h.taken;
}
receiver_step h tell = record { next = (tell_of h.next).next; taken = h.taken }

-- a list of calls
unfoldable pub receiver_run : ReceiverHistory → List ReceiverCall → ReceiverHistory
receiver_run h [] = h
receiver_run h (c ∷ cs) = receiver_run (receiver_step h c) cs

-- a list of calls that starts from a fresh end
abbrev pub receiver_history : List ReceiverCall → ReceiverHistory
receiver_history calls = receiver_run (record { next = fresh_receiver; taken = [] }) calls

-- The end is in good order, so that the count of packets not yet told is at most 8; every PS
-- accepted is the number of packets accepted before it, modulo 16.
pub record ReceiverClaim (calls : List ReceiverCall) : Type 0 where
  pub in_order : receiver_in_order (receiver_history calls).next ≡ true
  pub numbered : Numbered (receiver_history calls).taken
