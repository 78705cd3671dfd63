-- The claim about both ends together (document 01, "The two counters"): if packets and PR are
-- delivered in the order in which they were sent and none is lost, no PS and no PR that is
-- delivered is refused. (Asking for a PS may be refused with 9.) proofs/BothEnds.antt proves it.
-- Assumes nothing.
use Rattle.std.specs.Prelude.{◌≡◌, List, [], ◌∷◌, ◌++◌, ℕ, length, replicate, Result, Ok, Err}
use Rattle.refusal.specs.declared.Refusal.{Refusal}
use Rattle.refusal.specs.Numbers.{refusal_number}
use Rattle.sequence.specs.declared.PacketNumber.{PacketNumber}
use Rattle.window.specs.declared.sender.Sender.{Sender}
use Rattle.window.specs.declared.receiver.Receiver.{Receiver}
use Rattle.window.specs.Sending.{fresh_sender, send_of}
use Rattle.window.specs.Receiving.{fresh_receiver, receive_of, tell_of}
use Rattle.window.specs.History.{Carrier, pr_of, note_grant}

-- a PR on the way back, and the packet that carries it
pub record OnTheWay : Type 0 where
  pub carrier : Carrier
  pub pr : ℕ

-- one direction of a circuit: its two ends; `packets`, the PS of the packets sent and not yet
-- delivered, the first one sent first; `tellings`, the same of the PR on the way back; and
-- `numbers`, the refusal number, 0 for accepted, of each PS and each PR delivered so far
pub record Flow : Type 0 where
  pub sender : Sender
  pub receiver : Receiver
  pub packets : List ℕ
  pub tellings : List OnTheWay
  pub numbers : List ℕ

-- what may happen, in any order: the sending end is asked for a PS, and a packet is sent with it if
-- one is granted (`grant`); the first packet on the way is delivered to the receiving end
-- (`deliver`); the receiving end tells PR, which is sent back in DATA, RR, RNR or REJECT (`tell`);
-- the first PR on the way is delivered to the sending end (`deliver_pr`)
pub data FlowEvent : Type 0 where
  grant : FlowEvent
  deliver : FlowEvent
  tell : Carrier → FlowEvent
  deliver_pr : FlowEvent

-- a PR that is told is sent after those on the way
abbrev pub note_telling : Result PacketNumber Refusal → Carrier → List OnTheWay → List OnTheWay
note_telling (Ok pr) carrier tellings = tellings ++ (record { carrier = carrier; pr = pr.0 } ∷ [])
note_telling (Err why) carrier tellings = tellings

-- the first of these packets on the way is delivered; if there is none, nothing happens
abbrev pub delivered : Flow → List ℕ → Flow
delivered f [] = f
delivered f (ps ∷ rest) = record {
  sender = f.sender;
  receiver = (receive_of f.receiver ps).next;
  packets = rest;
  tellings = f.tellings;
  numbers = f.numbers ++ (refusal_number (receive_of f.receiver ps).answer ∷ []);
}

-- the same of the PR on the way back
abbrev pub delivered_pr : Flow → List OnTheWay → Flow
delivered_pr f [] = f
delivered_pr f (t ∷ rest) = record {
  sender = (pr_of t.carrier f.sender t.pr).next;
  receiver = f.receiver;
  packets = f.packets;
  tellings = rest;
  numbers = f.numbers ++ (refusal_number (pr_of t.carrier f.sender t.pr).verdict ∷ []);
}

-- one event
abbrev pub flow_step : Flow → FlowEvent → Flow
flow_step f grant = record {
  sender = (send_of f.sender).next;
  receiver = f.receiver;
  packets = note_grant (send_of f.sender).answer f.packets;
  tellings = f.tellings;
  numbers = f.numbers;
}
flow_step f deliver = delivered f f.packets
flow_step f (tell carrier) = record {
  sender = f.sender;
  receiver = (tell_of f.receiver).next;
  packets = f.packets;
  tellings = note_telling (tell_of f.receiver).answer carrier f.tellings;
  numbers = f.numbers;
}
flow_step f deliver_pr = delivered_pr f f.tellings

-- a list of events
unfoldable pub flow_run : Flow → List FlowEvent → Flow
flow_run f [] = f
flow_run f (e ∷ es) = flow_run (flow_step f e) es

-- a list of events that starts from fresh ends with nothing on the way
abbrev pub flow_after : List FlowEvent → Flow
flow_after events = flow_run (record { sender = fresh_sender; receiver = fresh_receiver; packets = []; tellings = []; numbers = [] }) events

-- every PS and every PR delivered is accepted: no refusal 10, 11, 12 or 16, nor any other
abbrev pub NoneRefused : List FlowEvent → Type 0
NoneRefused events = (flow_after events).numbers ≡ replicate (length (flow_after events).numbers) 0
