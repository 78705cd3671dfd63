-- The claims about whole transfers: a message that is cut, arrives at a resequencer in any allowed
-- order and is joined from what is handed on, comes back the same. The quotes are from the request
-- for these claims; their terms are those of document 01, "Cutting and joining" and "The
-- resequencer". They hold in every valid form, of the frames that a message has by the layout. In
-- the long forms these are what cutting writes (`cut`); in the short form, which is no longer cut
-- (document 02, Q-14), what a site that still has it sends. proofs/Claims.antt proves them.
-- Assumes nothing.
use Rattle.std.specs.Prelude.{◌≡◌, Bool, true, false, List, [], ◌∷◌, ◌++◌, ℕ, zero, suc, ◌+◌, ◌≤◌, ◌<◌, length, Ok, Err}
use Rattle.refusal.specs.declared.Refusal.{Refusal}
use Rattle.lists.specs.Lists.{over}
use Rattle.lists.specs.Frames.{bytes_in, lengths_of}
use Rattle.frame_form.specs.declared.Form.{Form}
use Rattle.frame_form.specs.Forms.{form_valid, is_long}
use Rattle.frame.specs.Writing.{fits}
use Rattle.message.specs.declared.cutting.Start.{Start}
use Rattle.message.specs.Cutting.{data_of, frames_of}
use Rattle.message.specs.Joining.{join_of, join_output}
use Rattle.message_claims.specs.Claims.{IsCut}
use Rattle.resequencer.specs.declared.Resequencer.{Resequencer}
use Rattle.resequencer.specs.State.{fresh_state}
use Rattle.resequencer.specs.Events.{arrive_of, clock_end_of}
use Rattle.resequencer_claims.specs.Events.{Event, packet, stray, clock_end, nothing, more, arrived}
use Rattle.resequencer_claims.specs.Demand3.{Lowest}
use Rattle.transfer_claims.specs.Circuit.{Message, message_start, frames_sent, frame_answer, frames_handed_on, parted}

-- ---- what may be sent: "any message of 0 to 4,096 bytes, any form, CH, PR and PS start in range",
-- "from SN 0"

-- a message that may be cut, if its first frame has SN, PS and CH of s: neither refusal 1 nor 4
abbrev pub Sendable : Form → Start → Message → Type 0
Sendable form s m = (length m.bytes ≤ 4096) × (fits form (data_of (message_start s m) false) 0 ≡ true)

-- the same of each message; SN and PS of the later ones need not be computed, since they stay in
-- range
unfoldable pub AllSendable : Form → Start → List Message → Type 0
AllSendable form s [] = Unit {0}
AllSendable form s (m ∷ ms) = Sendable form s m × AllSendable form s ms

-- what is sent: messages that may be cut, in a valid form, the first from SN 0
pub record Sent (form : Form) (s : Start) (ms : List Message) : Type 0 where
  pub form-good : form_valid form ≡ true
  pub from_zero : s.sn.0 ≡ 0
  pub sendable : AllSendable form s ms

-- ---- how it may arrive

-- The events that are allowed, where `has` says which frames have arrived before. `packet n`: there
-- is a frame at place n, and "each arrival is at most 32 behind and 31 ahead of the number then
-- expected", which is the lowest place whose frame has not arrived. Other arrivals and clock ends:
-- only those that the resequencer refuses in the state s, "with refused clock ends and refused
-- arrivals between".
abbrev pub AllowedEvent : List (List ℕ) → Resequencer → (ℕ → Bool) → Event → Type 0
AllowedEvent frames s has (packet n) = (n < length frames) × ((expected : ℕ) → Lowest has expected → (expected ≤ n + 32) × (n ≤ expected + 31))
AllowedEvent frames s has (stray sn ticket) = (why : Refusal) × ((arrive_of s sn ticket).outcome ≡ Err why)
AllowedEvent frames s has (clock_end sn) = (why : Refusal) × ((clock_end_of s sn).outcome ≡ Err why)

-- a list of such events, each in the state that the answer before it returned
unfoldable pub FramesAllowed : Form → List (List ℕ) → Resequencer → (ℕ → Bool) → List Event → Type 0
FramesAllowed form frames s has [] = Unit {0}
FramesAllowed form frames s has (e ∷ es) = AllowedEvent frames s has e × FramesAllowed form frames (frame_answer form frames s e).next (more has e) es

-- "at a fresh resequencer"
abbrev pub FramesAllowedList : Form → List (List ℕ) → List Event → Type 0
FramesAllowedList form frames es = FramesAllowed form frames fresh_state nothing es

-- every frame arrives, "each at least once"
abbrev pub Complete : List (List ℕ) → List Event → Type 0
Complete frames es = (n : ℕ) → n < length frames → arrived es n ≡ true

-- ---- what comes out

-- joining the frames fs "gives the message, byte for byte", for every lent output that has room for
-- it: the answer is the length of the message, and the message is at the front of the output, the
-- rest as before
abbrev pub JoinTo : Form → List (List ℕ) → List ℕ → Type 0
JoinTo form fs message = (out : List ℕ) → length message ≤ length out
    → (join_of form (lengths_of fs) (bytes_in fs) (length out) ≡ Ok (length message))
    × (join_output form (lengths_of fs) (bytes_in fs) out ≡ over message out)

-- there are as many runs of frames as messages, and each run gives the message at its place
unfoldable pub JoinToEach : Form → List (List (List ℕ)) → List Message → Type 0
JoinToEach form [] [] = Unit {0}
JoinToEach form [] (m ∷ ms) = ⊥
JoinToEach form (fs ∷ runs) [] = ⊥
JoinToEach form (fs ∷ runs) (m ∷ ms) = JoinTo form fs m.bytes × JoinToEach form runs ms

-- the first list is a beginning of the second
abbrev pub Begins : {A : Type 0} → List A → List A → Type 0
Begins {A} xs ys = (rest : List A) × (ys ≡ xs ++ rest)

-- ---- the claims

-- of one message, under the events es: "Take any message .. and cut it from SN 0"
pub record OneMessage (form : Form) (s : Start) (message : List ℕ) (es : List Event) : Type 0 where
  -- "joining the frames in the order in which their tickets are handed on gives the message, byte
  -- for byte"
  pub comes-out : Complete (frames_of form s message) es → JoinTo form (frames_handed_on form (frames_of form s message) es) message
  -- "at every moment before, what has been handed on is a beginning of the list of frames"
  pub before : (first last : List Event) → es ≡ first ++ last → Begins (frames_handed_on form (frames_of form s message) first) (frames_of form s message)

-- of several messages, under the events es: "two messages one after the other on one circuit", here
-- any number of them
pub record Messages (form : Form) (s : Start) (ms : List Message) (es : List Event) : Type 0 where
  -- once each frame has arrived, all frames have been handed on, in order, and the messages "come
  -- out one after the other"
  pub handed-on : Complete (frames_sent form s ms) es → frames_handed_on form (frames_sent form s ms) es ≡ frames_sent form s ms
  pub come-out : Complete (frames_sent form s ms) es → JoinToEach form (parted form [] (frames_handed_on form (frames_sent form s ms) es)) ms
  -- after any first part of the events, what has been handed on is a beginning of the frames, and
  -- the messages that have come out are a beginning of the messages
  pub before : (first last : List Event) → es ≡ first ++ last
      → Begins (frames_handed_on form (frames_sent form s ms) first) (frames_sent form s ms)
      × ((out : List Message) × Begins out ms × JoinToEach form (parted form [] (frames_handed_on form (frames_sent form s ms) first)) out)

-- m frames arrive once each and in order, from place n on
unfoldable pub one_by_one : ℕ → ℕ → List Event
one_by_one n zero = []
one_by_one n (suc m) = packet n ∷ one_by_one (suc n) m

-- The claims. `one-message` and `messages` hold of everything that may be sent and every allowed
-- list of events. `possible`: for every list of frames there is such a list of events, in which
-- every frame arrives; so the claims are not empty (specs/Witness.antt has one of them computed).
pub record Transfer : Type 0 where
  -- "cut it": in a long form, if the lent lists have room for the frames
  pub cut : (form : Form) (s : Start) (message out lengths : List ℕ)
      → form_valid form ≡ true → is_long form ≡ true → fits form (data_of s false) 0 ≡ true → length message ≤ 4096
      → length (bytes_in (frames_of form s message)) ≤ length out → length (frames_of form s message) ≤ length lengths → IsCut form s message out lengths
  pub one-message : (form : Form) (s : Start) (message : List ℕ) (es : List Event)
      → form_valid form ≡ true → fits form (data_of s false) 0 ≡ true → s.sn.0 ≡ 0 → length message ≤ 4096
      → FramesAllowedList form (frames_of form s message) es → OneMessage form s message es
  pub messages : (form : Form) (s : Start) (ms : List Message) (es : List Event)
      → Sent form s ms → FramesAllowedList form (frames_sent form s ms) es → Messages form s ms es
  pub possible : (form : Form) (frames : List (List ℕ))
      → FramesAllowedList form frames (one_by_one 0 (length frames)) × Complete frames (one_by_one 0 (length frames))
