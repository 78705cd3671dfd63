-- One circuit, from end to end: the frames of the messages that are sent one after the other, the
-- answers of the resequencer when they arrive, the frames that are handed on, and how these are
-- divided into messages. Document 01, "Cutting and joining" and "The resequencer". The quotes are
-- from the request for the claims (specs/Claims.antt).
-- Assumes nothing.
use Rattle.std.specs.Prelude.{Bool, false, cond, List, [], ◌∷◌, ◌++◌, map, ℕ, get_or, Option, Some, None}
use Rattle.frame_form.specs.declared.Form.{Form}
use Rattle.sequence.specs.declared.PacketNumber.{PacketNumber}
use Rattle.frame.specs.Reading.{read_of, data_in, sn_in}
use Rattle.message.specs.declared.cutting.Start.{Start}
use Rattle.message.specs.Cutting.{next_start, frames_of}
use Rattle.resequencer.specs.declared.Resequencer.{Resequencer}
use Rattle.resequencer.specs.declared.Answer.{Answer}
use Rattle.resequencer.specs.State.{fresh_state}
use Rattle.resequencer.specs.Events.{handed, arrive_of, clock_end_of}
use Rattle.resequencer_claims.specs.Events.{Event, packet, stray, clock_end}
use Rattle.frame.specs.Packets.{Read}
use Rattle.frame.specs.declared.Data.{Data as DataFields}

-- ---- sent

-- a message to be sent: its bytes, and the PR of all its frames
pub record Message : Type 0 where
  pub pr : PacketNumber
  pub bytes : List ℕ

-- the numbers of the first frame of a message: SN, PS and CH of s, and the message's own PR
abbrev pub message_start : Start → Message → Start
message_start s m = record { sn = s.sn; ps = s.ps; pr = m.pr; ch = s.ch }

-- the numbers that follow a list of frames: SN and PS are counted up once for each frame
unfoldable pub start_after : Start → List (List ℕ) → Start
start_after s [] = s
start_after s (f ∷ fs) = start_after (next_start s) fs

-- the frames of all messages in order: each message is cut "from the SN and PS after" the last
-- frame of the one before it
unfoldable pub frames_sent : Form → Start → List Message → List (List ℕ)
frames_sent form s [] = []
frames_sent form s (m ∷ ms) = frames_of form (message_start s m) m.bytes ++ frames_sent form (start_after s (frames_of form (message_start s m) m.bytes)) ms

-- ---- arriving: "each frame's ticket is its place in the list"

-- the frame at a place of the list, counted from 0; no bytes if the list is shorter
abbrev pub frame_at : List (List ℕ) → ℕ → List ℕ
frame_at frames n = get_or frames n []

-- The resequencer's answer to an event, in the state s. The events are those of
-- `resequencer_claims`: `packet n` is the arrival of the frame at place n, with the SN that is read
-- in it and the ticket n; `stray` is an arrival of something else, with the given SN and ticket;
-- `clock_end` is the end of a clock.
abbrev pub frame_answer : Form → List (List ℕ) → Resequencer → Event → Answer
frame_answer form frames s (packet n) = arrive_of s (sn_in (read_of form (frame_at frames n))) n
frame_answer form frames s (stray sn ticket) = arrive_of s sn ticket
frame_answer form frames s (clock_end sn) = clock_end_of s sn

-- the tickets that the answers hand on, in order, each event in the state that the answer before it
-- returned
unfoldable pub places_handed_on : Form → List (List ℕ) → Resequencer → List Event → List ℕ
places_handed_on form frames s [] = []
places_handed_on form frames s (e ∷ es) = handed (frame_answer form frames s e) ++ places_handed_on form frames (frame_answer form frames s e).next es

-- "the frames in the order in which their tickets are handed on", from a fresh resequencer
abbrev pub frames_handed_on : Form → List (List ℕ) → List Event → List (List ℕ)
frames_handed_on form frames es = map (frame_at frames) (places_handed_on form frames fresh_state es)

-- ---- divided into messages

-- whether M is 1 in a frame that was read: more of its message follows; false if it is no DATA
-- frame
abbrev pub m_of : Option DataFields → Bool
m_of None = false
m_of (Some d) = d.m

abbrev pub more_follows : Read → Bool
more_follows r = m_of (data_in r)

-- A list of frames divided into runs, one for each message: a run ends with the first frame whose M
-- is 0. `begun` is the run so far; a run that has not ended at the end of the list is left out,
-- since its message is not complete.
unfoldable pub parted : Form → List (List ℕ) → List (List ℕ) → List (List (List ℕ))
parted form begun [] = []
parted form begun (f ∷ fs) =
    cond (more_follows (read_of form f))
    (parted form (begun ++ (f ∷ [])) fs)
    ((begun ++ (f ∷ [])) ∷ parted form [] fs)
