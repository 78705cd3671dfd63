-- Messages cut and joined: document 01, "Cutting and joining". The claims are about the answers of
-- the calls (`cut_of`, `join_of`) and about the lent lists (`cut_output`, `cut_lengths`,
-- `join_output`). Messages are cut in the long forms only (document 02, Q-14), so what is claimed
-- of cutting is claimed of these; what is claimed of joining needs no cutting and is claimed of
-- every form, about the frames that the message has by the layout (`frames_of`). proofs/Claims.antt
-- proves them (`reassembly`).
-- Assumes nothing.
use Rattle.std.specs.Prelude.{◌≡◌, Bool, true, false, List, [], ◌∷◌, ℕ, ◌≤◌, length, take, Ok, Option, Some, None}
use Rattle.lists.specs.Lists.{over}
use Rattle.frame_fields.specs.Rows.{AreBytes}
use Rattle.frame_form.specs.declared.Form.{Form}
use Rattle.frame_form.specs.Forms.{form_valid, is_long}
use Rattle.frame.specs.declared.Data.{Data}
use Rattle.frame.specs.declared.Packet.TheVariants.{Data as DataPacket}
use Rattle.frame.specs.declared.UserData.{UserData}
use Rattle.frame.specs.Writing.{fits}
use Rattle.frame.specs.Reading.{read_of, data_in}
use Rattle.message.specs.declared.cutting.Start.{Start}
use Rattle.lists.specs.Frames.{bytes_in, lengths_of, parts_of}
use Rattle.message.specs.Cutting.{share_of, data_of, frames_of, cut_of, cut_into, cut_output, cut_lengths}
use Rattle.message.specs.Joining.{user_in, message_in, join_of, join_output}
use Rattle.frame.specs.declared.Contents.TheVariants.{Packet as PacketIn}

-- ---- by the layout, in every form

-- the frames of a message are joined; the lent list `room` has room for it
pub record FramesAreJoined (form : Form) (s : Start) (message room : List ℕ) : Type 0 where
  -- joining answers with the length of the message
  pub answer : join_of form (lengths_of (frames_of form s message)) (bytes_in (frames_of form s message)) (length room) ≡ Ok (length message)
  -- the lent list then begins with the message, and the places past it are unchanged
  pub output : join_output form (lengths_of (frames_of form s message)) (bytes_in (frames_of form s message)) room ≡ over message room

-- ---- which messages are cut, in the long forms

-- cutting answers with the frames of the message, and leaves them and their lengths at the front of
-- the lent lists
pub record IsCut (form : Form) (s : Start) (message out lengths : List ℕ) : Type 0 where
  pub answer : cut_of form s message (length out) (length lengths) ≡ cut_into (length (frames_of form s message)) (length (bytes_in (frames_of form s message)))
  pub output : cut_output form s message out (length lengths) ≡ over (bytes_in (frames_of form s message)) out
  pub lengths-out : cut_lengths form s message (length out) lengths ≡ over (lengths_of (frames_of form s message)) lengths

-- ---- "A message cut and then joined comes back the same."

-- cutting answered with `count` frames that have `bytes` bytes in all, and the lent list `room` has
-- room for the message; the frames are joined
pub record CutIsJoined (form : Form) (s : Start) (message out lengths room : List ℕ) (count bytes : ℕ) : Type 0 where
  -- joining answers with the length of the message
  pub answer : join_of form (take count (cut_lengths form s message (length out) lengths)) (take bytes (cut_output form s message out (length lengths))) (length room)
      ≡ Ok (length message)
  -- the lent list then begins with the message, and the places past it are unchanged
  pub output : join_output form (take count (cut_lengths form s message (length out) lengths)) (take bytes (cut_output form s message out (length lengths))) room
      ≡ over message room

-- ---- joined and cut again

-- what was read is a DATA packet with this PR
abbrev pub has_pr : ℕ → Option Data → Type 0
has_pr pr None = ⊥
has_pr pr (Some d) = d.pr.0 ≡ pr

-- the frames are as cutting makes them, which joining does not check: every frame but the last is
-- full, the last of several has user data, and PR is the same on all. `alone` is true if no frame
-- is before these.
unfoldable pub AsCut : Form → ℕ → Bool → List (List ℕ) → Type 0
AsCut form pr alone [] = ⊥
AsCut form pr alone (f ∷ []) = has_pr pr (data_in (read_of form f)) × (alone ≡ false → 1 ≤ length (user_in form f))
AsCut form pr alone (f ∷ g ∷ fs) = has_pr pr (data_in (read_of form f)) × (length (user_in form f) ≡ share_of form) × AsCut form pr false (g ∷ fs)

-- the numbers of a packet, as the numbers that cutting starts from
abbrev pub start_of : Data → Start
start_of d = record { sn = d.sn; ps = d.ps; pr = d.pr; ch = d.ch }

-- joining accepted frames of these lengths and bytes, and d is the packet of the first one; the
-- message is cut again with the numbers of d
pub record JoinedIsCut (form : Form) (lengths bytes : List ℕ) (d : Data) (out places : List ℕ) : Type 0 where
  -- cutting answers with the same count of frames and of bytes
  pub answer : cut_of form (start_of d) (message_in form (parts_of lengths bytes)) (length out) (length places) ≡ cut_into (length lengths) (length bytes)
  -- the lent output then begins with the same bytes, and the bytes past them are unchanged
  pub output : cut_output form (start_of d) (message_in form (parts_of lengths bytes)) out (length places) ≡ over bytes out
  -- the lent list of lengths then begins with the same lengths, and the places past them are
  -- unchanged
  pub lengths-out : cut_lengths form (start_of d) (message_in form (parts_of lengths bytes)) (length out) places ≡ over lengths places

pub record Reassembly : Type 0 where
  -- by the layout, in every valid form: the frames of every message whose numbers fit their fields
  -- are joined to it, so of every message that a site of the short form may still send
  pub frames-are-joined : (form : Form) (s : Start) (message room : List ℕ)
      → form_valid form ≡ true → fits form (data_of s false) 0 ≡ true → length message ≤ 4096 → length message ≤ length room → FramesAreJoined form s message room
  -- and every list of frames that joining accepts and that is as cutting makes it, is the list of
  -- the message's frames, from the numbers of the first one
  pub joined-are-frames : (form : Form) (l : ℕ) (ls bytes : List ℕ) (room n : ℕ) (d : Data) (place : UserData)
      → AreBytes bytes → join_of form (l ∷ ls) bytes room ≡ Ok n → read_of form (take l bytes) ≡ Ok (PacketIn (DataPacket d) place)
      → AsCut form d.pr.0 true (parts_of (l ∷ ls) bytes) → parts_of (l ∷ ls) bytes ≡ frames_of form (start_of d) (message_in form (parts_of (l ∷ ls) bytes))
  -- in every long form, cutting accepts every message whose numbers fit their fields, if the lent
  -- lists have room for its frames
  pub is_cut : (form : Form) (s : Start) (message out lengths : List ℕ)
      → form_valid form ≡ true → is_long form ≡ true → fits form (data_of s false) 0 ≡ true → length message ≤ 4096
      → length (bytes_in (frames_of form s message)) ≤ length out → length (frames_of form s message) ≤ length lengths → IsCut form s message out lengths
  -- every message that cutting accepts
  pub cut-is-joined : (form : Form) (s : Start) (message out lengths room : List ℕ) (count bytes : ℕ)
      → cut_of form s message (length out) (length lengths) ≡ cut_into count bytes → length message ≤ length room
      → CutIsJoined form s message out lengths room count bytes
  -- every list of frames of a long form that joining accepts and that is as cutting makes it, if
  -- the lent lists have room for them
  pub joined-is-cut : (form : Form) (l : ℕ) (ls bytes : List ℕ) (room n : ℕ) (d : Data) (place : UserData) (out places : List ℕ)
      → is_long form ≡ true → AreBytes bytes → join_of form (l ∷ ls) bytes room ≡ Ok n → read_of form (take l bytes) ≡ Ok (PacketIn (DataPacket d) place)
      → AsCut form d.pr.0 true (parts_of (l ∷ ls) bytes) → length bytes ≤ length out → length (l ∷ ls) ≤ length places
      → JoinedIsCut form (l ∷ ls) bytes d out places
  -- "As few frames as possible are made": any frames that join to a message are at least as many as
  -- the message's frames, whatever numbers these start from
  pub fewest : (form : Form) (lengths bytes : List ℕ) (room n : ℕ) (s : Start) → join_of form lengths bytes room ≡ Ok n
      → length (frames_of form s (message_in form (parts_of lengths bytes))) ≤ length lengths
