-- What the private functions of `cutting` promise and require. No public call cites these
-- definitions.
-- Assumes nothing.
use Rattle.std.specs.Prelude.{◌≡◌, Bool, true, false, List, ◌++◌, ℕ, zero, suc, ◌+◌, ◌-◌, ◌<◌, ◌≤◌, length, take, drop}
use Rattle.lists.specs.Frames.{bytes_in}
use Rattle.frame_form.specs.declared.Form.{Form}
use Rattle.frame_form.specs.Forms.{long_segment, seg_of, form_valid, is_long}
use Rattle.frame_form.specs.Segments.{frame_length}
use Rattle.frame_kinds.specs.Kinds.{size_of}
use Rattle.frame.specs.declared.Packet.{Packet}
use Rattle.frame.specs.Packets.{kind_of}
use Rattle.frame.specs.Writing.{fits}
use Rattle.message.specs.declared.cutting.Start.{Start}
use Rattle.message.specs.Cutting.{share_of, data_of, frames_of}

-- b tells whether the numbers of s fit their fields, in every form: DATA has the same fields in all
abbrev pub TellsFit : Start → Bool → Type 0
TellsFit s b = (form : Form) → b ≡ fits form (data_of s false) 0

-- the list o with xs written over it, from index p
abbrev pub splice : ℕ → List ℕ → List ℕ → List ℕ
splice p xs o = take p o ++ (xs ++ drop (p + length xs) o)

-- the sum of the lengths of k full frames and the last, for a message of n bytes; each header has 3
-- bytes
unfoldable pub room_for : Form → ℕ → ℕ → ℕ
room_for form zero n = frame_length (seg_of form) (3 + n)
room_for form (suc k) n = frame_length (seg_of form) (3 + share_of form) + room_for form k (n - share_of form)

-- what `put_frames` requires: the message has passed the checks of cutting (`cut_verdict`), for an
-- output of `room` bytes and a list of `places` places
pub record Room (form : Form) (s : Start) (message : List ℕ) (room places : ℕ) : Type 0 where
  pub good : form_valid form ≡ true
  pub fit : fits form (data_of s false) 0 ≡ true
  pub long : is_long form ≡ true
  pub small : length message ≤ 4096
  pub bytes : length (bytes_in (frames_of form s message)) ≤ room
  pub frames : length (frames_of form s message) ≤ places

-- What `put_one` requires: the packet p with `user` bytes of user data may be written at index
-- `from` of an output of `room` bytes, and i is a place of the list of `places` places.
pub record Ready (form : Form) (p : Packet) (user from room i places : ℕ) : Type 0 where
  pub good : form_valid form ≡ true
  pub fit : fits form p user ≡ true
  pub long : is_long form ≡ true
  pub header : size_of (kind_of p) ≡ 3
  pub share : user ≤ share_of form
  pub inside : from + frame_length long_segment (3 + user) ≤ room
  pub place : i < places
