-- Joining DATA frames to a message: the checks and their order, the answer, and the lent output
-- afterwards. Document 01, "Cutting and joining"; and document 02, Q-5: "Joining gives the position
-- within all its data: for 17, a wrong M or a frame not DATA the frame's first byte, for a wrong
-- sum, 4 and 5 the length of the data".
-- Assumes nothing.
use Rattle.std.specs.Prelude.{Bool, true, not, ◌&&◌, ◌||◌, List, [], ◌∷◌, ◌++◌, ℕ, ◌+◌, leb, eqb, length, Result, Ok, Err, Option, Some, None}
use Rattle.refusal.specs.declared.Refusal.TheVariants.{OutOfRange, Malformed, FormatError, MessageTooLong, OutputTooShort, RunBroken}
use Rattle.refusal.specs.Numbers.{check, Verdict}
use Rattle.refusal.specs.Positions.{Checked, check_at, and_then_at, all_at, from, verdict_of}
use Rattle.lists.specs.Frames.{parts_of, sum, is_none}
use Rattle.sequence.specs.Modular.{next}
use Rattle.frame_form.specs.declared.Form.{Form}
use Rattle.frame_form.specs.Forms.{form_valid}
use Rattle.frame_writer.specs.Writing.{output_by}
use Rattle.frame.specs.declared.Data.{Data}
use Rattle.frame.specs.Packets.{as_data, Read}
use Rattle.frame.specs.Reading.{read_of, data_in, part_of}
use Rattle.frame.specs.declared.Contents.TheVariants.{Packet as PacketIn, Route as RouteIn}
use Rattle.refusal.specs.declared.Fault.{Fault}

-- the length of the message that an answer holds: "A refusal returns its number, counts of 0"
abbrev pub joined_bytes : Result ℕ Fault → ℕ
joined_bytes (Ok n) = n
joined_bytes (Err fault) = 0

-- ---- one frame

-- The packet d continues the run of the packet before it: SN is one more modulo 64, PS one more
-- modulo 16, CH the same. PR is not compared. The first frame has no packet before it and may have
-- any numbers.
abbrev pub follows : Option Data → Data → Bool
follows None d = true
follows (Some b) d = eqb d.sn.0 (next 64 b.sn.0) && (eqb d.ps.0 (next 16 b.ps.0) && eqb d.ch b.ch)

-- The checks of a DATA packet: "then M = 0 before the last frame (3), then 17; then M of the last
-- (2)". `last` is whether its frame is the last.
unfoldable pub data_verdict : Option Data → Bool → Data → Verdict
data_verdict before last d =
    check (last || d.m) FormatError
    (check (follows before d) RunBroken
    (check (not (last && d.m)) Malformed
    (Ok tt)))

-- "A frame that reads but isn't DATA is refusal 3, right after its reading"
abbrev pub packet_verdict : Option Data → Bool → Option Data → Verdict
packet_verdict before last None = Err FormatError
packet_verdict before last (Some d) = data_verdict before last d

-- The checks of a frame, by what reading it answered: "in each the reading order 2, 3, 13" (a
-- refusal of the reader stays, at its position), then those of its packet, at the frame's first
-- byte; a ROUTE is not DATA. The position is counted from there.
abbrev pub turn_checks : Option Data → Bool → Read → Checked
turn_checks before last (Ok (PacketIn p place)) = all_at 0 (packet_verdict before last (as_data p))
turn_checks before last (Ok (RouteIn r)) = all_at 0 (packet_verdict before last None)
turn_checks before last (Err fault) = Err fault

-- the user data of a frame, by what reading it answered; none of a ROUTE, which has none, and if it
-- was refused
abbrev pub user_of : Read → List ℕ → List ℕ
user_of (Ok (PacketIn p place)) frame = part_of frame place
user_of (Ok (RouteIn r)) frame = []
user_of (Err fault) frame = []

-- the user data that is read from a frame
abbrev pub user_in : Form → List ℕ → List ℕ
user_in form frame = user_of (read_of form frame) frame

-- ---- frame by frame

-- "Then it goes frame by frame": the first refusal counts. Each frame is compared with the DATA
-- packet of the frame before it. `start` is where the frame begins in all the data, so that its
-- position is counted from the start of the data.
unfoldable pub frames_checks : Form → Option Data → ℕ → List (List ℕ) → Checked
frames_checks form before start [] = Ok tt
frames_checks form before start (f ∷ fs) =
    and_then_at (from start (turn_checks before (is_none fs) (read_of form f)))
    (frames_checks form (data_in (read_of form f)) (start + length f) fs)

-- the message: the user data of all frames, one after the other
unfoldable pub message_in : Form → List (List ℕ) → List ℕ
message_in form [] = []
message_in form (f ∷ fs) = user_in form f ++ message_in form fs

-- ---- the whole

-- "then 4, then 5", for a message of n bytes and a lent output of `room` bytes
abbrev pub size_verdict : ℕ → ℕ → Verdict
size_verdict n room =
    check (leb n 4096) MessageTooLong
    (check (leb n room) OutputTooShort
    (Ok tt))

-- All checks of joining, each with the position that it gives. `bytes` holds the frames one after
-- the other, with these lengths. "After 1, the sum of lengths is checked (2)"; "no frames" is 2 as
-- well. Both give the length of all the data, as 4 and 5 do.
unfoldable pub join_checks : Form → List ℕ → List ℕ → ℕ → Checked
join_checks form lengths bytes room =
    check_at (form_valid form) OutOfRange 0
    (check_at (eqb (sum lengths) (length bytes)) Malformed (length bytes)
    (check_at (not (is_none lengths)) Malformed (length bytes)
    (and_then_at (frames_checks form None 0 (parts_of lengths bytes))
    (all_at (length bytes) (size_verdict (length (message_in form (parts_of lengths bytes))) room)))))

-- the answer: the length of the message, or the refusal and its position
abbrev pub join_by : Checked → ℕ → Result ℕ Fault
join_by (Ok tt) n = Ok n
join_by (Err fault) n = Err fault

-- what `join_frames` answers, for a lent output of `room` bytes
unfoldable pub join_of : Form → List ℕ → List ℕ → ℕ → Result ℕ Fault
join_of form lengths bytes room = join_by (join_checks form lengths bytes room) (length (message_in form (parts_of lengths bytes)))

-- the lent output afterwards: the message at its front; "places past the result keep what they
-- held, in joining too"; if refused, as before
unfoldable pub join_output : Form → List ℕ → List ℕ → List ℕ → List ℕ
join_output form lengths bytes out = output_by (verdict_of (join_checks form lengths bytes (length out))) (message_in form (parts_of lengths bytes)) out
