-- Writing a frame of a typed packet: document 01, "Forms and frames": "Writing checks 1, 13, 5, and
-- bytes beyond the frame keep what they held", with 23 after 1 (document 02, Q-14). `write_of` is
-- what a writer answers, `write_output` what the lent output holds afterwards; both are by the
-- definitions of `frame_writer`. `user` is the user data or its length, `room` the length of the
-- output.
-- Assumes nothing.
use Rattle.std.specs.Prelude.{Bool, cond, List, ℕ, ◌/◌, ◌%◌, eqb, length, Result, Ok, Err}
use Rattle.refusal.specs.Numbers.{refusal_at, Verdict}
use Rattle.frame_form.specs.declared.Form.{Form}
use Rattle.frame_form.specs.Forms.{seg_of}
use Rattle.frame_form.specs.Segments.{frame_length}
use Rattle.frame_writer.specs.Writing.{packet_size, values_fit, frame_by, write_verdict, output_by}
use Rattle.frame.specs.declared.Packet.{Packet}
use Rattle.frame.specs.Packets.{kind_of, values_of}
use Rattle.refusal.specs.declared.Refusal.{Refusal}

-- the length of the frame that a writer wrote; a refusal returns "counts of 0"
abbrev pub written_bytes : Result ℕ Refusal → ℕ
written_bytes (Ok n) = n
written_bytes (Err why) = 0

-- the answer of writing, from the verdict of the checks and the length of the frame
abbrev pub written_by : Verdict → ℕ → Result ℕ Refusal
written_by (Ok tt) len = Ok len
written_by (Err why) len = Err why

-- the answer of writing, from that of `frame_writer`
unfoldable pub written_at : ℕ → Result ℕ Refusal
written_at answer = cond (eqb (answer % 256) 0) (Ok (answer / 256)) (Err (refusal_at (answer % 256)))

-- the packet's length in bytes: the header and `user` bytes of user data
abbrev pub length_of : Packet → ℕ → ℕ
length_of p user = packet_size (kind_of p) user

-- whether every value fits its field, and there is no user data without LV; else refusal 1
abbrev pub fits : Form → Packet → ℕ → Bool
fits form p user = values_fit form (kind_of p) (values_of p) user

-- the bytes of the frame, in any form
abbrev pub frame_of : Form → Packet → List ℕ → List ℕ
frame_of form p user = frame_by form (kind_of p) (values_of p) user

-- the checks, in the order 1, 23, 13, 5
abbrev pub frame_verdict : Form → Packet → ℕ → ℕ → Verdict
frame_verdict form p user room = write_verdict form (fits form p user) (length_of p user) room

-- the answer: the frame's length, or the refusal
unfoldable pub write_of : Form → Packet → ℕ → ℕ → Result ℕ Refusal
write_of form p user room = written_by (frame_verdict form p user room) (frame_length (seg_of form) (length_of p user))

-- the lent output afterwards: the frame and what was beyond it; unchanged after a refusal
unfoldable pub write_output : Form → Packet → List ℕ → List ℕ → List ℕ
write_output form p user out = output_by (frame_verdict form p (length user) (length out)) (frame_of form p user) out
