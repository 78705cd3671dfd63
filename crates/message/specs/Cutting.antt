-- Cutting a message into DATA frames: which frames there are, the answer, and the two lent lists
-- afterwards. Document 01, "Cutting and joining", and document 02, Q-14.
-- Assumes nothing.
use Rattle.std.specs.Prelude.{Bool, true, false, List, [], ◌∷◌, ℕ, zero, suc, ◌-◌, ◌/◌, leb, length, take, drop, Result, Ok, Err}
use Rattle.refusal.specs.declared.Refusal.TheVariants.{OutOfRange, MessageTooLong, OutputTooShort, ShortForm}
use Rattle.refusal.specs.Numbers.{check, Verdict}
use Rattle.lists.specs.Frames.{bytes_in, lengths_of}
use Rattle.sequence.specs.Modular.{next}
use Rattle.sequence.specs.Numbers.{link, packet}
use Rattle.frame_form.specs.declared.Form.{Form}
use Rattle.frame_form.specs.Forms.{most_of, form_valid, is_long}
use Rattle.frame_writer.specs.Writing.{output_by}
use Rattle.frame.specs.declared.Packet.{Packet}
use Rattle.frame.specs.declared.Packet.TheVariants.{Data}
use Rattle.frame.specs.Writing.{fits, frame_of}
use Rattle.message.specs.declared.cutting.Start.{Start}
use Rattle.message.specs.declared.cutting.Cut.{Cut}
use Rattle.refusal.specs.declared.Refusal.{Refusal}

-- an answer that is so many frames, of so many bytes in all
abbrev pub cut_into : ℕ → ℕ → Result Cut Refusal
cut_into count bytes = Ok (record { frames = count; bytes = bytes })

-- What an answer holds: the number of frames; the sum of their bytes. "A refusal returns its number,
-- counts of 0".
abbrev pub cut_count : Result Cut Refusal → ℕ
cut_count (Ok cut) = cut.frames
cut_count (Err why) = 0

abbrev pub cut_bytes : Result Cut Refusal → ℕ
cut_bytes (Ok cut) = cut.bytes
cut_bytes (Err why) = 0

-- the bytes of user data in a full frame: "each but the last carries the form's largest size less 3
-- bytes of user data"
abbrev pub share_of : Form → ℕ
share_of form = most_of form - 3

-- The number of full frames before the last, for a message of n bytes: "As few frames as possible
-- are made", so for n over 0 the last frame carries 1 to `share` bytes. "Zero bytes make one frame
-- with no user data": 0 - 1 is 0 here, so there is no full frame before it.
unfoldable pub full_frames : ℕ → ℕ → ℕ
full_frames share n = (n - 1) / share

-- the DATA packet of a frame with the numbers of s; M is `more`
abbrev pub data_of : Start → Bool → Packet
data_of s more = Data (record { m = more; sn = s.sn; ps = s.ps; pr = s.pr; ch = s.ch })

-- "SN counts up modulo 64 and PS modulo 16 from given starts; CH and PR are the same on all."
abbrev pub next_start : Start → Start
next_start s = record { sn = link (next 64 s.sn.0); ps = packet (next 16 s.ps.0); pr = s.pr; ch = s.ch }

-- k full frames, which carry a share of the message each, and the last, which carries the rest; "M
-- is 1 on all but the last"
unfoldable pub frames_from : Form → ℕ → Start → List ℕ → List (List ℕ)
frames_from form zero s message = frame_of form (data_of s false) message ∷ []
frames_from form (suc k) s message =
    frame_of form (data_of s true) (take (share_of form) message) ∷ frames_from form k (next_start s) (drop (share_of form) message)

-- all frames of a message, in any form: those that cutting makes, or, in the short form, that
-- joining takes
unfoldable pub frames_of : Form → Start → List ℕ → List (List ℕ)
frames_of form s message = frames_from form (full_frames (share_of form) (length message)) s message

-- "Cutting checks 1, 4, 5", with 23 "for writing or cutting in the short form, after 1 and before
-- all others". 1: the form is invalid, or SN, PS, PR or CH exceeds its field (`fits`; M always
-- fits). 5: the lent output has `room` bytes, fewer than the frames, or the lent list of lengths
-- has `places` places, fewer than there are frames.
unfoldable pub cut_verdict : Form → Start → List ℕ → ℕ → ℕ → Verdict
cut_verdict form s message room places =
    check (form_valid form) OutOfRange
    (check (fits form (data_of s false) 0) OutOfRange
    (check (is_long form) ShortForm
    (check (leb (length message) 4096) MessageTooLong
    (check (leb (length (bytes_in (frames_of form s message))) room) OutputTooShort
    (check (leb (length (frames_of form s message)) places) OutputTooShort
    (Ok tt))))))

-- the answer: the number of frames and the sum of their bytes, or the refusal
abbrev pub cut_by : Verdict → List (List ℕ) → Result Cut Refusal
cut_by (Ok tt) frames = cut_into (length frames) (length (bytes_in frames))
cut_by (Err why) frames = Err why

-- what `cut_message` answers, for a lent output of `room` bytes and a lent list of `places` places
unfoldable pub cut_of : Form → Start → List ℕ → ℕ → ℕ → Result Cut Refusal
cut_of form s message room places = cut_by (cut_verdict form s message room places) (frames_of form s message)

-- The two lent lists afterwards: the bytes of the frames at the front of the output, and their
-- lengths at the front of the list; "places past the result keep what they held". If refused, both
-- are as before.
unfoldable pub cut_output : Form → Start → List ℕ → List ℕ → ℕ → List ℕ
cut_output form s message out places = output_by (cut_verdict form s message (length out) places) (bytes_in (frames_of form s message)) out

unfoldable pub cut_lengths : Form → Start → List ℕ → ℕ → List ℕ → List ℕ
cut_lengths form s message room lengths = output_by (cut_verdict form s message room (length lengths)) (lengths_of (frames_of form s message)) lengths
