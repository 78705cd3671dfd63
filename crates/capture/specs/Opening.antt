-- Opening a capture: document 02, Q-12: "Refusals: 2 for a file without a whole count and form;
-- then 1 for an unknown form, 4 for over 512 frames, 2 for a cut header or offsets that fall or
-- don't run from the header's end to the file's end, 4 for a frame over 160 bytes." And where a
-- frame is, which is answered for every file.
-- Assumes nothing.
use Rattle.std.specs.Prelude.{Bool, true, cond, ◌&&◌, List, [], ◌∷◌, ℕ, zero, suc, ◌+◌, ◌-◌, ◌*◌, leb, ltb, eqb, length, take, drop, Result, Ok, Err}
use Rattle.refusal.specs.declared.Refusal.TheVariants.{OutOfRange, Malformed, MessageTooLong}
use Rattle.refusal.specs.Numbers.{check, Verdict}
use Rattle.frame_fields.specs.Rows.{number_in}
use Rattle.frame_form.specs.Forms.{form_at, form_valid}
use Rattle.capture.specs.declared.Place.{Place}
use Rattle.capture.specs.Files.{numbers_in, header_size, most_frames, most_bytes, none_over}
use Rattle.capture.specs.declared.Opened.{Opened}
use Rattle.refusal.specs.declared.Refusal.{Refusal}

-- the answer for a file that was opened
abbrev pub opened_as : ℕ → ℕ → Result Opened Refusal
opened_as form count = Ok (record { form = form; count = count })

-- the form and the count of frames of an answer, 0 if the file is refused
abbrev pub opened_form : Result Opened Refusal → ℕ
opened_form (Ok opened) = opened.form
opened_form (Err why) = 0

abbrev pub opened_count : Result Opened Refusal → ℕ
opened_count (Ok opened) = opened.count
opened_count (Err why) = 0

-- ---- the header, as the file has it

-- the number in the four bytes from index `at` on; bytes past the file's end count as 0
abbrev pub number_at : List ℕ → ℕ → ℕ
number_at file at = number_in 4 (drop at file)

abbrev pub count_in : List ℕ → ℕ
count_in file = number_at file 0

abbrev pub form_in : List ℕ → ℕ
form_in file = number_at file 4

-- the offset of frame i; that of a frame after the last one is the end of the last
abbrev pub offset_at : List ℕ → ℕ → ℕ
offset_at file i = number_at file (8 + 4 * i)

-- the offsets after the first
abbrev pub later_offsets : List ℕ → List ℕ
later_offsets file = numbers_in (count_in file) (drop 12 file)

-- ---- offsets, the first of which is `first`

-- whether none is below the one before it
unfoldable pub none_falls : ℕ → List ℕ → Bool
none_falls first [] = true
none_falls first (o ∷ os) = leb first o && none_falls o os

-- the last of them
unfoldable pub last_offset : ℕ → List ℕ → ℕ
last_offset first [] = first
last_offset first (o ∷ os) = last_offset o os

-- the lengths of the frames between them
unfoldable pub steps_from : ℕ → List ℕ → List ℕ
steps_from first [] = []
steps_from first (o ∷ os) = (o - first) ∷ steps_from o os

-- the offsets do not fall, and run from the header's end to the file's end
abbrev pub offsets_run : List ℕ → Bool
offsets_run file =
    eqb (offset_at file 0) (header_size (count_in file))
    && (none_falls (offset_at file 0) (later_offsets file) && eqb (last_offset (offset_at file 0) (later_offsets file)) (length file))

-- ---- the whole file

-- the checks, in the order 2, 1, 4, 2, 4
unfoldable pub open_verdict : List ℕ → Verdict
open_verdict file =
    check (leb 8 (length file)) Malformed
    (check (form_valid (form_at (form_in file))) OutOfRange
    (check (leb (count_in file) most_frames) MessageTooLong
    (check (leb (header_size (count_in file)) (length file)) Malformed
    (check (offsets_run file) Malformed
    (check (none_over most_bytes (steps_from (offset_at file 0) (later_offsets file))) MessageTooLong
    (Ok tt))))))

-- the answer: the form and the count of frames, or the refusal
abbrev pub open_by : Verdict → ℕ → ℕ → Result Opened Refusal
open_by (Ok tt) form count = opened_as form count
open_by (Err why) form count = Err why

-- what `open_file` answers
unfoldable pub open_of : List ℕ → Result Opened Refusal
open_of file = open_by (open_verdict file) (form_in file) (count_in file)

-- ---- the place of a frame, in any file: for this the file is not judged as a whole

-- whether the file has a frame i: i is below the count, the file has both offsets of the frame
-- whole, and these do not fall and lie within the file
unfoldable pub has_frame : List ℕ → ℕ → Bool
has_frame file i =
    ltb i (count_in file)
    && (leb (header_size (i + 1)) (length file)
    && (leb (offset_at file i) (offset_at file (i + 1)) && leb (offset_at file (i + 1)) (length file)))

-- where frame i is; an empty place at the file's start if there is none
unfoldable pub place_in : List ℕ → ℕ → Place
place_in file i = cond (has_frame file i) (record { at = offset_at file i; len = offset_at file (i + 1) - offset_at file i }) (record { at = 0; len = 0 })

-- the bytes of a place
abbrev pub part_at : List ℕ → Place → List ℕ
part_at file place = take place.len (drop place.at file)

-- the bytes of frame i; none if there is no such frame
abbrev pub frame_in : List ℕ → ℕ → List ℕ
frame_in file i = part_at file (place_in file i)

-- the n frames from frame i on, and all frames of a file
unfoldable pub frames_from : List ℕ → ℕ → ℕ → List (List ℕ)
frames_from file i zero = []
frames_from file i (suc n) = frame_in file i ∷ frames_from file (suc i) n

abbrev pub frames_in : List ℕ → List (List ℕ)
frames_in file = frames_from file 0 (count_in file)
