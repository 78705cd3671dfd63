-- Saving frames in a capture: document 02, Q-12: "Saving: 1, 2 for lengths that don't sum to the
-- data, 4, 5." The frames lie in `frames` one after the other, `lengths` are their lengths. They
-- are not read, so that empty ones, and frames that would be refused, are saved as they are.
-- Assumes nothing.
use Rattle.std.specs.Prelude.{List, ℕ, ◌+◌, leb, eqb, length, Result, Ok, Err}
use Rattle.refusal.specs.declared.Refusal.TheVariants.{OutOfRange, Malformed, MessageTooLong, OutputTooShort}
use Rattle.refusal.specs.Numbers.{check, Verdict}
use Rattle.lists.specs.Lists.{over}
use Rattle.lists.specs.Frames.{sum}
use Rattle.frame_form.specs.Forms.{form_at, form_valid}
use Rattle.capture.specs.Files.{header_size, file_of, most_frames, most_bytes, none_over}
use Rattle.refusal.specs.declared.Refusal.{Refusal}

-- the file's length in bytes that an answer tells, 0 if the frames were not saved
abbrev pub saved_bytes : Result ℕ Refusal → ℕ
saved_bytes (Ok n) = n
saved_bytes (Err why) = 0

-- the file's length in bytes
abbrev pub file_size : List ℕ → List ℕ → ℕ
file_size lengths frames = header_size (length lengths) + length frames

-- the checks, in the order 1, 2, 4, 5, for a lent output of `room` bytes. 4: "over 512 frames", or
-- "a frame over 160 bytes"
unfoldable pub save_verdict : ℕ → List ℕ → List ℕ → ℕ → Verdict
save_verdict form lengths frames room =
    check (form_valid (form_at form)) OutOfRange
    (check (eqb (sum lengths) (length frames)) Malformed
    (check (leb (length lengths) most_frames) MessageTooLong
    (check (none_over most_bytes lengths) MessageTooLong
    (check (leb (file_size lengths frames) room) OutputTooShort
    (Ok tt)))))

-- the answer: the file's length, or the refusal
abbrev pub save_by : Verdict → ℕ → Result ℕ Refusal
save_by (Ok tt) n = Ok n
save_by (Err why) n = Err why

-- what `save` answers
unfoldable pub save_of : ℕ → List ℕ → List ℕ → ℕ → Result ℕ Refusal
save_of form lengths frames room = save_by (save_verdict form lengths frames room) (file_size lengths frames)

-- the lent output afterwards: the file at its front, and past it what was there; after a refusal it
-- is as before
abbrev pub output_by : Verdict → List ℕ → List ℕ → List ℕ
output_by (Ok tt) file out = over file out
output_by (Err why) file out = out

unfoldable pub save_output : ℕ → List ℕ → List ℕ → List ℕ → List ℕ
save_output form lengths frames out = output_by (save_verdict form lengths frames (length out)) (file_of form lengths frames) out
