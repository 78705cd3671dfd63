-- What the private functions of `capture` promise. No public call cites these definitions.
-- Assumes nothing.
use Rattle.std.specs.Prelude.{◌≡◌, true, List, ◌++◌, ℕ, ◌≤◌, leb, length, take, drop, Ok}
use Rattle.refusal.specs.declared.Refusal.TheVariants.{Malformed, MessageTooLong, OutputTooShort}
use Rattle.refusal.specs.Numbers.{check, Verdict}
use Rattle.lists.specs.Frames.{sum}
use Rattle.frame_form.specs.Forms.{form_at, form_valid}
use Rattle.capture.specs.Files.{words, header_size, offsets_from, most_frames, most_bytes, none_over}
use Rattle.capture.specs.Saving.{file_size}
use Rattle.capture.specs.Opening.{offset_at, later_offsets, offsets_run, steps_from}

-- ---- saving

-- the last three checks of `save_verdict`
unfoldable pub limits_verdict : List ℕ → List ℕ → ℕ → Verdict
limits_verdict lengths frames room =
    check (leb (length lengths) most_frames) MessageTooLong
    (check (none_over most_bytes lengths) MessageTooLong
    (check (leb (file_size lengths frames) room) OutputTooShort
    (Ok tt)))

-- what writing the file requires: what is to be saved has passed the checks, for an output of
-- `room` bytes
pub record Saveable (form : ℕ) (lengths frames : List ℕ) (room : ℕ) : Type 0 where
  pub valid : form_valid (form_at form) ≡ true
  pub sums : sum lengths ≡ length frames
  pub few : length lengths ≤ most_frames
  pub short : none_over most_bytes lengths ≡ true
  pub small : length frames ≤ 81920
  pub room-enough : file_size lengths frames ≤ room

-- what writing the header requires: the lengths have passed the checks, for an output of `room`
-- bytes
pub record Headed (lengths : List ℕ) (room : ℕ) : Type 0 where
  pub few : length lengths ≤ most_frames
  pub short : sum lengths ≤ 81920
  pub room-enough : header_size (length lengths) ≤ room

-- bytes whose first eight are left, and which have the offsets behind these
unfoldable pub with_offsets : List ℕ → List ℕ → List ℕ
with_offsets lengths o = (take 8 o ++ words (offsets_from (header_size (length lengths)) lengths)) ++ drop (header_size (length lengths)) o

-- ---- opening

-- the last two checks of `open_verdict`, which look at every offset
unfoldable pub offsets_verdict : List ℕ → Verdict
offsets_verdict file =
    check (offsets_run file) Malformed
    (check (none_over most_bytes (steps_from (offset_at file 0) (later_offsets file))) MessageTooLong
    (Ok tt))
