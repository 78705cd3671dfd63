-- The claim that an answer's parts do not overlap: the refusal number and the values can be
-- computed back from the one number, for all arguments, `file` being any bytes. proofs/Claims.antt
-- proves it.
-- Assumes nothing.
use Rattle.std.specs.Prelude.{◌≡◌, List, ℕ, ◌/◌, ◌%◌}
use Rattle.frame_fields.specs.Rows.{AreBytes}
use Rattle.capture.specs.Saving.{saved_bytes, save_of}
use Rattle.capture.specs.Opening.{opened_form, opened_count, open_of, place_in}
use Rattle.capture_bytes.specs.Answers.{saved_answer, opened_answer, place_answer}
use Rattle.refusal.specs.Numbers.{refusal_number}

-- of saving: the refusal number is in bits 0 to 7, the file's length from bit 8 up
pub record SaveParts (form : ℕ) (lengths frames : List ℕ) (room : ℕ) : Type 0 where
  pub number : saved_answer (save_of form lengths frames room) % 256 ≡ refusal_number (save_of form lengths frames room)
  pub bytes : saved_answer (save_of form lengths frames room) / 256 ≡ saved_bytes (save_of form lengths frames room)

-- of opening: the refusal number is in bits 0 to 7, the form in bits 8 to 15, the count from bit 16
-- up
pub record OpenParts (file : List ℕ) : Type 0 where
  pub number : opened_answer (open_of file) % 256 ≡ refusal_number (open_of file)
  pub form : opened_answer (open_of file) / 256 % 256 ≡ opened_form (open_of file)
  pub count : opened_answer (open_of file) / 65536 ≡ opened_count (open_of file)

-- of a place: the first byte's index is in bits 0 to 31, the length from bit 32 up
pub record PlaceParts (file : List ℕ) (i : ℕ) : Type 0 where
  pub start : place_answer (place_in file i) % 4294967296 ≡ (place_in file i).at
  pub size : place_answer (place_in file i) / 4294967296 ≡ (place_in file i).len

-- all three
pub record AnswerParts : Type 0 where
  pub save : (form : ℕ) (lengths frames : List ℕ) (room : ℕ) → SaveParts form lengths frames room
  pub opened : (file : List ℕ) → OpenParts file
  pub place : (file : List ℕ) (i : ℕ) → AreBytes file → PlaceParts file i
