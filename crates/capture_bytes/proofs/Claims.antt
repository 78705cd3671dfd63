-- The parts of an answer do not overlap: each is small enough for its bits.
-- Assumes nothing.
use mathlib.Core.Path.{◌≡◌, refl}
use mathlib.Core.List.{List}
use Prim.Native.Nat.{ℕ, ◌/◌, ◌%◌}
use native.Mathlib.Omega.{arith}
use Rattle.refusal.proofs.Numbers.{number-range}
use Rattle.frame_fields.specs.Rows.{AreBytes}
use Rattle.capture.specs.Saving.{saved_bytes, save_of}
use Rattle.capture.specs.Opening.{opened_form, opened_count, open_of}
use Rattle.capture_bytes.specs.Answers.{saved_answer, opened_answer}
use Rattle.capture_bytes.specs.Claims.{OpenParts, PlaceParts, AnswerParts}
use Rattle.capture_bytes.proofs.Sizes.{open-few, place-low}
use Rattle.capture.specs.declared.Opened.{Opened}
use Rattle.refusal.specs.Numbers.{refusal_number}
use Rattle.std.specs.Prelude.{Result, Ok, Err}
use Rattle.refusal.specs.declared.Refusal.{Refusal}

-- each part of an answer of saving
save-number : (s : Result ℕ Refusal) → saved_answer s % 256 ≡ refusal_number s
save-number (Ok n) = omega arith
save-number (Err why) = omega (arith, (number-range why).1)

save-bytes : (s : Result ℕ Refusal) → saved_answer s / 256 ≡ saved_bytes s
save-bytes (Ok n) = omega arith
save-bytes (Err why) = omega (arith, (number-range why).1)

-- each part of an answer of opening
open-number : (o : Result Opened Refusal) → opened_answer o % 256 ≡ refusal_number o
open-number (Ok opened) = omega arith
open-number (Err why) = omega (arith, (number-range why).1)

module _ (file : List ℕ) where
  open-form : (o : Result Opened Refusal) → open_of file ≡ o → opened_answer o / 256 % 256 ≡ opened_form o
  open-form (Ok opened) e = omega (arith, open-few file opened.form opened.count e)
  open-form (Err why) e = omega (arith, (number-range why).1)

  open-count : (o : Result Opened Refusal) → open_of file ≡ o → opened_answer o / 65536 ≡ opened_count o
  open-count (Ok opened) e = omega (arith, open-few file opened.form opened.count e)
  open-count (Err why) e = omega (arith, (number-range why).1)

  open-parts : OpenParts file
  open-parts = record { number = open-number (open_of file); form = open-form (open_of file) refl; count = open-count (open_of file) refl }

place-parts : (file : List ℕ) (i : ℕ) → AreBytes file → PlaceParts file i
place-parts file i h = let p = place-low file i h in record { start = omega (arith, p.0); size = omega (arith, p.0) }

pub answer-parts : AnswerParts
answer-parts = record {
  save = λ form lengths frames room. record { number = save-number (save_of form lengths frames room); bytes = save-bytes (save_of form lengths frames room) };
  opened = open-parts;
  place = place-parts;
}
