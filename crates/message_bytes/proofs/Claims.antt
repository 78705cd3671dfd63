-- The parts of an answer do not overlap: each is small enough for its bits.
-- Assumes nothing.
use mathlib.Core.Path.{◌≡◌, refl}
use mathlib.Core.List.{List}
use Prim.Native.Nat.{ℕ, ◌/◌, ◌%◌}
use native.Mathlib.Omega.{arith}
use Rattle.refusal.proofs.Numbers.{number-range}
use Rattle.frame_form.specs.declared.Form.{Form}
use Rattle.message.specs.declared.cutting.Start.{Start}
use Rattle.message.specs.Cutting.{cut_count, cut_bytes, cut_of}
use Rattle.message.specs.Joining.{joined_bytes, join_of}
use Rattle.message_bytes.specs.Answers.{cut_answer, joined_answer}
use Rattle.message_bytes.specs.Claims.{CutParts, AnswerParts}
use Rattle.message_bytes.proofs.Sizes.{cut_few}
use Rattle.message.specs.declared.cutting.Cut.{Cut}
use Rattle.refusal.specs.Numbers.{refusal_number}
use Rattle.refusal.specs.Positions.{fault_number}
use Rattle.std.specs.Prelude.{Result, Ok, Err}
use Rattle.refusal.specs.declared.Fault.{Fault}
use Rattle.refusal.specs.declared.Refusal.{Refusal}

-- each part of an answer of cutting
cut-number : (c : Result Cut Refusal) → cut_answer c % 256 ≡ refusal_number c
cut-number (Ok cut) = omega arith
cut-number (Err why) = omega (arith, (number-range why).1)

module _ (form : Form) (s : Start) (m : List ℕ) (room places : ℕ) where
  cut-frames : (c : Result Cut Refusal) → cut_of form s m room places ≡ c → cut_answer c / 256 % 16777216 ≡ cut_count c
  cut-frames (Ok cut) e = omega (arith, cut_few form s m room places cut e)
  cut-frames (Err why) e = omega (arith, (number-range why).1)

  cut-bytes : (c : Result Cut Refusal) → cut_of form s m room places ≡ c → cut_answer c / 4294967296 ≡ cut_bytes c
  cut-bytes (Ok cut) e = omega (arith, cut_few form s m room places cut e)
  cut-bytes (Err why) e = omega (arith, (number-range why).1)

  cut_parts : CutParts form s m room places
  cut_parts = record { number = cut-number (cut_of form s m room places); frames = cut-frames (cut_of form s m room places) refl; bytes = cut-bytes (cut_of form s m room places) refl }

join-number : (j : Result ℕ Fault) → joined_answer j % 256 ≡ fault_number j
join-number (Ok n) = omega arith
join-number (Err fault) = omega (arith, (number-range fault.why).1)

join-bytes : (j : Result ℕ Fault) → joined_answer j / 256 ≡ joined_bytes j
join-bytes (Ok n) = omega arith
join-bytes (Err fault) = omega (arith, (number-range fault.why).1)

pub answer-parts : AnswerParts
answer-parts = record {
  cut = cut_parts;
  join = λ form lengths bytes room. record { number = join-number (join_of form lengths bytes room); bytes = join-bytes (join_of form lengths bytes room) };
}
