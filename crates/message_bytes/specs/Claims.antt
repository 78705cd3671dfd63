-- The claim that an answer's parts do not overlap: the refusal number and the counts can be
-- computed back from the one number. (That a refusal writes nothing is claimed of cutting and
-- joining themselves, in `message_claims`.) proofs/Claims.antt proves it.
-- Assumes nothing.
use Rattle.std.specs.Prelude.{◌≡◌, List, ℕ, ◌/◌, ◌%◌}
use Rattle.frame_form.specs.declared.Form.{Form}
use Rattle.message.specs.declared.cutting.Start.{Start}
use Rattle.message.specs.Cutting.{cut_count, cut_bytes, cut_of}
use Rattle.message.specs.Joining.{joined_bytes, join_of}
use Rattle.message_bytes.specs.Answers.{cut_answer, joined_answer}
use Rattle.refusal.specs.Numbers.{refusal_number}
use Rattle.refusal.specs.Positions.{fault_number}

-- of an answer of cutting: the refusal number is in bits 0 to 7, the number of frames in bits 8 to
-- 31, the sum of their bytes from bit 32 up
pub record CutParts (form : Form) (s : Start) (message : List ℕ) (room places : ℕ) : Type 0 where
  pub number : cut_answer (cut_of form s message room places) % 256 ≡ refusal_number (cut_of form s message room places)
  pub frames : cut_answer (cut_of form s message room places) / 256 % 16777216 ≡ cut_count (cut_of form s message room places)
  pub bytes : cut_answer (cut_of form s message room places) / 4294967296 ≡ cut_bytes (cut_of form s message room places)

-- of an answer of joining: the refusal number is in bits 0 to 7, the length of the message from bit
-- 8 up
pub record JoinParts (form : Form) (lengths frames : List ℕ) (room : ℕ) : Type 0 where
  pub number : joined_answer (join_of form lengths frames room) % 256 ≡ fault_number (join_of form lengths frames room)
  pub bytes : joined_answer (join_of form lengths frames room) / 256 ≡ joined_bytes (join_of form lengths frames room)

-- both, for all arguments
pub record AnswerParts : Type 0 where
  pub cut : (form : Form) (s : Start) (message : List ℕ) (room places : ℕ) → CutParts form s message room places
  pub join : (form : Form) (lengths frames : List ℕ) (room : ℕ) → JoinParts form lengths frames room
