-- Refused calls of cutting and joining: document 01, "Refusal numbers": "A refusal returns its
-- number, counts of 0 .. no lent byte changes." proofs/Refusing.antt proves it.
-- Assumes nothing.
use Rattle.std.specs.Prelude.{◌≡◌, List, ◌≢◌, ℕ, length}
use Rattle.frame_form.specs.declared.Form.{Form}
use Rattle.message.specs.declared.cutting.Start.{Start}
use Rattle.message.specs.Cutting.{cut_count, cut_bytes, cut_of, cut_output, cut_lengths}
use Rattle.message.specs.Joining.{joined_bytes, join_of, join_output}
use Rattle.refusal.specs.Numbers.{refusal_number}
use Rattle.refusal.specs.Positions.{fault_number}

-- if the number that the call answers is not 0, its counts are 0 and the lent lists are unchanged
pub record RefusalsChangeNothing : Type 0 where
  pub cut : (form : Form) (s : Start) (message out lengths : List ℕ) → refusal_number (cut_of form s message (length out) (length lengths)) ≢ 0
      → (cut_count (cut_of form s message (length out) (length lengths)) ≡ 0) × (cut_bytes (cut_of form s message (length out) (length lengths)) ≡ 0)
      × (cut_output form s message out (length lengths) ≡ out) × (cut_lengths form s message (length out) lengths ≡ lengths)
  pub join : (form : Form) (lengths bytes out : List ℕ) → fault_number (join_of form lengths bytes (length out)) ≢ 0
      → (joined_bytes (join_of form lengths bytes (length out)) ≡ 0) × (join_output form lengths bytes out ≡ out)
