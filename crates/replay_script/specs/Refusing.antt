-- Refused parts and ends of a script: document 01, "Refusal numbers": "A refusal returns its
-- number, counts of 0, unused places 0 and the same state; no lent byte changes."
-- proofs/Refusing.antt proves it.
-- Assumes nothing.
use Rattle.std.specs.Prelude.{◌≡◌, List, ◌≢◌, ℕ}
use Rattle.refusal.specs.Numbers.{refusal_number}
use Rattle.replay_script.specs.declared.Replay.{Replay}
use Rattle.replay_script.specs.Feeding.{feed_of, feed_out, finish_of, finish_out}

-- if the number of the verdict is not 0, no report is written, the `Replay` is the one that was
-- given, and the lent output is unchanged
pub record RefusalsChangeNothing : Type 0 where
  pub feed : (r : Replay) (part out : List ℕ) → refusal_number (feed_of r part out).verdict ≢ 0
      → ((feed_of r part out).written ≡ 0) × ((feed_of r part out).next ≡ r) × (feed_out r part out ≡ out)
  pub finish : (r : Replay) (out : List ℕ) → refusal_number (finish_of r out).verdict ≢ 0
      → ((finish_of r out).written ≡ 0) × ((finish_of r out).next ≡ r) × (finish_out r out ≡ out)
