-- `resequencer_bytes::word` meets its contract: the eight bytes read are those from `at` on.
-- Assumes nothing.
use mathlib.Core.Path.{◌∙◌}
use native.Mathlib.Omega.{arith}
use Rattle.resequencer_bytes.proofs.Reading.{eight-bytes}
use Rattle.resequencer_bytes.proofs.word.Goals as goal

pub returns : goal.returns
returns c = c.from_le_bytes.ensures ∙ eight-bytes c.args.state.now c.args.at (omega (arith, c.told-state))
