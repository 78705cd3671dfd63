-- `wordset::lowest` meets its contract, by the law of trailing zeros at the word's width.
-- Assumes nothing.
use Rattle.std.proofs.Common.{◌∙◌}
use Rattle.wordset.proofs.Runs.{lowest-law}
use Rattle.wordset.proofs.lowest.Goals as goal

pub returns : goal.returns
returns g c = c.zeros.ensures ∙ (lowest-law g.W.Word.WIDTH).is-lowest _
