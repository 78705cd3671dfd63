-- `wordset::count` meets its contract, by the law of the count of ones.
-- Assumes nothing.
use Rattle.std.proofs.Common.{◌∙◌}
use Rattle.wordset.proofs.Sets.{set-laws}
use Rattle.wordset.proofs.count.Goals as goal

pub returns : goal.returns
returns g c = c.ones.ensures.same ∙ (set-laws g.W.Word.WIDTH).count_ones _ c.ones.ensures.fits
