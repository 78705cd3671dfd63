-- `wordset::union` meets its contract, by the law `or-union`.
-- Assumes nothing.
use Rattle.std.proofs.Common.{ap₂, ◌∙◌}
use Rattle.wordset.specs.Sets.{union}
use Rattle.wordset.proofs.Words.{or-union}
use Rattle.wordset.proofs.union.Goals as goal

pub returns : goal.returns
returns g c =
    let k = g.W.Word.WIDTH in
    c.cut.ensures ∙ or-union k _ _ ∙ ap₂ (union k) c.wide.ensures.same c.wide-2.ensures.same
