-- `wordset::difference` meets its contract, by the law `and-difference`.
-- Assumes nothing.
use Rattle.std.proofs.Common.{ap₂, ◌∙◌}
use Rattle.wordset.specs.Sets.{difference}
use Rattle.wordset.proofs.Words.{and-difference}
use Rattle.wordset.proofs.difference.Goals as goal

pub returns : goal.returns
returns g c =
    let k = g.W.Word.WIDTH in
    c.cut.ensures ∙ and-difference k 64 _ _ g.met.W.Word.most c.wide-2.type_inv ∙ ap₂ (difference k) c.wide.ensures.same c.wide-2.ensures.same
