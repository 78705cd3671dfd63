-- `wordset::without_lowest` meets its contract, by the law `less-one`.
-- Assumes nothing.
use Rattle.std.proofs.Common.{ap, ◌∙◌}
use Rattle.wordset.specs.Sets.{without_lowest}
use Rattle.wordset.proofs.Walks.{less-one}
use Rattle.wordset.proofs.without_lowest.Goals as goal

pub returns : goal.returns
returns g c =
    let k = g.W.Word.WIDTH in
    c.cut.ensures ∙ less-one k 64 _ g.met.W.Word.most c.wide-word.ensures.fits ∙ ap (without_lowest k) c.wide-word.ensures.same
