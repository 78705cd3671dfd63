-- `wordset::run` meets its contract, by the law `zeros-run`.
-- Assumes nothing.
use Rattle.std.proofs.Common.{ℕ, ◌-◌, ◌^◌, ap, ◌∙◌}
use lib.Count.{count_trailing_zeros}
use Rattle.wordset.proofs.Rings.{zeros-run}
use Rattle.wordset.proofs.run.Goals as goal

pub returns : goal.returns
returns g c =
    ap (λ (w : ℕ). count_trailing_zeros 64 (2 ^ 64 - 1 - w)) (c.wide.ensures.same ∙ c.rotate.ensures)
    ∙ zeros-run g.W.Word.WIDTH 64 _ _ g.met.W.Word.most
