-- `wordset::with` meets its contract, by the law `or-with`.
-- Assumes nothing.
use Rattle.std.proofs.Common.{ℕ, sym, ap, ◌∙◌, arith}
use Rattle.wordset.specs.Sets.{with}
use Rattle.wordset.proofs.Words.{or-with, with-past}
use Rattle.wordset.proofs.with.Goals as goal

pub returns-then-number-WIDTH : goal.returns-then-number-WIDTH
returns-then-number-WIDTH g c =
    let k : ℕ = g.W.Word.WIDTH in
    let n = c.args.number in
    let room = g.met.W.Word.most in
    c.cut.ensures ∙ or-with k 64 _ n (omega arith) ∙ ap (λ (w : ℕ). with k w n) c.wide-word.ensures.same

pub returns-else-number-WIDTH : goal.returns-else-number-WIDTH
returns-else-number-WIDTH g c =
    let k : ℕ = g.W.Word.WIDTH in
    let e = c.wide-word.ensures.same in
    sym e ∙ with-past k c.wide-word.result _ c.wide-word.ensures.fits (omega arith) ∙ ap (λ (w : ℕ). with k w c.args.number) e
