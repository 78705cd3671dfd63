-- `wordset::stretch` meets its contract, by the laws of stretches.
-- Assumes nothing.
use Rattle.std.proofs.Common.{ℕ, ◌-◌, ◌*◌, ◌%◌, ◌^◌, ap, ◌∙◌, arith}
use lib.Bits.{bit_and}
use Rattle.wordset.proofs.Walks.{stretch-none, stretch-mask, stretch-all}
use Rattle.wordset.proofs.stretch.Goals as goal

pub returns-then-size-eq0 : goal.returns-then-size-eq0
returns-then-size-eq0 g c = c.cut.ensures ∙ stretch-none g.W.Word.WIDTH _ _ _ (omega (arith, c.if-size-eq0.true))

pub returns-then-size-WIDTH : goal.returns-then-size-WIDTH
returns-then-size-WIDTH g c =
    let k : ℕ = g.W.Word.WIDTH in
    let n : ℕ = c.args.size in
    let room = g.met.W.Word.most in
    c.cut-then-size-WIDTH.ensures
    ∙ ap (λ (w : ℕ). bit_and w (1 * 2 ^ n % 2 ^ 64 - 1) % 2 ^ k) (c.wide.ensures.same ∙ c.rotate.ensures)
    ∙ stretch-mask k 64 _ _ n (omega arith)

pub returns-else-size-WIDTH : goal.returns-else-size-WIDTH
returns-else-size-WIDTH g c = c.rotate-else-size-WIDTH.ensures ∙ stretch-all g.W.Word.WIDTH _ _ _ (omega arith)
