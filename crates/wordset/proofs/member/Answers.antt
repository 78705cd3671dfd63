-- `wordset::member` meets its contract, by the law `cut-member`.
-- Assumes nothing.
use Rattle.std.proofs.Common.{ℕ, ◌==◌, sym, ap, ◌∙◌, arith}
use lib.Bits.{bit_and}
use Rattle.wordset.specs.Sets.{member}
use Rattle.wordset.proofs.Sets.{member-past}
use Rattle.wordset.proofs.Words.{cut-member}
use Rattle.wordset.proofs.member.Goals as goal

pub returns-then-number-WIDTH : goal.returns-then-number-WIDTH
returns-then-number-WIDTH g c =
    let n : ℕ = c.args.number in
    let word = c.wide-word.ensures in
    ap (λ (x : ℕ). bit_and x 1 == 1) (c.wide.ensures.same ∙ c.cut.ensures)
    ∙ cut-member g.W.Word.WIDTH _ n word.fits
    ∙ ap (λ (w : ℕ). member w n) word.same

pub returns-else-number-WIDTH : goal.returns-else-number-WIDTH
returns-else-number-WIDTH g c =
    let word = c.wide-word.ensures in
    sym (ap (λ w. member w c.args.number) (sym word.same) ∙ member-past g.W.Word.WIDTH _ _ word.fits (omega arith))
