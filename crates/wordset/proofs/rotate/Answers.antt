-- `wordset::rotate` meets its contract, by the law `shifts-rotate`.
-- Assumes nothing.
use Rattle.std.proofs.Common.{ℕ, ◌-◌, ◌*◌, ◌/◌, ◌%◌, ◌^◌, ap, ◌∙◌}
use lib.Bits.{bit_or}
use Rattle.wordset.specs.Sets.{rotate}
use Rattle.wordset.proofs.Rings.{shifts-rotate}
use Rattle.wordset.proofs.rotate.Goals as goal

pub returns : goal.returns
returns g c =
    let k : ℕ = g.W.Word.WIDTH in
    let w : ℕ = c.wide-word.result in
    let s : ℕ = c.args.start in
    let laws = g.met.W.Word in
    c.cut.ensures
    ∙ ap (λ (n : ℕ). bit_or (w / 2 ^ (s % n)) (w * 2 ^ ((n - s % n) % n) % 2 ^ 64) % 2 ^ k) c.WIDTH-width.ensures
    ∙ shifts-rotate k 64 laws.some laws.most w s c.wide-word.ensures.fits
    ∙ ap (λ (x : ℕ). rotate k x s) c.wide-word.ensures.same
