-- `wordset::first_from` meets its contract, by the law of the first number from a start.
-- Assumes nothing.
use Rattle.std.proofs.Common.{◌≡◌, ℕ, ◌+◌, ◌%◌, ◌<◌, sym, ap, ap₂, ◌∙◌, arith}
use native.Mathlib.Nat.{mod-add-mod}
use lib.Count.{count_trailing_zeros}
use Rattle.wordset.specs.Sets.{rotate, first_from}
use Rattle.wordset.proofs.Runs.{first-law}
use Rattle.wordset.proofs.first_from.Goals as goal

-- the empty set
pub returns-then-word-eq0 : goal.returns-then-word-eq0
returns-then-word-eq0 g c =
    let k : ℕ = g.W.Word.WIDTH in
    let e : g.W.Word.value c.args.set ≡ 0 = sym c.wide-word.ensures.same ∙ omega arith in
    c.WIDTH-width.ensures ∙ sym (ap (λ (w : ℕ). first_from k w c.args.start) e ∙ (first-law k).of_none c.args.start)

pub returns-else-word-eq0 : goal.returns-else-word-eq0
returns-else-word-eq0 g c =
    let k : ℕ = g.W.Word.WIDTH in
    let s : ℕ = c.args.start in
    let some : 0 < c.wide-word.result = omega arith in
    ap₂ (λ (n z : ℕ). (s % n + z) % n) c.WIDTH-width.ensures (c.zeros.ensures ∙ ap (count_trailing_zeros k) c.rotate.ensures)
    ∙ ap (λ (w : ℕ). (s % k + count_trailing_zeros k (rotate k w s)) % k) (sym c.wide-word.ensures.same)
    ∙ mod-add-mod s k _
    ∙ sym ((first-law k).is-first _ s some c.wide-word.ensures.fits)
    ∙ ap (λ (w : ℕ). first_from k w s) c.wide-word.ensures.same
