-- `frame_writer::put_strings` meets its contract: each part is written just after the one before
-- it.
-- Assumes nothing.
use mathlib.Core.Path.{◌≡◌, ap, ◌∙◌}
use mathlib.Core.List.{List, ◌∷◌, ◌++◌}
use Prim.Native.Nat.{ℕ, ◌+◌, ◌-◌}
use native.Mathlib.Omega.{arith}
use lib.ListN.{length}
use lib.Seq.{paste}
use Rattle.lists.proofs.Copying.{copied-part}
use Rattle.frame_writer.proofs.Writing.{written-part, strings-paste}
use Rattle.frame_writer.proofs.put_strings.Goals as goal

pub returns : goal.returns
returns c =
    let a = c.args in
    let o : List ℕ = a.out.now in
    let t : List ℕ = a.table.now in
    let e : List ℕ = length a.extra.now ∷ a.extra.now in
    let first = a.at + length t in
    let few : first - a.at ≡ length t = omega arith in
    let more : first + 1 + length a.extra.now - first ≡ length e = omega arith in
    let same : length t + length e ≡ length t + (1 + length a.extra.now) = omega arith in
    written-part _ e _ first (first + 1 + length a.extra.now - first) more c.put_counted.ensures
    ∙ ap (λ (l : List ℕ). paste l first e (length e)) (copied-part o t _ a.at (first - a.at) few (omega (arith, c.requires.0)) c.copy_in.ensures)
    ∙ strings-paste o t e a.at (omega (arith, c.requires.0))
    ∙ ap (paste o a.at (t ++ e)) same
