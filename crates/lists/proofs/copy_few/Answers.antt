-- `lists::copy_few` meets its contract: the bytes before `i` are copied.
-- Assumes nothing.
use mathlib.Core.Path.{◌≡◌, refl, ap, ◌∙◌}
use mathlib.Core.List.{List}
use Prim.Native.Nat.{ℕ, ◌+◌, ◌<◌}
use native.Mathlib.Omega.{arith}
use lib.ListN.{length, get_or, set, length-set}
use lib.Seq.{paste, paste-zero}
use Rattle.lists.proofs.Copying.{copy_step}
use Rattle.lists.proofs.copy_few.Goals as goal

pub loop-i-init : goal.loop-i-init
loop-i-init c = (refl, paste-zero c.args.out.now c.args.at c.args.bytes.now)

pub loop-i-preserved : goal.loop-i-preserved
loop-i-preserved c =
    let l = c.loop-i in
    let a = c.args in
    let b = get_or a.bytes.now l.i 0 in
    let room : a.at + l.i < length a.out.now = omega arith in (
      length-set l.out (a.at + l.i) b ∙ l.invariant.0,
      ap (λ (o : List ℕ). set o (a.at + l.i) b) l.invariant.1
          ∙ copy_step a.out.now a.at a.bytes.now l.i b room c.loop-i-test.true refl,
    )

pub returns : goal.returns
returns c =
    let l = c.loop-i in
    let a = c.args in
    let all : l.i ≡ length a.bytes.now = omega arith in
    l.invariant.1 ∙ ap (paste a.out.now a.at a.bytes.now) all
