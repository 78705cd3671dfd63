-- `lists::put_block` meets its contract: the bytes before `i` are written.
-- Assumes nothing.
use mathlib.Core.Path.{◌≡◌, refl, ap, ◌∙◌}
use mathlib.Core.List.{List}
use Prim.Native.Nat.{ℕ, ◌+◌, ◌<◌}
use native.Mathlib.Omega.{arith}
use lib.ListN.{length, get_or, set, length-set}
use lib.Seq.{paste, paste-zero}
use Rattle.lists.proofs.Copying.{copy_step}
use Rattle.lists.proofs.put_block.Goals as goal

pub loop-i-init : goal.loop-i-init
loop-i-init c = (refl, paste-zero c.args.out.now c.args.at c.args.block)

pub loop-i-preserved : goal.loop-i-preserved
loop-i-preserved c =
    let l = c.loop-i in
    let a = c.args in
    let b = get_or a.block l.i 0 in
    let room : a.at + l.i < length a.out.now = omega arith in
    let more : l.i < length a.block = omega (arith, c.requires) in (
      length-set l.out (a.at + l.i) b ∙ l.invariant.0,
      ap (λ (o : List ℕ). set o (a.at + l.i) b) l.invariant.1
          ∙ copy_step a.out.now a.at a.block l.i b room more refl,
    )

pub returns : goal.returns
returns c =
    let l = c.loop-i in
    let a = c.args in
    let all : l.i ≡ 16 = omega arith in
    l.invariant.1 ∙ ap (paste a.out.now a.at a.block) all
