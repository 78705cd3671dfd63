-- `lists::block_at` meets its contract: the bytes before `i` are copied.
-- Assumes nothing.
use mathlib.Core.Path.{◌≡◌, refl, sym, ap, ◌∙◌}
use mathlib.Core.List.{List}
use Prim.Native.Nat.{ℕ, ◌+◌, ◌<◌}
use native.Mathlib.Omega.{arith}
use lib.ListN.{length, get_or, set, drop, replicate, length-set, length-drop}
use lib.Seq.{paste, paste-zero, get_or-drop}
use Rattle.lists.proofs.Copying.{copy-front, paste_all}
use Rattle.lists.proofs.block_at.Goals as goal

pub loop-i-init : goal.loop-i-init
loop-i-init c = (refl, paste-zero (replicate 16 0) 0 (drop c.args.at c.args.bytes.now))

pub loop-i-preserved : goal.loop-i-preserved
loop-i-preserved c =
    let l = c.loop-i in
    let a = c.args in
    let s : List ℕ = drop a.at a.bytes.now in
    let b = get_or a.bytes.now (a.at + l.i) 0 in
    let more : l.i < length s = omega (arith, length-drop a.at a.bytes.now) in (
      length-set l.block l.i b ∙ l.invariant.0,
      ap (λ (o : List ℕ). set o l.i b) l.invariant.1
          ∙ copy-front (replicate 16 0) s l.i b c.loop-i-test.true more (sym (get_or-drop a.at a.bytes.now l.i 0)),
    )

pub returns : goal.returns
returns c =
    let l = c.loop-i in
    let a = c.args in
    let s : List ℕ = drop a.at a.bytes.now in
    let end : l.i ≡ 16 = omega arith in
    l.invariant.1 ∙ ap (paste (replicate 16 0) 0 s) end ∙ paste_all (replicate 16 0) s 16 refl
