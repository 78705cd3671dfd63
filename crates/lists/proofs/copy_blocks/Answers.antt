-- `lists::copy_blocks` meets its contract: the bytes before `i` are copied, and the last block ends
-- the copy.
-- Assumes nothing.
use mathlib.Core.Path.{◌≡◌, refl, ap, ap₂, ◌∙◌}
use mathlib.Core.List.{List}
use Prim.Native.Nat.{ℕ, ◌+◌, ◌-◌, ◌≤◌}
use native.Mathlib.Omega.{arith}
use lib.ListN.{length, take, drop, length-drop}
use lib.Seq.{paste, paste-zero, length-paste, length-take-le}
use borrow.Author.Rules.{rules}
use Rattle.lists.proofs.Copying.{copy_more}
use Rattle.lists.proofs.copy_blocks.Goals as goal

-- a block that ends within the list has sixteen bytes
block-length : (s b : List ℕ) (i : ℕ) → b ≡ take 16 (drop i s) → i + 16 ≤ length s → length b ≡ 16
block-length s b i e some = ap length e ∙ length-take-le 16 (drop i s) (omega (arith, length-drop i s))

-- a block is copied, possibly over bytes that were copied before
block-step : (o s out b : List ℕ) (at i j : ℕ) → out ≡ paste o at s i → b ≡ take 16 (drop j s) → j ≤ i → i ≤ j + 16 → j + 16 ≤ length s
    → at + length s ≤ length o → paste out (at + j) b 16 ≡ paste o at s (j + 16)
block-step o s out b at i j eo eb low high some room = ap₂ (λ (x y : List ℕ). paste x (at + j) y 16) eo eb ∙ copy_more o s at i j 16 low high some room

-- ---- the needs
pub loop-i-init : goal.loop-i-init
loop-i-init c = let a = c.args in (search rules, refl, paste-zero a.out.now a.at a.bytes.now)

pub put_block-requires : goal.put_block-requires
put_block-requires c =
    let a = c.args in
    let l = c.loop-i in
    (omega (arith, l.invariant), block-length a.bytes.now _ l.i c.block_at.ensures (omega (arith, c.loop-i-test.true)))

pub loop-i-preserved : goal.loop-i-preserved
loop-i-preserved c =
    let a = c.args in
    let l = c.loop-i in
    let more : l.i + 16 ≤ length a.bytes.now = omega (arith, c.loop-i-test.true) in
    let step = c.put_block.ensures
    ∙ block-step a.out.now a.bytes.now l.out _ a.at l.i l.i l.invariant.2 c.block_at.ensures (omega arith) (omega arith) more c.requires in
    (more, ap length step ∙ length-paste a.out.now a.at a.bytes.now (l.i + 16) (omega (arith, c.requires)) more, step)

pub put_block-requires-2 : goal.put_block-requires-2
put_block-requires-2 c =
    let a = c.args in
    let l = c.loop-i in
    (omega (arith, l.invariant), block-length a.bytes.now _ (length a.bytes.now - 16) c.block_at-2.ensures (omega (arith, c.if-bytes-lt16.false)))

pub returns : goal.returns
returns c =
    let a = c.args in
    let l = c.loop-i in
    let n = length a.bytes.now in
    let all : n - 16 + 16 ≡ n = omega (arith, c.if-bytes-lt16.false) in
    c.put_block-2.ensures
    ∙ block-step a.out.now a.bytes.now l.out _ a.at l.i (n - 16) l.invariant.2 c.block_at-2.ensures
    (omega (arith, c.loop-i-test.false)) (omega (arith, l.invariant.0, all)) (omega (arith, all)) c.requires
    ∙ ap (paste a.out.now a.at a.bytes.now) all
