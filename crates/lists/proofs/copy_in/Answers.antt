-- `lists::copy_in` meets its contract: as many bytes are copied as there is room for.
-- Assumes nothing.
use mathlib.Core.Path.{◌≡◌, sym, ◌∙◌}
use Prim.Native.Nat.{◌+◌, ◌≤◌, min}
use native.Mathlib.Omega.{arith}
use lib.ListN.{length, take}
use lib.Seq.{length-take-le}
use Rattle.lists.proofs.Copying.{copied-front}
use Rattle.lists.proofs.copy_in.Goals as goal

pub slice_bounds-copy_blocks-end : goal.slice_bounds-copy_blocks-end
slice_bounds-copy_blocks-end c =
    let few : c.min-n.result ≡ min (length c.args.bytes.now) (length c.args.out.now) = c.min-n.ensures in
    let a = c.args in
    sym (length-take-le c.min-n.result a.bytes.now (omega (arith, few)))

pub copy_blocks-requires : goal.copy_blocks-requires
copy_blocks-requires c =
    let few : c.min-n.result ≡ min (length c.args.bytes.now) (length c.args.out.now) = c.min-n.ensures in
    let a = c.args in
    let n = c.min-n.result in
    let long : length (take n a.bytes.now) ≡ n = length-take-le n a.bytes.now (omega (arith, few)) in
    let room : 0 + length (take n a.bytes.now) ≤ length a.out.now = omega (arith, long, few) in
    room

pub returns : goal.returns
returns c =
    let few : c.min-n.result ≡ min (length c.args.bytes.now) (length c.args.out.now) = c.min-n.ensures in
    c.copy_blocks.ensures ∙ copied-front c.args.out.now c.args.bytes.now _ few
