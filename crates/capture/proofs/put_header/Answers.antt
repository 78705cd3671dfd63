-- `capture::put_header` meets its contract: the count and the form, then the offsets.
-- Assumes nothing.
use mathlib.Core.Path.{◌≡◌, ap, ◌∙◌}
use native.Mathlib.Omega.{arith}
use lib.ListN.{length}
use Rattle.lists.proofs.Lists.{over-length}
use Rattle.capture.specs.Files.{header_of}
use Rattle.capture.proofs.Numbers.{put-kept}
use Rattle.capture.proofs.Saving.{headed, header-length}
use Rattle.capture.proofs.put_header.Goals as goal

pub put_number-requires : goal.put_number-requires
put_number-requires c = omega (arith, c.requires.room-enough)

pub put_number-requires-2 : goal.put_number-requires-2
put_number-requires-2 c =
    let first-kept : length c.put_number.new.out ≡ length c.args.out.now = put-kept c.args.out.now _ 0 _ (omega (arith, c.requires.room-enough)) c.put_number.ensures in omega (arith, first-kept, c.requires.room-enough)

pub put_offsets-requires : goal.put_offsets-requires
put_offsets-requires c =
    let first-kept : length c.put_number.new.out ≡ length c.args.out.now = put-kept c.args.out.now _ 0 _ (omega (arith, c.requires.room-enough)) c.put_number.ensures in
    let second-kept : length c.put_number-2.new.out ≡ length c.args.out.now = let e = first-kept in
    put-kept c.put_number.new.out _ 4 _ (omega (arith, e, c.requires.room-enough)) c.put_number-2.ensures ∙ e in record { few = c.requires.few; short = c.requires.short; room-enough = omega (arith, second-kept, c.requires.room-enough) }

pub shape_of-out : goal.shape_of-out
shape_of-out c =
    let e = headed c.args.form c.args.lengths.now c.args.out.now _ _ _ c.requires.room-enough c.put_number.ensures c.put_number-2.ensures c.put_offsets.ensures in
    ap length e ∙ over-length (header_of c.args.form c.args.lengths.now) c.args.out.now (omega (arith, header-length c.args.form c.args.lengths.now, c.requires.room-enough))

pub returns : goal.returns
returns c =
    headed c.args.form c.args.lengths.now c.args.out.now _ _ _ c.requires.room-enough c.put_number.ensures c.put_number-2.ensures c.put_offsets.ensures
