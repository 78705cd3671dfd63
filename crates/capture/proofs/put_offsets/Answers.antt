-- `capture::put_offsets` meets its contract: an offset for each frame, then the end.
-- Assumes nothing.
use native.Mathlib.Omega.{arith}
use Rattle.capture.proofs.Saving.{starts, turns, ends}
use Rattle.capture.proofs.put_offsets.Goals as goal

pub loop-i-init : goal.loop-i-init
loop-i-init c =
    starts c.args.lengths.now c.args.out.now _ (omega arith) (omega (arith, c.requires.room-enough))

pub loop-i-preserved : goal.loop-i-preserved
loop-i-preserved c =
    let l = c.loop-i in
    turns c.args.lengths.now c.args.out.now l.out l.offset l.i l.invariant _ c.loop-i-test.true c.put_number.ensures

pub returns : goal.returns
returns c =
    let l = c.loop-i in
    ends c.args.lengths.now c.args.out.now l.out l.offset l.i l.invariant _ (omega (arith, c.loop-i-test.false)) c.put_number-2.ensures
