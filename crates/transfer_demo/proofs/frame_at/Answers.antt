-- `transfer_demo::frame_at` meets its contract: the frame at the place is among those from place i
-- on, which begin at byte `at`.
-- Assumes nothing.
use native.Mathlib.Omega.{arith}
use Rattle.transfer_demo.proofs.Finding.{starts, found, turns, past}
use Rattle.transfer_demo.proofs.frame_at.Goals as goal

pub loop-i-init : goal.loop-i-init
loop-i-init c = starts _ _ _

pub returns-then-i-place : goal.returns-then-i-place
returns-then-i-place c = found _ _ _ _ _ _ c.loop-i.invariant c.loop-i-test.true c.part_end-end.ensures c.if-i-place.true

pub loop-i-preserved : goal.loop-i-preserved
loop-i-preserved c = turns _ _ _ _ _ _ c.loop-i.invariant c.loop-i-test.true c.part_end-end.ensures c.if-i-place.false

pub returns : goal.returns
returns c = past c.args.lengths.now c.args.frames.now c.args.place (omega (arith, c.loop-i.invariant.early, c.loop-i-test.false))
