-- `message::cutting::put_frames` meets its contract: each turn writes a frame, and the one that is
-- not full is the last.
-- Assumes nothing.
use Prim.Native.Nat.{◌-◌}
use Rattle.message.proofs.Steps.{Cutting}
use Rattle.message.proofs.cutting.put_frames.Given as goal

abbrev pub invariant-loop-from : goal.invariant-loop-from
invariant-loop-from l = Cutting l.form l.initial.next l.full l.message l.initial.out l.initial.lengths l.out l.lengths l.next l.from l.at l.i

abbrev pub decreases-loop-from : goal.decreases-loop-from
decreases-loop-from l = l.full - l.i
