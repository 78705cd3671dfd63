-- `capture::put_offsets` meets its contract: an offset for each frame, then the end.
-- Assumes nothing.
use Rattle.capture.proofs.Saving.{Heading}
use Rattle.capture.proofs.put_offsets.Given as goal

abbrev pub invariant-loop-i : goal.invariant-loop-i
invariant-loop-i l = Heading l.lengths l.initial.out l.out l.offset l.i
