-- `capture::check_offsets` meets its contract: each way out knows the offsets that led there.
-- Assumes nothing.
use Rattle.capture.proofs.Opening.{Judging}
use Rattle.capture.proofs.check_offsets.Given as goal

abbrev pub invariant-loop-i : goal.invariant-loop-i
invariant-loop-i l = Judging l.file l.count l.offset l.short l.i
