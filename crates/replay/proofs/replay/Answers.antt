-- `replay::replay` is safe and ends: the last report lies within the output.
-- Assumes nothing.
use mathlib.Core.Path.{sym}
use lib.Seq.{length-take-le}
use Rattle.replay_script.proofs.Feeding.{finish-fits}
use Rattle.replay.proofs.replay.Goals as goal

pub slice_bounds-print-end-2 : goal.slice_bounds-print-end-2
slice_bounds-print-end-2 c = finish-fits _ _ c.finish-last.ensures.value c.finish-last.ensures.written

pub slice_bounds-print-end-3 : goal.slice_bounds-print-end-3
slice_bounds-print-end-3 c = sym (length-take-le _ _ (finish-fits _ _ c.finish-last.ensures.value c.finish-last.ensures.written))
