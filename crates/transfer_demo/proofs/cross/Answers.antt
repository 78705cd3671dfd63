-- `transfer_demo::cross` meets its contract: what was kept lies within the lists.
-- Assumes nothing.
use mathlib.Core.Path.{sym}
use lib.Seq.{length-take-le}
use Rattle.transfer_demo.proofs.cross.Goals as goal

pub slice_bounds-join_frames-end : goal.slice_bounds-join_frames-end
slice_bounds-join_frames-end c = sym (length-take-le _ _ c.receive-handed.ensures.count_fits)

pub slice_bounds-join_frames-end-2 : goal.slice_bounds-join_frames-end-2
slice_bounds-join_frames-end-2 c = sym (length-take-le _ _ c.receive-handed.ensures.total-fits)
