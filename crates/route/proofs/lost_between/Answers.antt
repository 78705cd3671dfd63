-- `route::lost_between` meets its contract: before the first block nothing is reported.
-- Assumes nothing.
use mathlib.Core.Path.{refl}
use Rattle.route.specs.Updating.{those}
use Rattle.route.proofs.lost_between.Goals as goal

pub loop-block-init : goal.loop-block-init
unfolding those
loop-block-init c = refl
