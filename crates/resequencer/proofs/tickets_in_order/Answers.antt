-- `resequencer::tickets_in_order` meets its contract: before the first turn no ticket has been
-- tested.
-- Assumes nothing.
use mathlib.Core.Path.{refl}
use Rattle.wordset.specs.Sets.{every}
use Rattle.resequencer.proofs.tickets_in_order.Goals as goal

pub loop-block-init : goal.loop-block-init
unfolding every
loop-block-init c = refl
