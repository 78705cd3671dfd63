-- `resequencer_bytes::none_stray` meets its contract: before the first turn no ticket has been
-- tested.
-- Assumes nothing.
use mathlib.Core.Path.{refl}
use Rattle.wordset.specs.Sets.{every}
use Rattle.resequencer_bytes.proofs.none_stray.Goals as goal

pub loop-block-init : goal.loop-block-init
unfolding every
loop-block-init c = refl
