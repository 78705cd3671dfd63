-- `resequencer::Numbers::hold` meets its contract: field by field.
-- Assumes nothing.
use Rattle.resequencer.specs.Events.{hold}
use Rattle.resequencer.proofs.Steps.{held-step}
use Rattle.resequencer.proofs.Numbers.hold.Goals as goal

pub returns : goal.returns
unfolding hold
returns c = held-step c.args.self c.args.sn.0 _ _ _ c.hsnr_with.ensures c.with.ensures c.clocks_with.ensures
