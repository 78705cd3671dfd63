-- `resequencer::Numbers::stay` meets its contract: the distance from NESN to itself is 0.
-- Assumes nothing.
use Rattle.resequencer.proofs.Steps.{still}
use Rattle.resequencer.proofs.Numbers.stay.Goals as goal

pub returns : goal.returns
returns c = still c.args.self c.args.outcome
