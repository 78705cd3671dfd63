-- `resequencer::Numbers::pass` meets its contract: the distance from the old NESN to the new one is
-- m.
-- Assumes nothing.
use Rattle.resequencer.proofs.Steps.{pass_step}
use Rattle.resequencer.proofs.Numbers.pass.Goals as goal

pub returns : goal.returns
returns c = pass_step c.args.self c.args.m _ c.requires.1 c.advance.ensures
