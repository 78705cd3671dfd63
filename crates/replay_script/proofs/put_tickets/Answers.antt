-- `replay_script::put_tickets` meets its contract: after `i` turns the first `i` tickets are
-- written.
-- Assumes nothing.
use borrow.Author.Rules.{rules}
use Rattle.replay_script.proofs.Writing.{tickets-none, tickets-turn}
use Rattle.replay_script.proofs.put_tickets.Goals as goal

pub loop-i-init : goal.loop-i-init
loop-i-init c = (search rules, tickets-none _ c.args.tickets _)

pub loop-i-preserved : goal.loop-i-preserved
loop-i-preserved c =
    (search rules, tickets-turn _ _ _ _ _ _ _ _ (search rules) (search rules) c.requires.1 c.loop-i.invariant.1 c.put_spaced-end.ensures)
