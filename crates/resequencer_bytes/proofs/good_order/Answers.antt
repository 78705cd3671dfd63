-- `resequencer_bytes::good_order` meets its contract: good order is that of the numbers, with
-- tickets that fit them.
-- Assumes nothing.
use mathlib.Core.Path.{ap, ◌∙◌}
use Rattle.resequencer.specs.Numbers.{numbers_in_order}
use Rattle.resequencer.proofs.Steps.{order-told, order-stray}
use Rattle.resequencer_bytes.specs.Stored.{state_in}
use Rattle.resequencer_bytes.proofs.good_order.Goals as goal

pub returns-then-tickets_in_order : goal.returns-then-tickets_in_order
returns-then-tickets_in_order c =
    order-told (state_in c.args.state.now) _ _ c.tickets_in_order.ensures c.if-tickets_in_order.true (c.in_order.ensures ∙ ap numbers_in_order c.numbers_in.ensures)

pub returns-else-tickets_in_order : goal.returns-else-tickets_in_order
returns-else-tickets_in_order c =
    order-stray (state_in c.args.state.now) _ c.tickets_in_order.ensures c.if-tickets_in_order.false
