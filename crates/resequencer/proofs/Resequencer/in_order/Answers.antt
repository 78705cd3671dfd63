-- `resequencer::Resequencer::in_order` meets its contract: good order is that of the numbers, with
-- tickets that fit them.
-- Assumes nothing.
use mathlib.Core.Path.{ap, ◌∙◌}
use Rattle.resequencer.specs.Numbers.{numbers_in_order}
use Rattle.resequencer.proofs.Steps.{order-told, order-stray}
use Rattle.resequencer.proofs.Resequencer.in_order.Goals as goal

pub returns-then-tickets_in_order : goal.returns-then-tickets_in_order
returns-then-tickets_in_order c = order-told c.args.self _ _ c.tickets_in_order.ensures c.if-tickets_in_order.true (c.in_order.ensures ∙ ap numbers_in_order c.numbers.ensures)

pub returns-else-tickets_in_order : goal.returns-else-tickets_in_order
returns-else-tickets_in_order c = order-stray c.args.self _ c.tickets_in_order.ensures c.if-tickets_in_order.false
