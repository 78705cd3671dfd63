-- `route::Table::update` meets its contract: the length and the entries decide the case of
-- `update_of`.
-- Assumes nothing.
use mathlib.Core.Path.{sym, ◌∙◌}
use Rattle.route.proofs.Cases.{update-long, update-cut, update-done, update-number}
use Rattle.refusal.proofs.Clauses.{two}
use Rattle.route.proofs.Table.update.Goals as goal

pub returns-then-list-gt255 : goal.returns-then-list-gt255
returns-then-list-gt255 c =
    two (λ p q. record { value = p; number = q })
    (update-number _ _ _ (c.refuse.ensures ∙ sym (update-long _ _ c.if-list-gt255.true)))

pub returns-then-collect_list : goal.returns-then-collect_list
returns-then-collect_list c =
    two (λ p q. record { value = p; number = q })
    (update-number _ _ _
    (update-done _ _ _ _ c.if-list-gt255.false c.collect_list.ensures c.if-collect_list.true
    _ c.settle-codes.ensures _ c.lost_between-count.ensures))

pub returns-else-collect_list : goal.returns-else-collect_list
returns-else-collect_list c =
    two (λ p q. record { value = p; number = q })
    (update-number _ _ _ (c.refuse-else-collect_list.ensures ∙ sym (update-cut _ _ _ _ c.if-list-gt255.false c.collect_list.ensures c.if-collect_list.false)))
