-- `replay_script::put_handed` meets its contract: the test is the one of `tickets_text`.
-- Assumes nothing.
use native.Mathlib.Omega.{arith}
use borrow.Author.Rules.{rules}
use Rattle.text.proofs.Writing.{meant}
use Rattle.replay_script.proofs.Reports.{dash-is, tickets-are}
use Rattle.replay_script.proofs.put_handed.Goals as goal

pub returns-then-count-eq0 : goal.returns-then-count-eq0
returns-then-count-eq0 c = meant (c.put_word.ensures.written (omega arith)) (dash-is _ _ c.if-count-eq0.true) (search rules)

pub returns : goal.returns
returns c = meant c.put_tickets.ensures (tickets-are _ _ c.if-count-eq0.false (omega arith)) (search rules)
