-- `resequencer::Resequencer::clock_end` meets its contract: the step of the numbers determines the
-- whole answer.
-- Assumes nothing.
use Rattle.resequencer.proofs.Steps.{end-asks, end-told}
use Rattle.resequencer.proofs.OutcomeNumbers.{end-numbers}
use Rattle.refusal.proofs.Clauses.{two}
use Rattle.resequencer.proofs.Resequencer.clock_end.Goals as goal

pub answer-requires : goal.answer-requires
answer-requires c = let a = c.args in end-asks a.self _ _ a.sn.0 0 _ c.numbers.ensures c.clock_end-step.ensures.value

pub returns : goal.returns
returns c =
    two (λ p q. record { value = p; number = q })
    (let a = c.args in
    end-numbers _ _ _
    (end-told a.self _ _ a.sn.0 0 _ c.numbers.ensures _ c.tickets_in_order-fits.ensures c.clock_end-step.ensures.value c.answer.ensures))
