-- `resequencer::Resequencer::arrive` meets its contract: the step of the numbers determines the
-- whole answer.
-- Assumes nothing.
use Rattle.resequencer.proofs.Steps.{arrive-asks, arrive-told}
use Rattle.resequencer.proofs.OutcomeNumbers.{arrive-numbers}
use Rattle.refusal.proofs.Clauses.{two}
use Rattle.resequencer.proofs.Resequencer.arrive.Goals as goal

pub answer-requires : goal.answer-requires
answer-requires c = let a = c.args in arrive-asks a.self _ _ a.sn.0 a.ticket _ c.numbers.ensures c.arrive-step.ensures.value

pub returns : goal.returns
returns c =
    two (λ p q. record { value = p; number = q })
    (let a = c.args in
    arrive-numbers _ _ _ _
    (arrive-told a.self _ _ a.sn.0 a.ticket _ c.numbers.ensures _ c.tickets_in_order-fits.ensures c.arrive-step.ensures.value c.answer.ensures))
