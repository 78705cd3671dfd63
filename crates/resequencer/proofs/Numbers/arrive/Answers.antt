-- `resequencer::Numbers::arrive` meets its contract: the verdict decides which case of `arrive_of`
-- applies.
-- Assumes nothing.
use mathlib.Core.Path.{sym, ◌∙◌}
use Rattle.resequencer.proofs.Steps.{arrive-taken, arrive-left, arrive-may}
use Rattle.resequencer.proofs.OutcomeNumbers.{arrive-step-numbers}
use Rattle.refusal.proofs.Clauses.{two}
use Rattle.resequencer.proofs.Numbers.arrive.Goals as goal

pub take_arrival-requires : goal.take_arrival-requires
take_arrival-requires c = arrive-may c.args.fits c.args.self c.args.sn.0 (sym c.check_arrive.ensures ∙ c.in-Ok.is)

pub returns-in-Ok : goal.returns-in-Ok
returns-in-Ok c =
    two (λ p q. record { value = p; number = q })
    (arrive-step-numbers _ _ _ _ (c.take_arrival.ensures ∙ arrive-taken _ _ _ (sym c.check_arrive.ensures ∙ c.in-Ok.is)))

pub returns-in-Err : goal.returns-in-Err
returns-in-Err c =
    two (λ p q. record { value = p; number = q })
    (arrive-step-numbers _ _ _ _ (c.stay.ensures ∙ arrive-left _ _ _ _ (sym c.check_arrive.ensures ∙ c.in-Err.is)))
