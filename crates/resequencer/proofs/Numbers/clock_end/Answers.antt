-- `resequencer::Numbers::clock_end` meets its contract: the verdict decides which case of
-- `clock_end_of` applies.
-- Assumes nothing.
use mathlib.Core.Path.{sym, ◌∙◌}
use Rattle.resequencer.proofs.Steps.{end-taken, end-left, end-may}
use Rattle.resequencer.proofs.OutcomeNumbers.{end-step-numbers}
use Rattle.refusal.proofs.Clauses.{two}
use Rattle.resequencer.proofs.Numbers.clock_end.Goals as goal

pub take_clock_end-requires : goal.take_clock_end-requires
take_clock_end-requires c = end-may c.args.fits c.args.self c.args.sn.0 (sym c.check_clock_end.ensures ∙ c.in-Ok.is)

pub returns-in-Ok : goal.returns-in-Ok
returns-in-Ok c =
    two (λ p q. record { value = p; number = q })
    (end-step-numbers _ _ _ _ (c.take_clock_end.ensures ∙ end-taken _ _ _ (sym c.check_clock_end.ensures ∙ c.in-Ok.is)))

pub returns-in-Err : goal.returns-in-Err
returns-in-Err c =
    two (λ p q. record { value = p; number = q })
    (end-step-numbers _ _ _ _ (c.stay.ensures ∙ end-left _ _ _ _ (sym c.check_clock_end.ensures ∙ c.in-Err.is)))
