-- `replay_script::answer_to` meets its contract: each arm is a case of `line_answer`; every
-- sequence number over 63 is refused alike.
-- Assumes nothing.
use mathlib.Core.Path.{ap, ◌∙◌}
use Rattle.std.specs.Prelude.{Some}
use Rattle.replay_script.proofs.Lines.{arrival-answer, end-answer}
use Rattle.replay_script.proofs.answer_to.Goals as goal

pub returns-in-Some-Arrival : goal.returns-in-Some-Arrival
returns-in-Some-Arrival c =
    let a = c.in-Some-Arrival in
    arrival-answer _ _ _ (a.is ∙ ap Some (rw a.is at a.field-0-is)) c.narrow.ensures c.arrive.ensures.value

pub returns-in-Some-ClockEnd : goal.returns-in-Some-ClockEnd
returns-in-Some-ClockEnd c =
    let a = c.in-Some-ClockEnd in
    end-answer _ _ (a.is ∙ ap Some (rw a.is at a.field-0-is)) c.narrow-in-Some-ClockEnd.ensures c.clock_end.ensures.value
