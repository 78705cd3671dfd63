-- A refusal is the one with its number; a number that no refusal has is that of none.
use Rattle.std.proofs.Common.{ap, sym, ◌∙◌}
use Rattle.refusal.specs.Numbers.{refusal_at}
use Rattle.refusal.proofs.Numbers.{number-back, none-at}
use Rattle.refusal.proofs.Refusal.at.Goals as goal

pub returns-in-Ok : goal.returns-in-Ok
returns-in-Ok c = sym (number-back c.in-Ok.why) ∙ ap refusal_at c.in-Ok.ensures

pub returns-in-Err : goal.returns-in-Err
returns-in-Err c = sym (none-at c.args.n c.in-Err.ensures.1)
