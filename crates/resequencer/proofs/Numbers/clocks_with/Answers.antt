-- `resequencer::Numbers::clocks_with` meets its contract: a clock starts or none does.
-- Assumes nothing.
use mathlib.Core.Path.{sym, ◌∙◌}
use Rattle.resequencer.specs.Events.{hold}
use Rattle.resequencer.proofs.Numbers.clocks_with.Goals as goal

pub returns-then-starts_clock : goal.returns-then-starts_clock
unfolding hold
returns-then-starts_clock c = simp (sym c.starts_clock.ensures ∙ c.if-starts_clock.true, c.with.ensures)

pub returns-else-starts_clock : goal.returns-else-starts_clock
unfolding hold
returns-else-starts_clock c = simp (sym c.starts_clock.ensures ∙ c.if-starts_clock.false)
