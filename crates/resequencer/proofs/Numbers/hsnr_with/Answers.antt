-- `resequencer::Numbers::hsnr_with` meets its contract: each way out knows the tests that led
-- there.
-- Assumes nothing.
use mathlib.Core.Path.{sym, ◌∙◌}
use native.Mathlib.Omega.{arith}
use borrow.Author.Tests.{eq-eqb, ne_eqb}
use lib.Dec.{lit<}
use Rattle.sequence.proofs.Modular.{distance-lt}
use Rattle.resequencer.specs.Events.{hold}
use Rattle.resequencer.proofs.Numbers.hsnr_with.Goals as goal

pub overflow_add-distance_to : goal.overflow_add-distance_to
overflow_add-distance_to c =
    let s = c.args.self in
    omega (arith, c.distance_to-else-starts_clock.ensures, distance-lt 64 (lit< tt) s.nesn.0 s.hsnr.0)

pub returns-then-starts_clock : goal.returns-then-starts_clock
unfolding hold
returns-then-starts_clock c = simp (sym c.starts_clock.ensures ∙ c.if-starts_clock.true)

pub returns-then-distance_to : goal.returns-then-distance_to
unfolding hold
returns-then-distance_to c = simp (
  sym c.starts_clock.ensures ∙ c.if-starts_clock.false,
  ← c.distance_to.ensures,
  ← c.distance_to-else-starts_clock.ensures,
  eq-eqb _ _ c.if-distance_to.true,
)

pub returns-else-distance_to : goal.returns-else-distance_to
unfolding hold
returns-else-distance_to c = simp (
  sym c.starts_clock.ensures ∙ c.if-starts_clock.false,
  ← c.distance_to.ensures,
  ← c.distance_to-else-starts_clock.ensures,
  ne_eqb _ _ c.if-distance_to.false,
)
