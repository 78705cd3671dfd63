-- `resequencer::Numbers::starts_clock` meets its contract: each way out knows the tests that led
-- there.
-- Assumes nothing.
use native.Mathlib.Omega.{arith}
use borrow.Author.Tests.{eq-eqb, ne_eqb}
use lib.Dec.{lit<}
use Rattle.sequence.proofs.Modular.{distance-lt}
use Rattle.resequencer.specs.Events.{starts_clock}
use Rattle.resequencer.proofs.Numbers.starts_clock.Goals as goal

pub overflow_add-result : goal.overflow_add-result
overflow_add-result c =
    let s = c.args.self in
    omega (arith, c.distance_to.ensures, distance-lt 64 (lit< tt) s.nesn.0 s.hsnr.0)

pub returns-then-self-eq0 : goal.returns-then-self-eq0
unfolding starts_clock
returns-then-self-eq0 c = simp (eq-eqb _ _ c.if-self-eq0.true)

pub returns-else-self-eq0 : goal.returns-else-self-eq0
unfolding starts_clock
returns-else-self-eq0 c = simp (ne_eqb _ _ c.if-self-eq0.false, c.distance_to.ensures, c.distance_to-else-self-eq0.ensures)
