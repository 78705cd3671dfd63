-- `resequencer::window_in_order` meets its contract: each way out knows the tests that led there.
-- Assumes nothing.
use mathlib.Core.Path.{sym, ◌∙◌}
use borrow.Author.Tests.{lt-ltb, le-ltb, eq-eqb, ne_eqb}
use Rattle.resequencer.specs.Parts.{window_in_order}
use Rattle.resequencer.proofs.window_in_order.Goals as goal

pub returns-then-difference-eq0 : goal.returns-then-difference-eq0
unfolding window_in_order
returns-then-difference-eq0 c = simp (eq-eqb _ _ c.if-h-eq0.true, lt-ltb _ _ c.if-h-lt4294967296.true, eq-eqb _ _ (sym c.difference.ensures ∙ c.if-difference-eq0.true))

pub returns-else-difference-eq0 : goal.returns-else-difference-eq0
unfolding window_in_order
returns-else-difference-eq0 c = simp (eq-eqb _ _ c.if-h-eq0.true, lt-ltb _ _ c.if-h-lt4294967296.true, ← c.difference.ensures, ne_eqb _ _ c.if-difference-eq0.false)

pub returns-else-h-lt4294967296 : goal.returns-else-h-lt4294967296
unfolding window_in_order
returns-else-h-lt4294967296 c = simp (eq-eqb _ _ c.if-h-eq0.true, le-ltb _ _ c.if-h-lt4294967296.false)

pub returns-else-h-eq0 : goal.returns-else-h-eq0
unfolding window_in_order
returns-else-h-eq0 c = simp (ne_eqb _ _ c.if-h-eq0.false)
