-- `resequencer::hsnr_in_order` meets its contract: each way out knows the tests that led there.
-- Assumes nothing.
use mathlib.Core.Path.{sym, ◌∙◌}
use borrow.Author.Tests.{eq-eqb, ne_eqb}
use Rattle.resequencer.specs.Parts.{hsnr_in_order}
use Rattle.resequencer.proofs.hsnr_in_order.Goals as goal

pub returns-then-h-eq0 : goal.returns-then-h-eq0
unfolding hsnr_in_order
returns-then-h-eq0 c = simp (eq-eqb _ _ c.if-h-eq0.true)

pub returns-then-h-e-eq1 : goal.returns-then-h-e-eq1
unfolding hsnr_in_order
returns-then-h-e-eq1 c = simp (ne_eqb _ _ c.if-h-eq0.false, sym c.in_field.ensures ∙ c.if-in_field.true, eq-eqb _ _ c.if-h-e-eq1.true)

pub returns-else-h-e-eq1 : goal.returns-else-h-e-eq1
unfolding hsnr_in_order
returns-else-h-e-eq1 c = simp (ne_eqb _ _ c.if-h-eq0.false, sym c.in_field.ensures ∙ c.if-in_field.true, ne_eqb _ _ c.if-h-e-eq1.false)

pub returns-else-in_field : goal.returns-else-in_field
unfolding hsnr_in_order
returns-else-in_field c = simp (ne_eqb _ _ c.if-h-eq0.false, sym c.in_field.ensures ∙ c.if-in_field.false, c.if-in_field.false)
