-- `resequencer::hsnr_left` meets its contract: the test picks the case.
-- Assumes nothing.
use borrow.Author.Tests.{eq-eqb, ne_eqb}
use Rattle.resequencer.proofs.hsnr_left.Goals as goal

pub returns-then-held-eq0 : goal.returns-then-held-eq0
returns-then-held-eq0 c = simp (eq-eqb _ _ c.if-held-eq0.true)

pub returns-else-held-eq0 : goal.returns-else-held-eq0
returns-else-held-eq0 c = simp (ne_eqb _ _ c.if-held-eq0.false)
