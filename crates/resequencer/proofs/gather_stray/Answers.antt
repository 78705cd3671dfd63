-- `resequencer::gather_stray` meets its contract: each way out knows the test that led there.
-- Assumes nothing.
use Rattle.resequencer.specs.Parts.{gather_stray}
use Rattle.resequencer.proofs.gather_stray.Goals as goal

pub returns-then-held : goal.returns-then-held
unfolding gather_stray
returns-then-held c = simp c.if-held.true

pub returns-else-held : goal.returns-else-held
unfolding gather_stray
returns-else-held c = simp c.if-held.false
