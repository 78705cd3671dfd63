-- `capture_text::put_column` meets its contract: the test is that of `column`.
-- Assumes nothing.
use Rattle.capture_text.proofs.Texts.{column-written, no-column}
use Rattle.capture_text.proofs.put_column.Goals as goal

pub returns-then-hex : goal.returns-then-hex
returns-then-hex c = column-written _ _ c.if-hex.true c.put_fault.ensures

pub returns : goal.returns
returns c = no-column _ _ _ _ c.if-hex.false
