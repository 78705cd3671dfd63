-- `capture_text::printed` meets its contract: of a large number the five last digits are kept.
-- Assumes nothing.
use Rattle.capture_text.proofs.Texts.{same-printed}
use Rattle.capture_text.proofs.printed.Goals as goal

pub returns : goal.returns
returns c = same-printed _ c.if-n-lt100000.false
