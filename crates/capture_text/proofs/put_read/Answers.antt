-- `capture_text::put_read` meets its contract: each arm is a case of `read_text`.
-- Assumes nothing.
use Rattle.capture_text.proofs.Texts.{contents-read, not-read}
use Rattle.capture_text.proofs.put_read.Goals as goal

pub returns-in-Ok : goal.returns-in-Ok
returns-in-Ok c = contents-read _ c.in-Ok.is c.put_contents.ensures

pub returns-in-Err : goal.returns-in-Err
returns-in-Err c = not-read _ c.in-Err.is c.put_not_read.ensures
