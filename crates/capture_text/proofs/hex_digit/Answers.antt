-- `capture_text::hex_digit` meets its contract: the test is that of `hex_digit`.
-- Assumes nothing.
use Rattle.capture_text.proofs.Texts.{low_digit, high_digit}
use Rattle.capture_text.proofs.hex_digit.Goals as goal

pub returns-then-d-lt10 : goal.returns-then-d-lt10
returns-then-d-lt10 c = low_digit _ c.if-d-lt10.true

pub returns-else-d-lt10 : goal.returns-else-d-lt10
returns-else-d-lt10 c = high_digit _ c.if-d-lt10.false
