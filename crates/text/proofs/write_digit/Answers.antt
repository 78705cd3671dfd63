-- `text::write_digit` meets its contract: the test is the one of `digit_at`.
-- Assumes nothing.
use Rattle.text.proofs.Decimal.{digit-written, no_digit}
use Rattle.text.proofs.write_digit.Goals as goal

pub returns-then-power-n : goal.returns-then-power-n
returns-then-power-n c = digit-written c.if-power-n.true c.write_byte.ensures

pub returns : goal.returns
returns c = no_digit _ _ _ _ c.if-power-n.false
