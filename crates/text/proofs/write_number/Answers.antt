-- `text::write_number` meets its contract: the five digits are written one after the other.
-- Assumes nothing.
use Rattle.text.proofs.Decimal.{number-written}
use Rattle.text.proofs.write_number.Goals as goal

pub returns : goal.returns
returns c =
    number-written _ c.write_digit-a.ensures c.write_digit-b.ensures c.write_digit-c.ensures c.write_digit-d.ensures c.write_byte.ensures
