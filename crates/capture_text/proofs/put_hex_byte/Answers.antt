-- `capture_text::put_hex_byte` meets its contract: the two digits are written one after the other.
-- Assumes nothing.
use Rattle.capture_text.proofs.Texts.{byte-written}
use Rattle.capture_text.proofs.put_hex_byte.Goals as goal

pub returns : goal.returns
returns c =
    byte-written c.args.byte c.hex_digit.ensures c.hex_digit-2.ensures c.requires c.put_byte-high.ensures c.put_byte.ensures
