-- `capture_text::put_marked` meets its contract: a bracket, the digits and a bracket are written
-- one after the other.
-- Assumes nothing.
use Rattle.capture_text.proofs.Texts.{room_next, marked-written}
use native.Mathlib.Omega.{arith}
use Rattle.capture_text.proofs.put_marked.Goals as goal

pub put_hex_byte-end-requires : goal.put_hex_byte-end-requires
put_hex_byte-end-requires c = room_next 2 (omega arith) c.put_word-bracket.ensures

pub returns : goal.returns
returns c =
    marked-written c.args.byte c.requires c.put_word-bracket.ensures c.put_hex_byte-end.ensures c.put_byte.ensures
