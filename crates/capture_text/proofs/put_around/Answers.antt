-- `capture_text::put_around` meets its contract: the position and the bytes before, at and after it
-- are written one after the other.
-- Assumes nothing.
use Rattle.capture_text.proofs.Texts.{few-before, room_next, around-written}
use Rattle.text.proofs.Writing.{room_after}
use native.Mathlib.Omega.{arith}
use Rattle.capture_text.proofs.put_around.Goals as goal

pub put_hex-before-requires : goal.put_hex-before-requires
put_hex-before-requires c =
    (few-before c.args.at c.four_before-start.result c.args.frame.now c.user_data.ensures c.four_before-start.ensures.0, room_next 12 (omega arith) c.put_spaced-number.ensures)

pub put_from-requires : goal.put_from-requires
put_from-requires c =
    room_after 17 c.put_hex-before.ensures (room_next 29 (omega arith) c.put_spaced-number.ensures)

pub returns : goal.returns
returns c =
    around-written c.printed.result c.args.at c.args.frame.now c.printed.ensures c.four_before-start.ensures.0 c.user_data.ensures c.requires c.put_spaced-number.ensures c.put_hex-before.ensures c.put_from.ensures
