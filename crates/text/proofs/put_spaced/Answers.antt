-- `text::put_spaced` meets its contract: the blank and the number are written where there is room
-- for them.
-- Assumes nothing.
use Rattle.text.proofs.Writing.{puts}
use Rattle.text.proofs.Decimal.{spaced-written}
use Rattle.text.proofs.put_spaced.Goals as goal

pub returns-then-has_room : goal.returns-then-has_room
returns-then-has_room c =
    puts (c.has_room.ensures.0 c.if-has_room.true) (spaced-written _ c.write_byte-end.ensures c.write_number.ensures)
