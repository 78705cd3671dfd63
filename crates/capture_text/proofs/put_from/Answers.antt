-- `capture_text::put_from` meets its contract: the byte at the position is written, if there is
-- one, and those after it.
-- Assumes nothing.
use Rattle.capture_text.proofs.Texts.{few-after, here-written, end-written}
use Rattle.text.proofs.Writing.{room_after}
use native.Mathlib.Omega.{arith}
use Rattle.capture_text.proofs.put_from.Goals as goal

pub put_hex-requires : goal.put_hex-requires
put_hex-requires c =
    (few-after c.args.at c.args.frame.now c.user_data.ensures, room_after 12 c.put_marked-here.ensures (omega arith))

pub returns-then-at-frame : goal.returns-then-at-frame
returns-then-at-frame c =
    here-written c.args.at c.args.frame.now c.if-at-frame.true c.user_data.ensures c.put_marked-here.ensures c.put_hex.ensures

pub returns : goal.returns
returns c =
    end-written c.args.at c.args.frame.now c.if-at-frame.false (c.put_word.ensures.written (omega arith))
