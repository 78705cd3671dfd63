-- `capture_text::put_line` meets its contract: what reading answers, the column and a line end are
-- written one after the other.
-- Assumes nothing.
use Rattle.capture_text.proofs.Texts.{line-written}
use Rattle.text.proofs.Writing.{room_after}
use native.Mathlib.Omega.{arith}
use Rattle.capture_text.proofs.put_line.Goals as goal

pub put_column-fault-requires : goal.put_column-fault-requires
put_column-fault-requires c = room_after 35 c.put_read-end.ensures (omega arith)

pub returns : goal.returns
returns c =
    line-written c.args.hex c.args.form c.args.frame.now c.read_frame-read.ensures.value c.requires c.put_read-end.ensures c.put_column-fault.ensures c.put_byte.ensures
