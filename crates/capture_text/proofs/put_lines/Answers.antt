-- `capture_text::put_lines` meets its contract: a line more is written behind those before it.
-- Assumes nothing.
use Rattle.capture_text.proofs.Reports.{lines_none, lines-turn}
use Rattle.capture_text.proofs.put_lines.Goals as goal

pub loop-i-init : goal.loop-i-init
loop-i-init c = lines_none _ _ _ _

pub loop-i-preserved : goal.loop-i-preserved
loop-i-preserved c = lines-turn _ _ _ _ _ _ _ _ _ _ c.frame_of-frame.ensures c.loop-i.invariant c.put_line-end.ensures
