-- `capture_text::put_lines` meets its contract: after `i` turns the lines of the first `i` frames
-- are written.
-- Assumes nothing.
use Prim.Native.Nat.{◌*◌}
use Rattle.text.specs.Writing.{Wrote}
use Rattle.capture.specs.Opening.{frames_from}
use Rattle.capture_text.specs.Report.{lines_text}
use Rattle.capture_text.proofs.put_lines.Given as goal

abbrev pub invariant-loop-i : goal.invariant-loop-i
invariant-loop-i l = Wrote l.initial.out l.out 0 l.end (128 * l.i) (lines_text l.hex l.form (frames_from l.file 0 l.i))
