-- `frame_reader::zeros_end` meets its contract: the bytes before `i` are zero, so that they are
-- counted.
-- Assumes nothing.
use mathlib.Core.Path.{◌≡◌}
use Prim.Native.Nat.{◌+◌, ◌-◌}
use lib.ListN.{length, drop}
use Rattle.frame_reader.specs.Faults.{zeros_first}
use Rattle.frame_reader.proofs.zeros_end.Given as goal

abbrev pub invariant-loop-i : goal.invariant-loop-i
invariant-loop-i l = l.from + zeros_first (drop l.from l.frame) ≡ l.i + zeros_first (drop l.i l.frame)

abbrev pub decreases-loop-i : goal.decreases-loop-i
decreases-loop-i l = length l.frame - l.i
