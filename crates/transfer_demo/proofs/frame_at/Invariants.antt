-- `transfer_demo::frame_at` meets its contract: the frame at the place is among those from place i
-- on, which begin at byte `at`.
-- Assumes nothing.
use Prim.Native.Nat.{◌-◌}
use lib.ListN.{length}
use Rattle.transfer_demo.proofs.Finding.{Before}
use Rattle.transfer_demo.proofs.frame_at.Given as goal

abbrev pub invariant-loop-i : goal.invariant-loop-i
invariant-loop-i l = Before l.lengths l.frames l.place l.at l.i
