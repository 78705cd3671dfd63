-- `transfer_demo::hand_on` meets its contract: the frames of the tickets before place i are kept.
-- Assumes nothing.
use mathlib.Core.List.{map}
use Prim.Native.Nat.{◌-◌, ◌≤◌}
use lib.ListN.{take}
use Rattle.lists.specs.Frames.{parts_of}
use Rattle.transfer_claims.specs.Circuit.{frame_at}
use Rattle.transfer_demo.proofs.Keeping.{Taken}
use Rattle.transfer_demo.proofs.hand_on.Given as goal

abbrev pub invariant-loop-i : goal.invariant-loop-i
invariant-loop-i l =
    Taken l.initial.received l.initial.sizes l.initial.kept (map (frame_at (parts_of l.lengths l.frames)) (take l.i l.answer.tickets)) l.received l.sizes l.kept
