-- `transfer_demo::receive` meets its contract: what is kept, and the frames that the calls from
-- step i on hand on, make what is kept in the end.
-- Assumes nothing.
use Prim.Native.Nat.{◌-◌}
use lib.ListN.{length}
use Rattle.lists.specs.Frames.{parts_of}
use Rattle.transfer_demo.proofs.Going.{Going}
use Rattle.transfer_demo.proofs.receive.Given as goal

abbrev pub invariant-loop-i : goal.invariant-loop-i
invariant-loop-i l =
    Going (parts_of l.lengths l.frames) (length l.lengths) l.steps l.initial.received l.initial.sizes l.received l.sizes l.state l.handed l.i
