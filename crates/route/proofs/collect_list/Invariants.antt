-- `route::collect_list` meets its contract. The loop's invariant is `Going`: reading on from here
-- has the same result as reading the whole list.
-- Assumes nothing.
use Prim.Native.Nat.{◌-◌}
use lib.ListN.{length}
use Rattle.route.specs.Parts.{change}
use Rattle.route.proofs.Reading.{Going}
use Rattle.route.proofs.collect_list.Given as goal

abbrev pub invariant-loop-at : goal.invariant-loop-at
invariant-loop-at l = Going l.list (change l.initial.added l.initial.deleted) l.at (change l.added l.deleted)

abbrev pub decreases-loop-at : goal.decreases-loop-at
decreases-loop-at l = length l.list - l.at
