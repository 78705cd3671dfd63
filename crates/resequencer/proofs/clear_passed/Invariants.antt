-- `resequencer::clear_passed` meets its contract: after i turns the tickets of i numbers are 0.
-- Assumes nothing.
use mathlib.Core.Path.{◌≡◌}
use Prim.Native.Nat.{◌-◌, ◌≤◌}
use Rattle.resequencer.specs.Parts.{tickets_left}
use Rattle.resequencer.proofs.clear_passed.Given as goal

abbrev pub invariant-loop-i : goal.invariant-loop-i
invariant-loop-i l = (l.i ≤ l.m) × (l.tickets ≡ tickets_left l.initial.tickets l.nesn l.i)

abbrev pub decreases-loop-i : goal.decreases-loop-i
decreases-loop-i l = l.m - l.i
