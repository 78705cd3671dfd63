-- `resequencer::gather_eight` meets its contract: after j turns the tickets of j more numbers have
-- been tested.
-- Assumes nothing.
use mathlib.Core.Path.{◌≡◌}
use Prim.Native.Nat.{◌+◌}
use lib.Dec.{eqb}
use Rattle.wordset.specs.Sets.{every}
use Rattle.resequencer.specs.Parts.{ticket_fits}
use Rattle.resequencer.proofs.gather_eight.Given as goal

abbrev pub invariant-loop-j : goal.invariant-loop-j
invariant-loop-j l = eqb l.ones 0 ≡ every (l.p + l.j) (ticket_fits l.held l.tickets)
