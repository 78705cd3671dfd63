-- `resequencer::tickets_in_order` meets its contract: after each turn the tickets of eight more
-- numbers have been tested.
-- Assumes nothing.
use mathlib.Core.Path.{◌≡◌}
use Prim.Native.Nat.{◌*◌}
use lib.Dec.{eqb}
use Rattle.wordset.specs.Sets.{every}
use Rattle.resequencer.specs.Parts.{ticket_fits}
use Rattle.resequencer.proofs.tickets_in_order.Given as goal

abbrev pub invariant-loop-block : goal.invariant-loop-block
invariant-loop-block l = eqb l.stray 0 ≡ every (8 * l.block) (ticket_fits l.held l.tickets)
