-- `resequencer::gather_held` meets its contract: each turn of the loop writes the ticket of the
-- next held number.
-- Assumes nothing.
use Prim.Native.Nat.{ℕ}
use Rattle.resequencer.specs.Parts.{arrived_tickets}
use Rattle.resequencer.proofs.Handing.{Handed}
use Rattle.resequencer.proofs.gather_held.Given as goal

abbrev pub invariant-loop-left : goal.invariant-loop-left
invariant-loop-left l = (at : ℕ) × Handed l.held l.tickets (arrived_tickets l.d l.ticket) l.start l.d l.m l.left at l.count l.out

abbrev pub decreases-loop-left : goal.decreases-loop-left
decreases-loop-left l = l.left
