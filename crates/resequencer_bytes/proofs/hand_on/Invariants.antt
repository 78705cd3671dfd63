-- `resequencer_bytes::hand_on` meets its contract: each turn of the loop writes the ticket of the
-- next held number to `out`, and 0 to the state.
-- Assumes nothing.
use mathlib.Core.Path.{◌≡◌}
use mathlib.Core.List.{List}
use Prim.Native.Nat.{ℕ, ◌+◌}
use lib.ListN.{length, drop}
use Rattle.resequencer.specs.Parts.{arrived_tickets, tickets_left}
use Rattle.resequencer.proofs.Handing.{Handed}
use Rattle.resequencer_bytes.specs.Stored.{state_in}
use Rattle.resequencer_bytes.specs.Parts.{tickets_in, with_tickets}
use Rattle.resequencer_bytes.proofs.hand_on.Given as goal

-- the state with the tickets of the k numbers starting at NESN set to 0
abbrev pub passed : List ℕ → ℕ → List ℕ
passed b k = with_tickets b (tickets_left (tickets_in (drop 18 b)) (state_in b).nesn.0 k)

abbrev pub invariant-loop-left : goal.invariant-loop-left
invariant-loop-left l =
    (at : ℕ) × Handed l.held (tickets_in (drop 18 l.initial.state)) (arrived_tickets l.d l.ticket) l.start l.d l.m l.left at l.count l.out
    × (length l.out ≡ 32) × (l.state ≡ passed l.initial.state (l.d + at))

abbrev pub decreases-loop-left : goal.decreases-loop-left
decreases-loop-left l = l.left
