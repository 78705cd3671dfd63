-- `replay_script::put_tickets` meets its contract: after `i` turns the first `i` tickets are
-- written.
-- Assumes nothing.
use Prim.Native.Nat.{◌-◌, ◌*◌, ◌≤◌}
use lib.ListN.{take}
use Rattle.text.specs.Writing.{Wrote}
use Rattle.replay_script.specs.Text.{all_spaced}
use Rattle.replay_script.proofs.put_tickets.Given as goal

abbrev pub invariant-loop-i : goal.invariant-loop-i
invariant-loop-i l = (l.i ≤ l.count) × Wrote l.initial.out l.out l.from l.end (6 * l.i) (all_spaced (take l.i l.tickets))

abbrev pub decreases-loop-i : goal.decreases-loop-i
decreases-loop-i l = l.count - l.i
