-- `replay::run` meets its contract: after each turn the bytes of one more part are run.
-- Assumes nothing.
use mathlib.Core.Path.{◌≡◌}
use Prim.Native.Nat.{◌*◌, ◌≤◌}
use lib.ListN.{take}
use Rattle.replay_script.specs.Feeding.{feed_next}
use Rattle.replay.proofs.run.Given as goal

abbrev pub invariant-loop-part : goal.invariant-loop-part
invariant-loop-part l = (l.end ≤ 49152) × (l.replay ≡ feed_next l.initial.replay (take (64 * l.part) l.bytes))
