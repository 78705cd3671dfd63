-- `lists::block_at` meets its contract: the bytes before `i` are copied.
-- Assumes nothing.
use mathlib.Core.Path.{◌≡◌}
use lib.ListN.{length, drop, replicate}
use lib.Seq.{paste}
use Rattle.lists.proofs.block_at.Given as goal

abbrev pub invariant-loop-i : goal.invariant-loop-i
invariant-loop-i l = (length l.block ≡ 16) × (l.block ≡ paste (replicate 16 0) 0 (drop l.at l.bytes) l.i)
