-- `lists::sums_to` meets its contract: what is left of n and the lengths subtracted so far sum to
-- n.
-- Assumes nothing.
use mathlib.Core.Path.{◌≡◌}
use Prim.Native.Nat.{◌+◌}
use lib.ListN.{drop}
use Rattle.lists.specs.Frames.{sum}
use Rattle.lists.proofs.sums_to.Given as goal

abbrev pub invariant-loop-l : goal.invariant-loop-l
invariant-loop-l l = l.rest + sum l.lengths ≡ l.n + sum (drop l.l-index l.lengths)
