-- `route::any_lost` meets its contract. The loop's invariant: where nothing was found so far, none
-- of the addresses passed is lost.
-- Assumes nothing.
use mathlib.Core.Path.{◌≡◌}
use mathlib.Core.Bool.{false}
use Prim.Native.Nat.{ℕ, ◌+◌, ◌<◌}
use Rattle.route.specs.Parts.{lost_in}
use Rattle.route.proofs.any_lost.Given as goal

abbrev pub invariant-loop-a : goal.invariant-loop-a
invariant-loop-a l = l.any ≡ false → (i : ℕ) → l.from + i < l.a → lost_in l.before l.after (l.from + i) ≡ false
