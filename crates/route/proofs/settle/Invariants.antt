-- `route::settle` meets its contract. The loop's invariant: the sets of the first addresses are
-- written.
-- Assumes nothing.
use mathlib.Core.Path.{◌≡◌}
use Rattle.lists.proofs.Lists.{filled}
use Rattle.route.specs.Parts.{change, settled_at}
use Rattle.route.proofs.settle.Given as goal

abbrev pub invariant-loop-a : goal.invariant-loop-a
invariant-loop-a l = l.next ≡ filled 256 (settled_at l.codes (change l.added l.deleted)) l.a
