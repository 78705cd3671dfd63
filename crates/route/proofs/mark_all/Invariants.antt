-- `route::mark_all` meets its contract. The loop's invariant: marking the addresses that are left,
-- in the sets as they are now, has the same result as marking all.
-- Assumes nothing.
use mathlib.Core.Path.{◌≡◌}
use lib.ListN.{drop}
use Rattle.route.specs.Parts.{mark}
use Rattle.route.proofs.mark_all.Given as goal

abbrev pub invariant-loop-address : goal.invariant-loop-address
invariant-loop-address l = mark l.code (drop l.address-index l.addresses) l.sets ≡ mark l.code l.addresses l.initial.sets
