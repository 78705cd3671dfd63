-- `route::mark_all` meets its contract. The loop's invariant: marking the addresses that are left,
-- in the sets as they are now, has the same result as marking all.
-- Assumes nothing.
use mathlib.Core.Path.{sym, ◌∙◌}
use Rattle.route.proofs.Reading.{mark-next, mark-end}
use Rattle.route.proofs.mark_all.Goals as goal

pub loop-address-preserved : goal.loop-address-preserved
loop-address-preserved c =
    let l = c.loop-address in
    simp c.with.ensures (sym (mark-next _ l.address-index _ l.sets c.loop-address-test.true) ∙ l.invariant)

pub returns : goal.returns
returns c =
    let l = c.loop-address in
    sym (mark-end _ l.address-index _ l.sets c.loop-address-test.false) ∙ l.invariant
