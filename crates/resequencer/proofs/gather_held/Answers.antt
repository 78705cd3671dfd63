-- `resequencer::gather_held` meets its contract: each turn of the loop writes the ticket of the
-- next held number.
-- Assumes nothing.
use mathlib.Core.Path.{refl}
use Prim.Native.Nat.{◌<◌}
use native.Mathlib.Omega.{arith}
use Rattle.wordset.specs.Sets.{member}
use Rattle.wordset.proofs.Sets.{first-le}
use Rattle.wordset.proofs.Walks.{without-lt}
use Rattle.resequencer.proofs.Handing.{handed-first, handed-place, handed-next, handed-end}
use Rattle.refusal.proofs.Clauses.{two}
use Rattle.resequencer.proofs.gather_held.Goals as goal

pub bounds-out-0 : goal.bounds-out-0
bounds-out-0 c = omega arith

pub loop-left-init : goal.loop-left-init
loop-left-init c =
    let p = c.requires in
    (0, handed-first _ _ _ _ _ _ _ _ p.1.1.0 p.1.1.1.1 c.stretch-left.ensures p.0)

pub overflow_add-from : goal.overflow_add-from
overflow_add-from c = omega (arith, c.lowest.ensures, first-le 64 (member c.loop-left.left))

pub overflow_cast-from : goal.overflow_cast-from
overflow_cast-from c = omega arith

pub overflow_cast-to : goal.overflow_cast-to
overflow_cast-to c = omega arith

pub offset_bounds-tickets-from : goal.offset_bounds-tickets-from
offset_bounds-tickets-from c = omega arith

pub bounds-tickets-from : goal.bounds-tickets-from
bounds-tickets-from c = omega arith

pub offset_bounds-out-to : goal.offset_bounds-out-to
offset_bounds-out-to c = omega arith

pub bounds-out-to : goal.bounds-out-to
bounds-out-to c =
    let some : 0 < c.loop-left.left = omega (arith, c.loop-left-test.true) in
    let place : c.loop-left.count < 32 = handed-place _ _ _ _ _ _ _ _ _ _ c.loop-left.invariant.1 c.requires.1.1.1.0 some in place

pub overflow_add-count : goal.overflow_add-count
overflow_add-count c =
    let some : 0 < c.loop-left.left = omega (arith, c.loop-left-test.true) in
    let place : c.loop-left.count < 32 = handed-place _ _ _ _ _ _ _ _ _ _ c.loop-left.invariant.1 c.requires.1.1.1.0 some in omega (arith, place)

pub loop-left-smaller : goal.loop-left-smaller
loop-left-smaller c =
    let some : 0 < c.loop-left.left = omega (arith, c.loop-left-test.true) in
    let l = c.loop-left in
    omega (arith, c.without_lowest-left.ensures, without-lt 64 l.left some l.invariant.1.walked.small)

pub loop-left-preserved : goal.loop-left-preserved
loop-left-preserved c =
    let some : 0 < c.loop-left.left = omega (arith, c.loop-left-test.true) in
    let p = c.requires in
    (_, handed-next _ _ _ _ _ _ _ _ _ _ c.loop-left.invariant.1 _ _ _ _ p.1.1.1.0 some c.lowest.ensures c.without_lowest-left.ensures refl refl)

pub returns : goal.returns
returns c =
    two (λ p q. record { value = p; out_after = q })
    (let p = c.requires in
    handed-end _ _ _ _ _ _ _ _ _ _ c.loop-left.invariant.1 (omega (arith, p.1.1.1.0)) (omega (arith, c.loop-left-test.false)))
