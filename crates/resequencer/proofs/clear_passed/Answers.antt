-- `resequencer::clear_passed` meets its contract: after i turns the tickets of i numbers are 0.
-- Assumes nothing.
use mathlib.Core.Path.{◌≡◌, refl, ap, ◌∙◌}
use native.Mathlib.Omega.{arith}
use Rattle.resequencer.specs.Parts.{tickets_left}
use Rattle.resequencer.proofs.Passing.{left-none, left-more}
use Rattle.resequencer.proofs.clear_passed.Goals as goal

pub loop-i-init : goal.loop-i-init
loop-i-init c = (omega arith, left-none _ _ 0 c.requires.1.1 refl)

pub overflow_add-at : goal.overflow_add-at
overflow_add-at c = omega arith

pub overflow_cast-at : goal.overflow_cast-at
overflow_cast-at c = omega arith

pub offset_bounds-tickets-at : goal.offset_bounds-tickets-at
offset_bounds-tickets-at c = omega arith

pub bounds-tickets-at : goal.bounds-tickets-at
bounds-tickets-at c = omega arith

pub overflow_step-i : goal.overflow_step-i
overflow_step-i c = omega arith

pub loop-i-smaller : goal.loop-i-smaller
loop-i-smaller c = omega arith

pub loop-i-preserved : goal.loop-i-preserved
loop-i-preserved c = (omega arith, left-more _ _ _ _ _ (omega arith) c.loop-i.invariant.1 refl)

pub returns : goal.returns
returns c =
    let z : c.loop-i.i ≡ c.args.m = omega arith in
    c.loop-i.invariant.1 ∙ ap (tickets_left _ _) z
