-- `transfer_demo::receive` meets its contract: what is kept, and the frames that the calls from
-- step i on hand on, make what is kept in the end.
-- Assumes nothing.
use mathlib.Core.Path.{sym, ◌∙◌}
use native.Mathlib.Omega.{arith}
use Rattle.transfer_demo.proofs.Going.{starts, turn-made, turn-left-out, ends}
use Rattle.transfer_demo.proofs.receive.Goals as goal

pub loop-i-init : goal.loop-i-init
loop-i-init c = starts _ _ _ _ _ c.fresh-state.ensures

pub answer_to-answer-requires : goal.answer_to-answer-requires
answer_to-answer-requires c = (sym c.happens.ensures ∙ c.if-not-happens.false, omega (arith, c.requires))

pub hand_on-handed-requires : goal.hand_on-handed-requires
hand_on-handed-requires c = let h = c.loop-i.invariant.holds in (h.count_fits, h.total-fits)

pub loop-i-preserved : goal.loop-i-preserved
loop-i-preserved c =
    let w = c.hand_on-handed in
    turn-made _ _ _ _ _ _ _ _ _ _ c.loop-i.invariant c.loop-i-test.true _ c.event_at-event.ensures
    c.answer_to-answer.result _ _ w.result (sym c.happens.ensures ∙ c.if-not-happens.false) c.answer_to-answer.ensures
    w.auto.received w.auto.sizes w.ensures.written

pub loop-i-preserved-then-not-happens : goal.loop-i-preserved-then-not-happens
loop-i-preserved-then-not-happens c = turn-left-out _ _ _ _ _ _ _ _ _ _ c.loop-i.invariant c.loop-i-test.true _ c.event_at-event.ensures (sym c.happens.ensures ∙ c.if-not-happens.true)

pub shape_of-received : goal.shape_of-received
shape_of-received c = c.loop-i.invariant.room

pub shape_of-sizes : goal.shape_of-sizes
shape_of-sizes c = c.loop-i.invariant.places

pub returns : goal.returns
returns c = ends _ _ _ _ _ _ _ _ _ _ c.loop-i.invariant c.loop-i-test.false
