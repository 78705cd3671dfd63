-- `transfer_demo::hand_on` meets its contract: the frames of the tickets before place i are kept.
-- Assumes nothing.
use mathlib.Core.Path.{◌≡◌, ap, ◌∙◌}
use mathlib.Core.List.{map}
use Prim.Native.Nat.{◌<◌}
use native.Mathlib.Omega.{arith}
use lib.ListN.{length}
use borrow.Author.Rules.{rules}
use Rattle.lists.specs.Frames.{parts_of}
use Rattle.transfer_claims.specs.Circuit.{frame_at}
use Rattle.transfer_demo.proofs.Keeping.{taken_none, taken_more, same-frames, tickets-more, tickets-all}
use Rattle.refusal.proofs.Clauses.{two}
use Rattle.transfer_demo.proofs.hand_on.Goals as goal

pub loop-i-init : goal.loop-i-init
loop-i-init c = taken_none _ _ _ c.requires.0 c.requires.1

pub loop-i-preserved : goal.loop-i-preserved
loop-i-preserved c =
    let long : length c.args.answer.tickets ≡ 32 = search rules in
    let a = c.args in
    let l = c.loop-i in
    let k = c.keep-kept in
    let t : l.i < length a.answer.tickets = omega (arith, c.loop-i-test.true, c.count_handed-count.ensures.1, long) in
    same-frames _ _ _ _ _ _
    (tickets-more (parts_of a.lengths.now a.frames.now) a.answer.tickets l.i t c.frame_at.ensures)
    (taken_more _ _ _ _ _ _ _ _ _ _ _ l.invariant k.auto.received k.auto.sizes k.ensures.frames_in_bounds k.ensures.written)

pub returns : goal.returns
returns c =
    two (λ p q. record { frames_in_bounds = p; written = q })
    (let a = c.args in
    let z : c.loop-i.i ≡ c.count_handed-count.result = omega (arith, c.loop-i.auto.i-end, c.loop-i-test.false) in
    let w = same-frames _ _ _ _ _ _
    (ap (map (frame_at (parts_of a.lengths.now a.frames.now))) (tickets-all a.answer c.loop-i.i (z ∙ c.count_handed-count.ensures.0))) c.loop-i.invariant in
    ((w.count_fits, w.total-fits), w.holds))
