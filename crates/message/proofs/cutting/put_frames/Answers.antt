-- `message::cutting::put_frames` meets its contract: each turn writes a frame, and the one that is
-- not full is the last.
-- Assumes nothing.
use mathlib.Core.Path.{refl}
use borrow.Author.Tests.{lt-ltb, le-ltb}
use Rattle.message.proofs.Steps.{asked, goes_on, finished}
use Rattle.refusal.proofs.Clauses.{three}
use Rattle.message.proofs.cutting.put_frames.Goals as goal

pub put_one-end-requires : goal.put_one-end-requires
put_one-end-requires c =
    let a = c.args in
    let l = c.loop-from in
    let share = c.share_of-share in
    asked a.form a.start c.full_frames-full.result a.message.now a.out.now a.lengths.now c.requires l.out l.lengths l.next l.from l.at l.i share.result c.min-to.result _ _
    share.ensures.value l.invariant refl c.min-to.ensures c.packet.ensures

pub loop-from-preserved : goal.loop-from-preserved
loop-from-preserved c =
    let a = c.args in
    let l = c.loop-from in
    let w = c.put_one-end in
    let share = c.share_of-share in
    let part = c.min-to in
    goes_on a.form a.start c.full_frames-full.result a.message.now a.out.now a.lengths.now c.requires l.out l.lengths _ _ _ l.next _ l.from l.at l.i share.result part.result _ _ _
    share.ensures.value l.invariant refl (lt-ltb _ _ c.if-more.true) part.ensures c.packet.ensures refl c.next-next.ensures w.ensures.written w.ensures.listed w.ensures.value

pub returns-else-more : goal.returns-else-more
returns-else-more c =
    three (λ p q r. record { value = p; written = q; listed = r })
    (let a = c.args in
    let l = c.loop-from in
    let w = c.put_one-end in
    let share = c.share_of-share in
    let part = c.min-to in
    let e = finished a.form a.start c.full_frames-full.result a.message.now a.out.now a.lengths.now c.requires l.out l.lengths _ _ _ l.next l.from l.at l.i share.result part.result _ _ _
    share.ensures.value l.invariant refl (le-ltb _ _ c.if-more.false) part.ensures c.packet.ensures refl w.ensures.written w.ensures.listed w.ensures.value in
    (e.0, (e.1, e.2)))
