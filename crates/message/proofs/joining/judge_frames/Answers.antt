-- `message::joining::judge_frames` meets its contract: the checks of the frames from place i on are
-- those of all frames.
-- Assumes nothing.
use native.Mathlib.Omega.{arith}
use Rattle.message.proofs.Judging.{stops_inside, stops, turns, ends}
use Rattle.message.proofs.joining.judge_frames.Goals as goal

pub overflow_add-result : goal.overflow_add-result
overflow_add-result c =
    let l = c.loop-i in
    let a = c.args in
    let inside = stops_inside a.form a.lengths.now a.frames.now l.before l.total l.p l.i l.invariant c.loop-i-test.true
    c.judge_frame-turn.result c.judge_frame-turn.ensures c.in-Err.fault c.in-Err.is in
    omega (arith, inside)

pub returns-in-Err : goal.returns-in-Err
returns-in-Err c =
    let l = c.loop-i in
    let a = c.args in
    stops a.form a.lengths.now a.frames.now l.before l.total l.p l.i l.invariant c.loop-i-test.true
    c.judge_frame-turn.result c.judge_frame-turn.ensures c.in-Err.fault c.in-Err.is

pub loop-i-preserved : goal.loop-i-preserved
loop-i-preserved c =
    let l = c.loop-i in
    let a = c.args in
    turns a.form a.lengths.now a.frames.now l.before l.total l.p l.i l.invariant c.loop-i-test.true
    c.judge_frame-turn.result c.judge_frame-turn.ensures c.in-Ok.next c.in-Ok.user c.in-Ok.is

pub returns : goal.returns
returns c =
    let l = c.loop-i in
    let a = c.args in
    ends a.form a.lengths.now a.frames.now l.before l.total l.p l.i l.invariant c.loop-i-test.false
