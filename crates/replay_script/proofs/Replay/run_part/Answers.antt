-- `replay_script::Replay::run_part` meets its contract: after each turn one more byte of the part
-- is run.
-- Assumes nothing.
use native.Mathlib.Omega.{arith}
use borrow.Author.Rules.{rules}
use Rattle.replay_script.proofs.Feeding.{ran-none, ran_line, ran-kept, ran-dropped, ran-room, ran-all}
use Rattle.replay_script.proofs.Replay.run_part.Goals as goal
use Rattle.replay_script.proofs.Replay.run_part.Goals.{then-byte-eq10, else-byte-eq10+then-have-lt14, else-byte-eq10+else-have-lt14}

pub loop-byte-init : goal.loop-byte-init
loop-byte-init c = ran-none _ _ _ (search rules)

pub put_answer-end-requires : goal.put_answer-end-requires
put_answer-end-requires c =
    ran-room _ _ _ c.loop-byte.invariant c.loop-byte-test.true c.requires

pub bounds-line-have : goal.bounds-line-have
bounds-line-have c =
    omega (arith, c.if-have-lt14.true, c.loop-byte.invariant.sized)

pub loop-byte-preserved : goal.loop-byte-preserved
loop-byte-preserved c =
    elim c.if-byte-eq10.branch [
      | then-byte-eq10 w ↦
          rw (w.out-is, w.state-is, w.line-is, w.have-is, w.end-is)
          (ran_line _ _ _ c.loop-byte.invariant c.loop-byte-test.true w.if-byte-eq10.true w.kept_answer-answer.ensures w.put_answer-end.ensures)
      | else-byte-eq10+then-have-lt14 w ↦
          rw (w.out-is, w.state-is, w.line-is, w.have-is, w.end-is)
          (ran-kept _ _ _ c.loop-byte.invariant c.loop-byte-test.true w.if-byte-eq10.false w.if-have-lt14.true)
      | else-byte-eq10+else-have-lt14 w ↦
          rw (w.out-is, w.state-is, w.line-is, w.have-is, w.end-is)
          (ran-dropped _ _ _ c.loop-byte.invariant c.loop-byte-test.true w.if-byte-eq10.false w.if-have-lt14.false)
    ]

pub shape_of-out : goal.shape_of-out
shape_of-out c = c.loop-byte.invariant.text.size

pub returns : goal.returns
returns c = ran-all _ _ _ c.loop-byte.invariant c.loop-byte-test.false
