-- `message::joining::judge_frames` meets its contract: the checks of the frames from place i on are
-- those of all frames.
-- Assumes nothing.
use Rattle.message.proofs.Judging.{Judging}
use Rattle.message.proofs.joining.judge_frames.Given as goal

abbrev pub invariant-loop-i : goal.invariant-loop-i
invariant-loop-i l = Judging l.form l.lengths l.frames l.before l.total l.p l.i
