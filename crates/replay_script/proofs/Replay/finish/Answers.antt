-- `replay_script::Replay::finish` meets its contract: the room is tested as in `finish_verdict`,
-- and what is kept is run if it is not empty.
-- Assumes nothing.
use Rattle.replay_script.proofs.Feeding.{finish-numbered, finish-refused, finish-empty, finish-ran}
use Rattle.refusal.proofs.Clauses.{three}
use Rattle.replay_script.proofs.Replay.finish.Goals as goal

pub returns-then-out-lt256 : goal.returns-then-out-lt256
returns-then-out-lt256 c =
    three (λ p q r. record { value = p; number = q; written = r })
    (finish-numbered _ _ (finish-refused c.args.self c.args.out.now c.if-out-lt256.true))

pub returns-then-self-eq0 : goal.returns-then-self-eq0
returns-then-self-eq0 c =
    three (λ p q r. record { value = p; number = q; written = r })
    (finish-numbered _ _ (finish-empty c.args.self c.args.out.now c.if-out-lt256.false c.if-self-eq0.true))

pub returns : goal.returns
returns c =
    three (λ p q r. record { value = p; number = q; written = r })
    (finish-numbered _ _ (finish-ran c.args.self c.args.out.now c.if-out-lt256.false c.if-self-eq0.false c.kept_answer-answer.ensures c.put_answer-written.ensures))
