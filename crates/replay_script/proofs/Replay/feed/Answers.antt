-- `replay_script::Replay::feed` meets its contract: the room is tested as in `feed_verdict`, and
-- the part is run only if there is enough.
-- Assumes nothing.
use native.Mathlib.Omega.{arith}
use Rattle.replay_script.proofs.Feeding.{feed-numbered, feed-refused, feed-done}
use Rattle.refusal.proofs.Clauses.{three}
use Rattle.replay_script.proofs.Replay.feed.Goals as goal

pub returns-then-out-part : goal.returns-then-out-part
returns-then-out-part c =
    three (λ p q r. record { value = p; number = q; written = r })
    (feed-numbered _ _ _ (feed-refused _ _ _ c.if-out-part.true))

pub run_part-step-requires : goal.run_part-step-requires
run_part-step-requires c = omega arith

pub returns : goal.returns
returns c =
    three (λ p q r. record { value = p; number = q; written = r })
    (feed-numbered _ _ _ (feed-done _ _ _ c.if-out-part.false c.run_part-step.ensures.0 c.run_part-step.ensures.1))
