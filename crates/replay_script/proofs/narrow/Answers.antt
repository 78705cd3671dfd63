-- `replay_script::narrow` meets its contract: each way out knows the test that led there.
-- Assumes nothing.
use Rattle.replay_script.proofs.Lines.{narrow-small, narrow-large}
use Rattle.replay_script.proofs.narrow.Goals as goal

pub returns-then-sn-le63 : goal.returns-then-sn-le63
returns-then-sn-le63 c = narrow-small _ c.if-sn-le63.true

pub returns-else-sn-le63 : goal.returns-else-sn-le63
returns-else-sn-le63 c = narrow-large _ c.if-sn-le63.false
