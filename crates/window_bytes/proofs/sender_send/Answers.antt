-- `window_bytes::sender_send` meets its contract: a refusal changes nothing.
-- Assumes nothing.
use mathlib.Core.Path.{sym, ◌∙◌}
use Rattle.window_bytes.proofs.Kept.{send-kept}
use Rattle.window_bytes.proofs.sender_send.Goals as goal

pub returns-in-Err-clause-state_after : goal.returns-in-Err-clause-state_after
returns-in-Err-clause-state_after c = send-kept _ _ _ _ (sym c.is_sender.ensures ∙ c.if-not-is_sender.false) c.sender_in-end.ensures c.send-sent.ensures.whole c.in-Err.is
