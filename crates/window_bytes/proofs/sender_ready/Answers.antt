-- `window_bytes::sender_ready` meets its contract: a refused PR changes nothing.
-- Assumes nothing.
use Rattle.window.specs.History.{ready}
use mathlib.Core.Path.{sym, ◌∙◌}
use Rattle.window_bytes.proofs.Kept.{pr-kept}
use Rattle.window_bytes.proofs.sender_ready.Goals as goal

pub put_pr-requires-clause-next_value : goal.put_pr-requires-clause-next_value
put_pr-requires-clause-next_value c = pr-kept ready _ _ _ _ (sym c.is_sender.ensures ∙ c.if-not-is_sender.false) c.sender_in-end.ensures c.ready.ensures.value
