-- `window_bytes::sender_reject` meets its contract: a refused PR changes nothing.
-- Assumes nothing.
use Rattle.window.specs.History.{reject}
use mathlib.Core.Path.{sym, ◌∙◌}
use Rattle.window_bytes.proofs.Kept.{pr-kept}
use Rattle.window_bytes.proofs.sender_reject.Goals as goal

pub put_pr-requires-clause-next_value : goal.put_pr-requires-clause-next_value
put_pr-requires-clause-next_value c = pr-kept reject _ _ _ _ (sym c.is_sender.ensures ∙ c.if-not-is_sender.false) c.sender_in-end.ensures c.reject.ensures.value
