-- `resequencer_bytes::tickets_in_order` meets its contract: if nothing is held, the test for all
-- tickets is the test for those of numbers not held.
-- Assumes nothing.
use mathlib.Core.Path.{sym, ap, ◌∙◌}
use Prim.Native.Nat.{ℕ}
use lib.ListN.{drop}
use Rattle.wordset.specs.Sets.{every}
use Rattle.resequencer.specs.Parts.{ticket_fits}
use Rattle.resequencer_bytes.specs.Parts.{tickets_in}
use Rattle.resequencer_bytes.proofs.Calls.{stored-fit}
use Rattle.resequencer_bytes.proofs.tickets_in_order.Goals as goal

pub returns-then-held-eq0 : goal.returns-then-held-eq0
returns-then-held-eq0 c =
    stored-fit c.args.state.now _ _ c.word-held.ensures (c.all_zero.ensures ∙ ap (λ (held : ℕ). every 64 (ticket_fits held (tickets_in (drop 18 c.args.state.now)))) (sym c.if-held-eq0.true))

pub returns-else-held-eq0 : goal.returns-else-held-eq0
returns-else-held-eq0 c = stored-fit c.args.state.now _ _ c.word-held.ensures c.none_stray.ensures
