-- `resequencer_bytes::all_zero` meets its contract: after each turn one more ticket has been
-- tested.
-- Assumes nothing.
use mathlib.Core.Path.{◌≡◌}
use lib.Dec.{eqb}
use lib.ListN.{drop}
use Rattle.wordset.specs.Sets.{every}
use Rattle.resequencer.specs.Parts.{ticket_fits}
use Rattle.resequencer_bytes.specs.Parts.{tickets_in}
use Rattle.resequencer_bytes.proofs.all_zero.Given as goal

abbrev pub invariant-loop-number : goal.invariant-loop-number
invariant-loop-number l = eqb l.stray 0 ≡ every l.number (ticket_fits 0 (tickets_in (drop 18 l.state)))
