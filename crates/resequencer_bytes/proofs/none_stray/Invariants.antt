-- `resequencer_bytes::none_stray` meets its contract: after each turn the tickets of eight more
-- numbers have been tested.
-- Assumes nothing.
use mathlib.Core.Path.{◌≡◌}
use Prim.Native.Nat.{◌*◌}
use lib.Dec.{eqb}
use lib.ListN.{drop}
use Rattle.wordset.specs.Sets.{every}
use Rattle.resequencer.specs.Parts.{ticket_fits}
use Rattle.resequencer_bytes.specs.Parts.{tickets_in}
use Rattle.resequencer_bytes.proofs.none_stray.Given as goal

abbrev pub invariant-loop-block : goal.invariant-loop-block
invariant-loop-block l = eqb l.stray 0 ≡ every (8 * l.block) (ticket_fits l.held (tickets_in (drop 18 l.state)))
