-- `route_bytes::read_table` meets its contract. The loop's invariant: the sets of the first
-- addresses are read.
-- Assumes nothing.
use mathlib.Core.Path.{◌≡◌}
use Rattle.lists.proofs.Lists.{filled}
use Rattle.route.specs.Updating.{codes_of}
use Rattle.route_bytes.specs.Stored.{table_in}
use Rattle.route_bytes.proofs.read_table.Given as goal

abbrev pub invariant-loop-a : goal.invariant-loop-a
invariant-loop-a l = l.codes ≡ filled 256 (codes_of (table_in l.table)) l.a
