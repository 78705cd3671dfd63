-- `route_bytes::write_table` meets its contract. The loop's invariant: the bytes of the first sets
-- are written.
-- Assumes nothing.
use mathlib.Core.Path.{◌≡◌}
use Rattle.route_bytes.proofs.Bytes.{written}
use Rattle.route_bytes.proofs.write_table.Given as goal

abbrev pub invariant-loop-a : goal.invariant-loop-a
invariant-loop-a l = l.table ≡ written l.codes l.initial.table l.a
