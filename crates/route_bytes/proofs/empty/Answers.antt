-- `route_bytes::empty` meets its contract: the bytes of an empty table are 0.
-- Assumes nothing.
use mathlib.Core.Path.{◌≡◌, refl}
use lib.ListN.{length, replicate}
use borrow.Author.Rules.{rules}
use borrow.Author.Tests.{eq-eqb}
use Rattle.little.specs.Little.{little_bytes, list_bytes}
use Rattle.route.specs.Updating.{empty_table}
use Rattle.route_bytes.specs.Stored.{table_bytes}
use Rattle.route_bytes.proofs.empty.Goals as goal

zeros : replicate 512 0 ≡ table_bytes empty_table
unfolding little_bytes list_bytes
zeros = refl

pub returns-then-table-eq512-clause-table_after : goal.returns-then-table-eq512-clause-table_after
returns-then-table-eq512-clause-table_after c =
    let filled : c.fill.new.self ≡ replicate (length c.args.table.now) 0 = search rules in
    rw (filled, eq-eqb _ _ c.if-table-eq512.true, c.if-table-eq512.true) zeros
