-- `route_bytes::write_table` meets its contract. The loop's invariant: the bytes of the first sets
-- are written.
-- Assumes nothing.
use mathlib.Core.Path.{refl}
use Prim.Native.Nat.{◌<◌}
use native.Mathlib.Omega.{arith}
use lib.ListN.{get_or}
use Rattle.little.specs.Little.{list_bytes}
use Rattle.route_bytes.proofs.Bytes.{written_next}
use Rattle.route_bytes.proofs.write_table.Goals as goal

pub loop-a-init : goal.loop-a-init
unfolding list_bytes
loop-a-init c = refl

pub loop-a-preserved : goal.loop-a-preserved
loop-a-preserved c =
    let l = c.loop-a in
    let a = c.args in
    let w : get_or a.codes.now l.a 0 < 65536 = omega arith in
    written_next a.codes.now a.table.now l.table l.a (omega arith) (omega arith) w l.invariant
