-- `route_bytes::set_at` meets its contract, by the law `set-bytes`.
-- Assumes nothing.
use native.Mathlib.Omega.{arith}
use Rattle.route_bytes.proofs.Bytes.{set-bytes}
use Rattle.route_bytes.proofs.set_at.Goals as goal

pub returns : goal.returns
returns c = set-bytes c.args.table.now c.args.address (omega arith) c.requires
