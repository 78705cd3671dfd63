-- `route_bytes::read_table` meets its contract. The loop's invariant: the sets of the first
-- addresses are read.
-- Assumes nothing.
use mathlib.Core.Path.{ap₂, ◌∙◌}
use mathlib.Core.List.{List}
use Prim.Native.Nat.{ℕ}
use lib.ListN.{set}
use Rattle.lists.proofs.Lists.{fill_start, fill-next, fill_end}
use Rattle.route_bytes.proofs.Bytes.{sets-read}
use Rattle.route_bytes.proofs.read_table.Goals as goal

pub loop-a-init : goal.loop-a-init
loop-a-init c = fill_start 256 _

pub loop-a-preserved : goal.loop-a-preserved
loop-a-preserved c =
    let l = c.loop-a in
    ap₂ (λ (t : List ℕ) (v : ℕ). set t l.a v) l.invariant c.set_at.ensures ∙ fill-next 256 _ l.a

pub returns : goal.returns
returns c =
    let l = c.loop-a in
    l.invariant ∙ fill_end 256 _ l.a c.loop-a-test.false ∙ sets-read _
