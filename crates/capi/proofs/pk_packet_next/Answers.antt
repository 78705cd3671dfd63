-- `capi::pk_packet_next` meets its contract: the answer is the number in the struct that `next`
-- returns.
-- Assumes nothing.
use mathlib.Core.Path.{ap}
use Rattle.sequence.specs.declared.PacketNumber.{PacketNumber}
use Rattle.capi.proofs.pk_packet_next.Goals as goal

pub returns : goal.returns
returns c = ap (λ (n : PacketNumber). n.0) c.next-after.ensures
