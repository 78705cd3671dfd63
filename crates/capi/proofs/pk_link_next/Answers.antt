-- `capi::pk_link_next` meets its contract: the answer is the number in the struct that `next`
-- returns.
-- Assumes nothing.
use mathlib.Core.Path.{ap}
use Rattle.sequence.specs.declared.LinkNumber.{LinkNumber}
use Rattle.capi.proofs.pk_link_next.Goals as goal

pub returns : goal.returns
returns c = ap (λ (n : LinkNumber). n.0) c.next-after.ensures
