-- `sequence::Counter::next` meets its contract: (a % m + 1) % m is (a + 1) % m.
-- Assumes nothing.
use native.Mathlib.Nat.{mod-add-mod}
use Rattle.sequence.proofs.Counter.next.Goals as goal

pub returns : goal.returns
returns g c =
    let e = mod-add-mod (g.Self.Counter.value c.args.self) g.Self.Counter.MODULUS 1 in cc
