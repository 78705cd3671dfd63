-- `sequence::Counter::distance_to` meets its contract, by the law of distance at the modulus.
-- Assumes nothing.
use Rattle.std.proofs.Common.{◌+◌, ◌-◌, ◌%◌, arith}
use Rattle.sequence.proofs.Modular.{distance-law}
use Rattle.sequence.proofs.Counter.distance_to.Goals as goal

pub returns : goal.returns
returns g c =
    let laws = g.met.Self.Counter in
    let a = c.get-2.result in
    let b = c.get.result in
    let law = (distance-law g.Self.Counter.MODULUS laws.counts laws.divides).wrapping a b ((b + (256 - a)) % 256) (omega arith) in
    cc
