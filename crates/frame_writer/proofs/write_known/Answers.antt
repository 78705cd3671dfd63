-- `frame_writer::write_known` meets its contract: the header of the kind is written.
-- Assumes nothing.
use native.Mathlib.Omega.{arith}
use Rattle.frame_kinds.proofs.Stored.{header-few}
use Rattle.frame_writer.proofs.Answers.{wrote}
use Rattle.refusal.proofs.Clauses.{two}
use Rattle.frame_writer.proofs.write_known.Goals as goal

pub put-requires : goal.put-requires
put-requires c =
    let h = c.header_of-m.ensures in
    let few = header-few c.args.kind in
    (omega (arith, h.size, few), omega (arith, h.size, few), h.few)

pub returns : goal.returns
returns c =
    two (λ p q. record { value = p; written = q })
    (let put = c.put in
    let a = c.args in
    wrote a.form a.kind a.places.now a.user.now a.out.now c.header_of-m.result c.header_of-m.ensures _ _ put.ensures.value put.ensures.written)
