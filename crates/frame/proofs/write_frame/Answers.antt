-- `frame::write_frame` meets its contract: it hands on the ten bytes of the packet.
-- Assumes nothing.
use mathlib.Core.Path.{◌∙◌}
use Rattle.frame.proofs.Numbers.{write-numbers}
use Rattle.frame.proofs.Ten.{wrote-bytes}
use Rattle.refusal.proofs.Clauses.{four}
use Rattle.frame.proofs.write_frame.Goals as goal

pub returns : goal.returns
returns c =
    four (λ p q r s. record { whole = p; written = q; number = r; value = s })
    (let a = c.args in
    let write = c.write in
    let ten = c.from-ten.ensures in
    let form = c.number.ensures in
    let wrote = wrote-bytes a.form a.packet a.user.now a.out.now _ _ _ _ form ten write.ensures.value write.ensures.written in
    write-numbers a.form a.packet a.user.now a.out.now _ _ (c.written_at.ensures ∙ wrote.0, wrote.1))
