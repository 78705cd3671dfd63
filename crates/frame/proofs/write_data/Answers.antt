-- `frame::write_data` meets its contract: it hands on the values of the packet.
-- Assumes nothing.
use mathlib.Core.Path.{◌∙◌}
use Rattle.frame.specs.declared.Packet.TheVariants.{Data}
use Rattle.frame.proofs.Numbers.{write-numbers}
use Rattle.frame.proofs.Ten.{wrote-data}
use Rattle.refusal.proofs.Clauses.{four}
use Rattle.frame.proofs.write_data.Goals as goal

pub returns : goal.returns
returns c =
    four (λ p q r s. record { whole = p; written = q; number = r; value = s })
    (let a = c.args in
    let d = a.packet in
    let write = c.write_data-answer in
    let form = c.number-form.ensures in
    let m = c.flag-m.ensures in
    let wrote = wrote-data a.form d a.user.now a.out.now _ _ _ _ form m write.ensures.value write.ensures.written in
    write-numbers a.form (Data d) a.user.now a.out.now _ _ (c.written_at.ensures ∙ wrote.0, wrote.1))
