-- `frame::write_route` meets its contract: two marks and the form's number go down, the answer
-- comes up.
-- Assumes nothing.
use mathlib.Core.Path.{◌∙◌}
use Rattle.frame.proofs.Numbers.{route-numbers}
use Rattle.frame.proofs.Ten.{wrote-route}
use Rattle.refusal.proofs.Clauses.{four}
use Rattle.frame.proofs.write_route.Goals as goal

pub returns : goal.returns
returns c =
    four (λ p q r s. record { whole = p; written = q; number = r; value = s })
    (let a = c.args in
    let write = c.write_route in
    let form = c.number.ensures in
    let optional = c.flag-o.ensures in
    let initial = c.flag-i.ensures in
    let wrote =
    wrote-route a.form a.optional a.initial a.table.now a.extra.now a.out.now _ _ _ _ _
    form optional initial write.ensures.value write.ensures.written in
    route-numbers a.form a.optional a.initial a.table.now a.extra.now a.out.now _ _
    (c.written_at.ensures ∙ wrote.0, wrote.1))
