-- `frame_reader::look` meets its contract: 1 and 2 are checked here.
-- Assumes nothing.
use mathlib.Core.Path.{sym, ◌∙◌}
use Rattle.refusal.specs.declared.Refusal.TheVariants.{OutOfRange, Malformed}
use Rattle.frame_form.specs.Forms.{form_at}
use Rattle.frame_reader.proofs.Cases.{form-refused, shape-refused, refused-located, refused-read}
use Rattle.refusal.proofs.Clauses.{two}
use Rattle.frame_reader.proofs.look.Goals as goal

pub returns-then-locate : goal.returns-then-locate
returns-then-locate c =
    two (λ p q. record { value = p; written = q })
    (let a = c.args in
    let e = shape-refused (form_at a.form) a.frame.now (sym c.is_form.ensures ∙ c.if-is_form.true) (sym c.is_whole_at.ensures ∙ c.if-is_whole_at.false) in
    refused-located a.locate a.form a.frame.now a.packet.now c.if-locate.true Malformed _ e)

pub returns-else-locate : goal.returns-else-locate
returns-else-locate c =
    two (λ p q. record { value = p; written = q })
    (let a = c.args in
    let e = shape-refused (form_at a.form) a.frame.now (sym c.is_form.ensures ∙ c.if-is_form.true) (sym c.is_whole_at.ensures ∙ c.if-is_whole_at.false) in
    refused-read a.locate a.form a.frame.now a.packet.now c.if-locate.false Malformed _ e)

pub returns-then-locate-2 : goal.returns-then-locate-2
returns-then-locate-2 c =
    two (λ p q. record { value = p; written = q })
    (let a = c.args in
    let e = form-refused (form_at a.form) a.frame.now (sym c.is_form.ensures ∙ c.if-is_form.false) in
    refused-located a.locate a.form a.frame.now a.packet.now c.if-locate-2.true OutOfRange _ e)

pub returns-else-locate-2 : goal.returns-else-locate-2
returns-else-locate-2 c =
    two (λ p q. record { value = p; written = q })
    (let a = c.args in
    let e = form-refused (form_at a.form) a.frame.now (sym c.is_form.ensures ∙ c.if-is_form.false) in
    refused-read a.locate a.form a.frame.now a.packet.now c.if-locate-2.false OutOfRange _ e)
