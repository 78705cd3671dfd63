-- `frame_reader::look_whole` meets its contract: the first byte names the kind, or none.
-- Assumes nothing.
use mathlib.Core.Path.{sym, ◌∙◌}
use native.Mathlib.Omega.{arith}
use lib.ListN.{length}
use Rattle.refusal.specs.declared.Refusal.TheVariants.{FormatError}
use Rattle.frame_form.specs.Forms.{seg_of, form_at}
use Rattle.frame_form.proofs.Forms.{segment-some}
use Rattle.frame_form.proofs.Segments.{whole-some}
use Rattle.frame_reader.proofs.Cases.{unknown-refused, refused-located, refused-read}
use Rattle.refusal.proofs.Clauses.{two}
use Rattle.frame_reader.proofs.look_whole.Goals as goal

pub bounds-frame-0 : goal.bounds-frame-0
bounds-frame-0 c =
    let f = form_at c.args.form in
    omega (arith, segment-some f, whole-some (seg_of f) (length c.args.frame.now) (segment-some f) c.requires.1)

pub returns-then-locate : goal.returns-then-locate
returns-then-locate c =
    two (λ p q. record { value = p; written = q })
    (let a = c.args in
    let e = unknown-refused (form_at a.form) a.frame.now c.requires.0 c.requires.1 (sym c.named-found.ensures ∙ c.in-Unknown.is) in
    refused-located a.locate a.form a.frame.now a.packet.now c.if-locate.true FormatError 0 e)

pub returns-else-locate : goal.returns-else-locate
returns-else-locate c =
    two (λ p q. record { value = p; written = q })
    (let a = c.args in
    let e = unknown-refused (form_at a.form) a.frame.now c.requires.0 c.requires.1 (sym c.named-found.ensures ∙ c.in-Unknown.is) in
    refused-read a.locate a.form a.frame.now a.packet.now c.if-locate.false FormatError 0 e)
