-- `frame_reader::fault_at` meets its contract: each return is a case of the checks.
-- Assumes nothing.
use mathlib.Core.Path.{ap, ◌∙◌}
use mathlib.Core.Bool.{Bool}
use native.Mathlib.Omega.{arith}
use Rattle.frame_form.specs.Forms.{form_at}
use Rattle.frame_reader.specs.Parts.{byte_for}
use Rattle.frame_reader.proofs.Cases.{seen-inside, seen-sizes, seen-small, wrong-position, length-position, seen-position, multiple}
use Rattle.frame_reader.proofs.fault_at.Goals as goal

pub first_wrong-requires : goal.first_wrong-requires
first_wrong-requires c =
    let sizes = seen-sizes _ _ _ _ c.requires in
    (sizes.0, omega (arith, sizes.1), seen-small _ _ _ _ c.requires, omega (arith, c.if-head-ne0.true))

pub returns-then-head-ne0 : goal.returns-then-head-ne0
returns-then-head-ne0 c = c.first_wrong.ensures ∙ wrong-position _ _ _ _ c.requires c.if-head-ne0.true

pub length_byte-requires : goal.length_byte-requires
length_byte-requires c = seen-sizes _ _ _ _ c.requires

pub returns-then-head-eq0 : goal.returns-then-head-eq0
returns-then-head-eq0 c =
    let head = c.args.head in
    c.length_byte.ensures ∙ ap (λ (b : Bool). byte_for c.args.frame.now head.size b head.number) c.has_strings.ensures
    ∙ length-position _ _ _ _ c.requires c.if-head-ne0.false c.if-head-eq0.true

pub tail_fault-requires : goal.tail_fault-requires
tail_fault-requires c =
    (omega (arith, c.if-head-eq0.false), seen-inside _ _ _ _ c.requires, multiple (form_at c.args.form) c.args.frame.now c.args.found c.requires.named)

pub returns : goal.returns
returns c = c.tail_fault.ensures ∙ seen-position _ _ _ _ c.requires c.if-head-ne0.false c.if-head-eq0.false
