-- `frame_writer::check_put` meets its contract: at each return, the tests that led there give the
-- definition's case.
-- Assumes nothing.
use mathlib.Core.Path.{◌≡◌, sym, ap, ◌∙◌}
use mathlib.Core.Bool.{Bool, true, ◌&&◌}
use Prim.Native.Nat.{◌≤◌}
use native.Mathlib.Omega.{arith}
use Rattle.frame_form.specs.Forms.{long_segment, most_of, form_valid, form_at}
use Rattle.frame_form.proofs.Segments.{padding-below}
use Rattle.frame_writer.proofs.Verdicts.{unfit, short, most-few, large, cramped, passes}
use Rattle.frame_writer.proofs.check_put.Goals as goal

pub returns-then-form-eq0 : goal.returns-then-form-eq0
returns-then-form-eq0 c =
    let fit : (form_valid (form_at c.args.form) && c.args.fits) ≡ true = ap (λ (b : Bool). b && c.args.fits) (sym c.is_form.ensures) ∙ c.if-is_form-fits.true in short _ _ _ _ fit c.if-form-eq0.true

pub returns-then-most_at-n : goal.returns-then-most_at-n
returns-then-most_at-n c =
    let fit : (form_valid (form_at c.args.form) && c.args.fits) ≡ true = ap (λ (b : Bool). b && c.args.fits) (sym c.is_form.ensures) ∙ c.if-is_form-fits.true in large _ _ _ _ fit c.if-form-eq0.false (omega (arith, c.most_at.ensures, c.if-most_at-n.true))

pub overflow_add-n : goal.overflow_add-n
overflow_add-n c =
    let fit : (form_valid (form_at c.args.form) && c.args.fits) ≡ true = ap (λ (b : Bool). b && c.args.fits) (sym c.is_form.ensures) ∙ c.if-is_form-fits.true in
    let a = c.args in
    omega (arith, most-few _ _ a.n a.room fit, c.most_at.ensures, c.if-most_at-n.false, c.requires, padding-below long_segment a.n (omega arith))

pub returns-then-room-n : goal.returns-then-room-n
returns-then-room-n c =
    let fit : (form_valid (form_at c.args.form) && c.args.fits) ≡ true = ap (λ (b : Bool). b && c.args.fits) (sym c.is_form.ensures) ∙ c.if-is_form-fits.true in
    let small : let a = c.args in a.n ≤ most_of (form_at a.form) = omega (arith, c.most_at.ensures, c.if-most_at-n.false) in
    cramped _ _ _ _ fit c.if-form-eq0.false small _ c.requires (omega (arith, c.if-room-n.true))

pub returns-then-is_form-fits : goal.returns-then-is_form-fits
returns-then-is_form-fits c =
    let fit : (form_valid (form_at c.args.form) && c.args.fits) ≡ true = ap (λ (b : Bool). b && c.args.fits) (sym c.is_form.ensures) ∙ c.if-is_form-fits.true in
    let small : let a = c.args in a.n ≤ most_of (form_at a.form) = omega (arith, c.most_at.ensures, c.if-most_at-n.false) in
    passes _ _ _ _ fit c.if-form-eq0.false small _ c.requires (omega (arith, c.if-room-n.false))

pub returns : goal.returns
returns c =
    let a = c.args in
    unfit _ _ _ _ (ap (λ (b : Bool). b && a.fits) (sym c.is_form.ensures) ∙ c.if-is_form-fits.false)
