-- `capture::open_file` meets its contract: each way out knows the checks that led there.
-- Assumes nothing.
use mathlib.Core.Path.{◌≡◌, sym, ap, ap₂, ◌∙◌}
use mathlib.Core.List.{List}
use Prim.Native.Nat.{ℕ, ◌+◌, ◌*◌, ◌≤◌}
use native.Mathlib.Omega.{arith}
use borrow.Author.Rules.{rules}
use lib.ListN.{length}
use Rattle.refusal.specs.declared.Refusal.{Refusal}
use Rattle.capture.specs.Opening.{form_in, count_in, open_verdict, open_by, opened_as}
use Rattle.capture.specs.Parts.{offsets_verdict}
use Rattle.capture.proofs.Opening.{no-form, too_many, cut-header, judged, answers}
use Rattle.refusal.proofs.Clauses.{four}
use Rattle.capture.proofs.open_file.Goals as goal
use Rattle.refusal.specs.Numbers.{Verdict}
use Rattle.std.specs.Prelude.{Ok, Err}

-- a refusal, from the verdict
refuse : (file : List ℕ) (why : Refusal) → Err why ≡ open_verdict file → Err why ≡ open_by (open_verdict file) (form_in file) (count_in file)
refuse file why e = ap (λ (v : Verdict). open_by v (form_in file) (count_in file)) e

-- the verdict on a file whose header is whole is that on its offsets
whole-header : (file : List ℕ) (form count : ℕ) → 8 ≤ length file → form ≡ form_in file → count ≡ count_in file → form ≤ 17 → count ≤ 512 → 12 + 4 * count ≤ length file
    → offsets_verdict file ≡ open_verdict file
whole-header file form count whole f n low few header =
    let low-in : form_in file ≤ 17 = omega arith in
    let few-in : count_in file ≤ 512 = omega arith in
    judged file whole low-in few-in (omega arith)

pub returns-then-form-gt17 : goal.returns-then-form-gt17
returns-then-form-gt17 c =
    four (λ p q r s. record { value = p; number = q; form = r; count = s })
    (let whole : 8 ≤ length c.args.file.now = omega (arith, c.if-file-lt8.false) in
    let file = c.args.file.now in
    answers file _ (refuse file _ (no-form file whole (omega (arith, c.if-form-gt17.true, c.number_at-form.ensures.value)))))

pub returns-then-count-gt512 : goal.returns-then-count-gt512
returns-then-count-gt512 c =
    four (λ p q r s. record { value = p; number = q; form = r; count = s })
    (let whole : 8 ≤ length c.args.file.now = omega (arith, c.if-file-lt8.false) in
    let form : form_in c.args.file.now ≤ 17 = omega (arith, c.if-form-gt17.false, c.number_at-form.ensures.value) in
    let file = c.args.file.now in
    answers file _ (refuse file _ (too_many file whole form (omega (arith, c.if-count-gt512.true, c.number_at-count.ensures.value)))))

pub returns-then-file-count : goal.returns-then-file-count
returns-then-file-count c =
    four (λ p q r s. record { value = p; number = q; form = r; count = s })
    (let whole : 8 ≤ length c.args.file.now = omega (arith, c.if-file-lt8.false) in
    let form : form_in c.args.file.now ≤ 17 = omega (arith, c.if-form-gt17.false, c.number_at-form.ensures.value) in
    let few : count_in c.args.file.now ≤ 512 = omega (arith, c.if-count-gt512.false, c.number_at-count.ensures.value) in
    let file = c.args.file.now in
    answers file _ (refuse file _ (cut-header file whole form few (omega (arith, c.if-file-count.true, c.number_at-count.ensures.value)))))

pub returns-in_err-check_offsets : goal.returns-in_err-check_offsets
returns-in_err-check_offsets c =
    four (λ p q r s. record { value = p; number = q; form = r; count = s })
    (let file = c.args.file.now in
    let why = c.in_err-check_offsets.field-0.0 in
    let failed : c.from_residual.result ≡ Err why = search rules in
    let same = whole-header file _ _ (omega (arith, c.if-file-lt8.false)) c.number_at-form.ensures.value c.number_at-count.ensures.value (omega (arith, c.if-form-gt17.false)) (omega (arith, c.if-count-gt512.false)) (omega (arith, c.if-file-count.false)) in
    answers file _ (failed ∙ refuse file why (c.in_err-check_offsets.ensures ∙ same)))

pub returns : goal.returns
returns c =
    four (λ p q r s. record { value = p; number = q; form = r; count = s })
    (let file = c.args.file.now in
    let form = c.number_at-form.ensures.value in
    let count = c.number_at-count.ensures.value in
    let same = whole-header file _ _ (omega (arith, c.if-file-lt8.false)) form count (omega (arith, c.if-form-gt17.false)) (omega (arith, c.if-count-gt512.false)) (omega (arith, c.if-file-count.false)) in
    let v : open_verdict file ≡ Ok tt = sym (c.in_ok-check_offsets.ensures ∙ same) in
    answers file _ (ap₂ opened_as form count ∙ sym (ap (λ (x : Verdict). open_by x (form_in file) (count_in file)) v)))
