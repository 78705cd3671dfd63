-- The claim `FormNumbers`: the numbers 0 to 17 are those of the valid forms, one each.
-- Assumes nothing.
use mathlib.Core.Path.{◌≡◌, refl, sym}
use mathlib.Core.Bool.{Bool, true, false}
use Prim.Native.Nat.{ℕ, ◌≤◌, ◌<◌}
use native.Mathlib.Omega.{arith}
use lib.Dec.{leb, eqb}
use borrow.Author.Tests.{leb-true, le-leb, lt-leb, eqb-true, eqb-false}
use Rattle.refusal.proofs.Checks.{both_true}
use Rattle.frame_form.specs.declared.Form.{Form}
use Rattle.frame_form.specs.declared.Form.TheVariants.{ShortUplink, LongUplink, LongDownlink}
use Rattle.frame_form.specs.Forms.{form_valid, form_at, form_number, FormNumbers}
use Rattle.frame_form.proofs.Forms.{at-short, at_long, at-downlink}

form-back : (f : Form) → form_valid f ≡ true → (form_number f ≤ 17) × (form_at (form_number f) ≡ f)
form-back ShortUplink e = (omega arith, at-short 0 refl)
form-back LongUplink e = (omega arith, at_long 17 (λ z. omega arith) refl)
form-back (LongDownlink n) e =
    let p = both_true (leb 1 n) (leb n 16) e in
    let low = leb-true 1 n p.0 in
    let high = leb-true n 16 p.1 in
    (omega arith, at-downlink n (λ z. omega arith) (λ z. omega arith))

-- by the two tests of `form_at`
by_tests : (n : ℕ) (a b : Bool) → eqb n 0 ≡ a → eqb n 17 ≡ b → n ≤ 17 → (form_valid (form_at n) ≡ true) × (form_number (form_at n) ≡ n)
by_tests n true b ea eb h = let e = eqb-true n 0 ea in rw (at-short n e) (refl, sym e)
by_tests n false true ea eb h = let e = eqb-true n 17 eb in rw (at_long n (eqb-false n 0 ea) e) (refl, sym e)
by_tests n false false ea eb h =
    let z = eqb-false n 0 ea in
    let o = eqb-false n 17 eb in
    rw (at-downlink n z o, le-leb 1 n (omega arith), le-leb n 16 (omega arith)) (refl, refl)

number-back : (n : ℕ) → n ≤ 17 → (form_valid (form_at n) ≡ true) × (form_number (form_at n) ≡ n)
number-back n h = by_tests n (eqb n 0) (eqb n 17) refl refl h

others : (n : ℕ) → 17 < n → form_valid (form_at n) ≡ false
others n h = rw (at-downlink n (λ z. omega arith) (λ z. omega arith), le-leb 1 n (omega arith), lt-leb n 16 (omega arith))

pub form-numbers : FormNumbers
form-numbers = record { form-back = form-back; number-back = number-back; others = others }
