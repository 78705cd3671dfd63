-- Facts about the segments and the largest packets of the forms, proved form by form.
-- Assumes nothing.
use mathlib.Core.Path.{◌≡◌, refl, sym, ap, ◌∙◌}
use mathlib.Core.Bool.{Bool, true, false, cond, ◌&&◌, ◌||◌, true≢false}
use Prim.Native.Nat.{ℕ, ◌%◌, ◌≤◌}
use native.Mathlib.Omega.{arith}
use lib.Dec.{leb, eqb}
use borrow.Author.Tests.{leb-true, leb-false, le-leb, lt-leb, eq-eqb, ne_eqb, eqb-true, eqb-false}
use Rattle.refusal.proofs.Checks.{both_true}
use Rattle.frame_form.specs.declared.Form.{Form}
use Rattle.frame_form.specs.declared.Form.TheVariants.{ShortUplink, LongUplink, LongDownlink}
use Rattle.frame_form.specs.Forms.{long_segment, seg_of, most_of, form_valid, is_long, is_uplink, form_at, form_number, form_code}
use Rattle.frame_form.specs.Segments.{whole_segments}

-- every segment holds a header
pub segment-seven : (form : Form) → 7 ≤ seg_of form
segment-seven ShortUplink = omega arith
segment-seven LongUplink = omega arith
segment-seven (LongDownlink n) = omega arith

pub segment-some : (form : Form) → 1 ≤ seg_of form
segment-some form = omega (arith, segment-seven form)

-- LV's four bits hold a segment's length
pub segment-few : (form : Form) → seg_of form ≤ 15
segment-few ShortUplink = omega arith
segment-few LongUplink = omega arith
segment-few (LongDownlink n) = omega arith

-- the segments of the long forms have one size
pub long-segment : (form : Form) → is_long form ≡ true → seg_of form ≡ long_segment
long-segment ShortUplink l = absurd (true≢false (sym l))
long-segment LongUplink l = refl
long-segment (LongDownlink n) l = refl

-- the largest packet of a valid form has 10 to 160 bytes
pub most-range : (form : Form) → form_valid form ≡ true → (10 ≤ most_of form) × (most_of form ≤ 160)
most-range ShortUplink e = omega arith
most-range LongUplink e = omega arith
most-range (LongDownlink n) e =
    let p = both_true (leb 1 n) (leb n 16) e in
    omega (arith, leb-true 1 n p.0, leb-true n 16 p.1)

-- ---- the form with a given number

pub at-short : (n : ℕ) → n ≡ 0 → form_at n ≡ ShortUplink
unfolding form_at
at-short n e = rw (eq-eqb n 0 e)

pub at_long : (n : ℕ) → (n ≡ 0 → ⊥) → n ≡ 17 → form_at n ≡ LongUplink
unfolding form_at
at_long n z e = rw (ne_eqb n 0 z, eq-eqb n 17 e)

pub at-downlink : (n : ℕ) → (n ≡ 0 → ⊥) → (n ≡ 17 → ⊥) → form_at n ≡ LongDownlink n
unfolding form_at
at-downlink n z o = rw (ne_eqb n 0 z, ne_eqb n 17 o)

-- every number but that of the short uplink gives a long form
pub long-at : (n : ℕ) → 1 ≤ n → is_long (form_at n) ≡ true
long-at n more = go (eqb n 17) refl
  where
    go : (b : Bool) → eqb n 17 ≡ b → is_long (form_at n) ≡ true
    go true e = ap is_long (at_long n (λ z. omega arith) (eqb-true n 17 e))
    go false e = ap is_long (at-downlink n (λ z. omega arith) (eqb-false n 17 e))

-- ---- by the number

pub uplink-at : (n : ℕ) → is_uplink (form_at n) ≡ (eqb n 0 || eqb n 17)
uplink-at n = go (eqb n 0) (eqb n 17) refl refl
  where
    go : (a b : Bool) → eqb n 0 ≡ a → eqb n 17 ≡ b → is_uplink (form_at n) ≡ (a || b)
    go true b e f = ap is_uplink (at-short n (eqb-true n 0 e))
    go false true e f = ap is_uplink (at_long n (eqb-false n 0 e) (eqb-true n 17 f))
    go false false e f = ap is_uplink (at-downlink n (eqb-false n 0 e) (eqb-false n 17 f))

pub segment-short : (n : ℕ) → n ≡ 0 → seg_of (form_at n) ≡ 7
segment-short n e = ap seg_of (at-short n e)

pub segment-long : (n : ℕ) → (n ≡ 0 → ⊥) → seg_of (form_at n) ≡ long_segment
segment-long n z = long-segment (form_at n) (long-at n (omega (arith, z)))

pub valid-at : (n : ℕ) → form_valid (form_at n) ≡ leb n 17
valid-at n = go (eqb n 0) (eqb n 17) refl refl
  where
    but-one : (b : Bool) → leb n 17 ≡ b → (n ≡ 17 → ⊥) → leb n 16 ≡ leb n 17
    but-one true e o = le-leb n 16 (omega (arith, leb-true n 17 e, o)) ∙ sym e
    but-one false e o = lt-leb n 16 (omega (arith, leb-false n 17 e)) ∙ sym e

    go : (a b : Bool) → eqb n 0 ≡ a → eqb n 17 ≡ b → form_valid (form_at n) ≡ leb n 17
    go true b ea eb = let e = eqb-true n 0 ea in ap form_valid (at-short n e) ∙ sym (le-leb n 17 (omega (arith, e)))
    go false true ea eb = let e = eqb-true n 17 eb in ap form_valid (at_long n (eqb-false n 0 ea) e) ∙ sym (le-leb n 17 (omega (arith, e)))
    go false false ea eb =
        let z = eqb-false n 0 ea in
        let o = eqb-false n 17 eb in
        ap form_valid (at-downlink n z o) ∙ ap (λ (b : Bool). b && leb n 16) (le-leb 1 n (omega (arith, z))) ∙ but-one (leb n 17) refl o

-- the number by which a form is handed on gives the form again, or one that is not valid either
pub code-back : (f : Form) → form_valid f ≡ true → form_at (form_code f) ≡ f
unfolding form_code
code-back ShortUplink e = at-short 0 refl
code-back LongUplink e = at_long 17 (λ z. omega arith) refl
code-back (LongDownlink n) e =
    let p = both_true (leb 1 n) (leb n 16) e in
    let low = leb-true 1 n p.0 in
    let high = leb-true n 16 p.1 in
    ap (λ (b : Bool). form_at (cond b n 255)) e ∙ at-downlink n (λ z. omega arith) (λ z. omega arith)

pub code-none : (f : Form) → form_valid f ≡ false → form_valid (form_at (form_code f)) ≡ false
unfolding form_code
code-none f e = ap (λ (b : Bool). form_valid (form_at (cond b (form_number f) 255))) e ∙ valid-at 255

-- whole segments of a size that is known, at least one byte
pub whole_of : (n seg len : ℕ) → seg_of (form_at n) ≡ seg → (len ≡ 0 → ⊥) → eqb (len % seg) 0 ≡ whole_segments (seg_of (form_at n)) len
unfolding whole_segments
whole_of n seg len e z =
    sym (ap (λ (s : ℕ). leb 1 len && eqb (len % s) 0) e ∙ ap (λ (b : Bool). b && eqb (len % seg) 0) (le-leb 1 len (omega (arith, z))))

pub whole-empty : (seg len : ℕ) → len ≡ 0 → whole_segments seg len ≡ false
unfolding whole_segments
whole-empty seg len e = ap (λ (b : Bool). b && eqb (len % seg) 0) (lt-leb 1 len (omega (arith, e)))

pub code-valid : (f : Form) → form_valid f ≡ true → form_code f ≡ form_number f
unfolding form_code
code-valid f e = ap (λ (b : Bool). cond b (form_number f) 255) e

pub code_other : (f : Form) → form_valid f ≡ false → form_code f ≡ 255
unfolding form_code
code_other f e = ap (λ (b : Bool). cond b (form_number f) 255) e
