-- Headers: the values written to the fields are read from them again, and the values read from a
-- header make the same header again, if no fixed field is wrong.
-- Assumes nothing.
use mathlib.Core.Path.{◌≡◌, refl, sym, ap, ◌∙◌}
use mathlib.Core.Bool.{Bool, true, false, cond, ◌&&◌, not, true≢false}
use mathlib.Core.List.{List, [], ◌∷◌}
use Prim.Native.Nat.{ℕ, ◌+◌, ◌-◌, ◌*◌, ◌/◌, ◌^◌, ◌<◌, ◌≤◌}
use native.Mathlib.Omega.{arith}
use lib.Dec.{ltb, eqb}
use borrow.Author.Tests.{ltb-true, eqb-true, lt-ltb, eq-eqb, not-true}
use Rattle.refusal.proofs.Checks.{both_true}
use Rattle.frame_fields.specs.Rows.{total, InRange}
use Rattle.frame_fields.specs.Layouts.{Field, fixed, free, lv, widths, has_lv, all_values, within, free_values, lv_in, first_wrong}
use Rattle.frame_fields.specs.Masks.{in_bytes}

-- each fixed value is within its width, and LV's width holds m
abbrev pub holds : ℕ → List Field → Bool
holds m [] = true
holds m (fixed w v ∷ fs) = ltb v (2 ^ w) && holds m fs
holds m (free w ∷ fs) = holds m fs
holds m (lv w ∷ fs) = ltb m (2 ^ w) && holds m fs

-- there are as many values as fields, every fixed field has its right value, and LV is u
abbrev pub fixed_right : List Field → ℕ → List ℕ → Bool
fixed_right [] u [] = true
fixed_right [] u (x ∷ xs) = false
fixed_right (f ∷ fs) u [] = false
fixed_right (fixed w v ∷ fs) u (x ∷ xs) = eqb x v && fixed_right fs u xs
fixed_right (free w ∷ fs) u (x ∷ xs) = fixed_right fs u xs
fixed_right (lv w ∷ fs) u (x ∷ xs) = eqb x u && fixed_right fs u xs

-- there is one LV field at most
abbrev pub one_lv : List Field → Bool
one_lv [] = true
one_lv (fixed w v ∷ fs) = one_lv fs
one_lv (free w ∷ fs) = one_lv fs
one_lv (lv w ∷ fs) = not (has_lv fs)

-- ---- no fixed field is wrong

none-one : (fs : List Field) → has_lv fs ≡ false → one_lv fs ≡ true
none-one [] h = refl
none-one (fixed w v ∷ fs) h = none-one fs h
none-one (free w ∷ fs) h = none-one fs h
none-one (lv w ∷ fs) h = absurd (true≢false h)

pub right-none : (fs : List Field) (bit u none : ℕ) (xs : List ℕ) → fixed_right fs u xs ≡ true → first_wrong fs bit xs none ≡ none
right-none [] bit u none xs h = refl
right-none (fixed w v ∷ fs) bit u none [] h = refl
right-none (free w ∷ fs) bit u none [] h = refl
right-none (lv w ∷ fs) bit u none [] h = refl
right-none (fixed w v ∷ fs) bit u none (x ∷ xs) h =
    let p = both_true (eqb x v) (fixed_right fs u xs) h in
    ap (λ (b : Bool). cond b (first_wrong fs (bit + w) xs none) (bit / 8)) p.0 ∙ right-none fs (bit + w) u none xs p.1
right-none (free w ∷ fs) bit u none (x ∷ xs) h = right-none fs (bit + w) u none xs h
right-none (lv w ∷ fs) bit u none (x ∷ xs) h = right-none fs (bit + w) u none xs (both_true (eqb x u) (fixed_right fs u xs) h).1

-- the facts of a fixed field in one byte
pub fixed-parts : (w v bit : ℕ) (fs : List Field) → in_bytes (fixed w v ∷ fs) bit ≡ true
    → (0 < w) × (v < 2 ^ w) × ((bit + (w - 1)) / 8 ≡ bit / 8) × (in_bytes fs (bit + w) ≡ true)
fixed-parts w v bit fs h =
    let p = both_true (ltb 0 w) (ltb v (2 ^ w) && (eqb ((bit + (w - 1)) / 8) (bit / 8) && in_bytes fs (bit + w))) h in
    let q = both_true (ltb v (2 ^ w)) (eqb ((bit + (w - 1)) / 8) (bit / 8) && in_bytes fs (bit + w)) p.1 in
    let r = both_true (eqb ((bit + (w - 1)) / 8) (bit / 8)) (in_bytes fs (bit + w)) q.1 in
    (ltb-true 0 w p.0, ltb-true v (2 ^ w) q.0, eqb-true ((bit + (w - 1)) / 8) (bit / 8) r.0, r.1)

-- if no field is wrong in a header of `none` bytes, all are right
pub none_right : (fs : List Field) (bit u none : ℕ) (xs : List ℕ) → InRange (widths fs) xs → in_bytes fs bit ≡ true → one_lv fs ≡ true
    → (has_lv fs ≡ true → lv_in fs xs ≡ u) → bit + total (widths fs) ≤ 8 * none → first_wrong fs bit xs none ≡ none → fixed_right fs u xs ≡ true
none_right [] bit u none [] r i o l b e = refl
none_right [] bit u none (x ∷ xs) r i o l b e = absurd r
none_right (fixed w v ∷ fs) bit u none [] r i o l b e = absurd r
none_right (free w ∷ fs) bit u none [] r i o l b e = absurd r
none_right (lv w ∷ fs) bit u none [] r i o l b e = absurd r
none_right (free w ∷ fs) bit u none (x ∷ xs) r i o l b e = none_right fs (bit + w) u none xs r.1 i o l (omega arith) e
none_right (lv w ∷ fs) bit u none (x ∷ xs) r i o l b e =
    let no : has_lv fs ≡ false = not-true (has_lv fs) o in
    rw (eq-eqb x u (l refl)) (none_right fs (bit + w) u none xs r.1 i (none-one fs no) (λ y. absurd (true≢false (sym y ∙ no))) (omega arith) e)
none_right (fixed w v ∷ fs) bit u none (x ∷ xs) r i o l b e =
    go (λ q. none_right fs (bit + w) u none xs r.1 p.3 o l (omega arith) q) (eqb x v) refl
  where
    p : (0 < w) × (v < 2 ^ w) × ((bit + (w - 1)) / 8 ≡ bit / 8) × (in_bytes fs (bit + w) ≡ true)
    p = fixed-parts w v bit fs i

    go : (first_wrong fs (bit + w) xs none ≡ none → fixed_right fs u xs ≡ true) → (t : Bool) → eqb x v ≡ t → (eqb x v && fixed_right fs u xs) ≡ true
    go rest true q = rw q (rest (sym (ap (λ (t : Bool). cond t (first_wrong fs (bit + w) xs none) (bit / 8)) q) ∙ e))
    go rest false q =
        let at : bit / 8 ≡ none = sym (ap (λ (t : Bool). cond t (first_wrong fs (bit + w) xs none) (bit / 8)) q) ∙ e in
        absurd (omega (arith, at, b, p.0))

-- ---- written, then read

-- all values are within their widths
pub values-range : (m u : ℕ) (fs : List Field) (vs : List ℕ) → u ≤ m → holds m fs ≡ true → within fs vs ≡ true → InRange (widths fs) (all_values fs u vs)
values-range m u [] vs hu hs hw = tt
values-range m u (fixed w v ∷ fs) vs hu hs hw =
    let p = both_true (ltb v (2 ^ w)) (holds m fs) hs in
    (ltb-true v (2 ^ w) p.0, values-range m u fs vs hu p.1 hw)
values-range m u (lv w ∷ fs) vs hu hs hw =
    let p = both_true (ltb m (2 ^ w)) (holds m fs) hs in
    let q = ltb-true m (2 ^ w) p.0 in
    (omega arith, values-range m u fs vs hu p.1 hw)
values-range m u (free w ∷ fs) [] hu hs hw = let z : ◌≡◌ {A = ℕ} 0 1 = cc in absurd (omega arith)
values-range m u (free w ∷ fs) (v ∷ vs) hu hs hw =
    let p = both_true (ltb v (2 ^ w)) (within fs vs) hw in
    (ltb-true v (2 ^ w) p.0, values-range m u fs vs hu hs p.1)

pub free_back : (u : ℕ) (fs : List Field) (vs : List ℕ) → within fs vs ≡ true → free_values fs (all_values fs u vs) ≡ vs
free_back u [] [] h = refl
free_back u [] (v ∷ vs) h = let z : ◌≡◌ {A = ℕ} 0 1 = cc in absurd (omega arith)
free_back u (fixed w x ∷ fs) vs h = free_back u fs vs h
free_back u (lv w ∷ fs) vs h = free_back u fs vs h
free_back u (free w ∷ fs) [] h = let z : ◌≡◌ {A = ℕ} 0 1 = cc in absurd (omega arith)
free_back u (free w ∷ fs) (v ∷ vs) h = ap (λ (t : List ℕ). v ∷ t) (free_back u fs vs (both_true (ltb v (2 ^ w)) (within fs vs) h).1)

pub lv-back : (u : ℕ) (fs : List Field) (vs : List ℕ) → has_lv fs ≡ true → lv_in fs (all_values fs u vs) ≡ u
lv-back u [] vs h = let z : ◌≡◌ {A = ℕ} 0 1 = cc in absurd (omega arith)
lv-back u (fixed w x ∷ fs) vs h = lv-back u fs vs h
lv-back u (lv w ∷ fs) vs h = refl
lv-back u (free w ∷ fs) [] h = lv-back u fs [] h
lv-back u (free w ∷ fs) (v ∷ vs) h = lv-back u fs vs h

-- a header without an LV field does not depend on LV
pub no-lv : (u t : ℕ) (fs : List Field) (vs : List ℕ) → has_lv fs ≡ false → all_values fs u vs ≡ all_values fs t vs
no-lv u t [] vs h = refl
no-lv u t (fixed w x ∷ fs) vs h = ap (λ (r : List ℕ). x ∷ r) (no-lv u t fs vs h)
no-lv u t (lv w ∷ fs) vs h = let z : ◌≡◌ {A = ℕ} 0 1 = cc in absurd (omega arith)
no-lv u t (free w ∷ fs) [] h = ap (λ (r : List ℕ). 0 ∷ r) (no-lv u t fs [] h)
no-lv u t (free w ∷ fs) (v ∷ vs) h = ap (λ (r : List ℕ). v ∷ r) (no-lv u t fs vs h)

pub right-back : (u : ℕ) (fs : List Field) (vs : List ℕ) → fixed_right fs u (all_values fs u vs) ≡ true
right-back u [] vs = refl
right-back u (fixed w x ∷ fs) vs = rw (eq-eqb x x refl) (right-back u fs vs)
right-back u (lv w ∷ fs) vs = rw (eq-eqb u u refl) (right-back u fs vs)
right-back u (free w ∷ fs) [] = right-back u fs []
right-back u (free w ∷ fs) (v ∷ vs) = right-back u fs vs

-- ---- read, then written

pub values-again : (u : ℕ) (fs : List Field) (xs : List ℕ) → fixed_right fs u xs ≡ true → all_values fs u (free_values fs xs) ≡ xs
values-again u [] [] h = refl
values-again u [] (x ∷ xs) h = let z : ◌≡◌ {A = ℕ} 0 1 = cc in absurd (omega arith)
values-again u (f ∷ fs) [] h = let z : ◌≡◌ {A = ℕ} 0 1 = cc in absurd (omega arith)
values-again u (fixed w v ∷ fs) (x ∷ xs) h =
    let p = both_true (eqb x v) (fixed_right fs u xs) h in
    λ i. sym (eqb-true x v p.0) i ∷ values-again u fs xs p.1 i
values-again u (lv w ∷ fs) (x ∷ xs) h =
    let p = both_true (eqb x u) (fixed_right fs u xs) h in
    λ i. sym (eqb-true x u p.0) i ∷ values-again u fs xs p.1 i
values-again u (free w ∷ fs) (x ∷ xs) h = ap (λ (r : List ℕ). x ∷ r) (values-again u fs xs h)

-- what was read is within its widths
pub free-within : (fs : List Field) (xs : List ℕ) → InRange (widths fs) xs → within fs (free_values fs xs) ≡ true
free-within [] xs h = refl
free-within (fixed w v ∷ fs) [] h = absurd h
free-within (lv w ∷ fs) [] h = absurd h
free-within (free w ∷ fs) [] h = absurd h
free-within (fixed w v ∷ fs) (x ∷ xs) h = free-within fs xs h.1
free-within (lv w ∷ fs) (x ∷ xs) h = free-within fs xs h.1
free-within (free w ∷ fs) (x ∷ xs) h = rw (lt-ltb x (2 ^ w) h.0) (free-within fs xs h.1)
