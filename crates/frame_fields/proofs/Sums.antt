-- A header's number as a sum: the fixed fields, each free value in its place, and LV in its own.
-- And the tests of the free values, one after the other. Over any list of fields: code that has the
-- places of a header as numbers is held against these.
-- Assumes nothing.
use mathlib.Core.Path.{◌≡◌, refl, sym, ap, ◌∙◌}
use mathlib.Core.Bool.{Bool, ◌&&◌, and_assoc}
use mathlib.Core.List.{List, [], ◌∷◌, ◌++◌}
use Prim.Native.Nat.{ℕ, suc, ◌+◌, ◌*◌, ◌^◌}
use native.Mathlib.Nat.{add-mul, mul-add, mul_assoc, zero-mul, zero-add}
use native.Mathlib.Omega.{arith}
use lib.Dec.{ltb}
use lib.ListN.{length, take, drop}
use lib.Pow.{pow-add}
use Rattle.frame_fields.specs.Rows.{total, pack_after, pack}
use Rattle.frame_fields.specs.Layouts.{Field, fixed, free, lv, widths, all_values, within}
use Rattle.frame_fields.specs.Masks.{want}

-- the free fields alone
abbrev pub free_only : List Field → List Field
free_only [] = []
free_only (fixed w v ∷ fs) = free_only fs
free_only (free w ∷ fs) = free w ∷ free_only fs
free_only (lv w ∷ fs) = free_only fs

-- for each of them, the number of bits below it
abbrev pub free_shifts : List Field → List ℕ
free_shifts [] = []
free_shifts (fixed w v ∷ fs) = free_shifts fs
free_shifts (free w ∷ fs) = total (widths fs) ∷ free_shifts fs
free_shifts (lv w ∷ fs) = free_shifts fs

-- what a 1 in LV counts in the number: 0 without LV
abbrev pub lv_weight : List Field → ℕ
lv_weight [] = 0
lv_weight (fixed w v ∷ fs) = lv_weight fs
lv_weight (free w ∷ fs) = lv_weight fs
lv_weight (lv w ∷ fs) = 2 ^ total (widths fs) + lv_weight fs

-- the sum of values, each with so many bits below it; a missing value is 0
abbrev pub placed : List ℕ → List ℕ → ℕ
placed [] vs = 0
placed (s ∷ ss) [] = 0
placed (s ∷ ss) (v ∷ vs) = v * 2 ^ s + placed ss vs

-- ---- the number

placed-none : (ss : List ℕ) → placed ss [] ≡ 0
placed-none [] = refl
placed-none (s ∷ ss) = refl

-- one field more below a
grown : (a v w t : ℕ) → (a * 2 ^ w + v) * 2 ^ t ≡ a * 2 ^ (w + t) + v * 2 ^ t
grown a v w t = rw (add-mul, mul_assoc, ← pow-add 2 w t)

pack-sum : (a u : ℕ) (fs : List Field) (vs : List ℕ)
    → pack_after a (widths fs) (all_values fs u vs) ≡ a * 2 ^ total (widths fs) + (want fs + placed (free_shifts fs) vs + u * lv_weight fs)
pack-sum a u [] vs = omega arith
pack-sum a u (fixed w v ∷ fs) vs = let t = total (widths fs) in omega (arith, pack-sum (a * 2 ^ w + v) u fs vs, grown a v w t)
pack-sum a u (free w ∷ fs) [] =
    let t = total (widths fs) in
    omega (arith, pack-sum (a * 2 ^ w + 0) u fs [], grown a 0 w t, zero-mul (2 ^ t), placed-none (free_shifts fs))
pack-sum a u (free w ∷ fs) (v ∷ vs) = let t = total (widths fs) in omega (arith, pack-sum (a * 2 ^ w + v) u fs vs, grown a v w t)
pack-sum a u (lv w ∷ fs) vs =
    let t = total (widths fs) in
    omega (arith, pack-sum (a * 2 ^ w + u) u fs vs, grown a u w t, mul-add u (2 ^ t) (lv_weight fs))

-- the number of a header, if LV is u and the free fields have the values vs
pub number-sum : (u : ℕ) (fs : List Field) (vs : List ℕ)
    → pack (widths fs) (all_values fs u vs) ≡ want fs + placed (free_shifts fs) vs + u * lv_weight fs
number-sum u fs vs =
    let r = want fs + placed (free_shifts fs) vs + u * lv_weight fs in
    pack-sum 0 u fs vs ∙ ap (λ (x : ℕ). x + r) (zero-mul (2 ^ total (widths fs))) ∙ zero-add r

-- so LV is a summand of its own
pub number-lv : (u : ℕ) (fs : List Field) (vs : List ℕ)
    → pack (widths fs) (all_values fs u vs) ≡ pack (widths fs) (all_values fs 0 vs) + u * lv_weight fs
number-lv u fs vs = omega (arith, number-sum u fs vs, number-sum 0 fs vs, zero-mul (lv_weight fs))

-- ---- the values

pub shift_count : (fs : List Field) → length (free_shifts fs) ≡ length (free_only fs)
shift_count [] = refl
shift_count (fixed w v ∷ fs) = shift_count fs
shift_count (free w ∷ fs) = ap suc (shift_count fs)
shift_count (lv w ∷ fs) = shift_count fs

-- fields fs and then fields gs: the first values are tested by fs, those after them by gs
pub within-parts : (fs gs : List Field) (vs : List ℕ)
    → within (free_only fs ++ gs) vs ≡ (within fs (take (length (free_only fs)) vs) && within gs (drop (length (free_only fs)) vs))
within-parts [] gs vs = refl
within-parts (fixed w v ∷ fs) gs vs = within-parts fs gs vs
within-parts (lv w ∷ fs) gs vs = within-parts fs gs vs
within-parts (free w ∷ fs) gs [] = refl
within-parts (free w ∷ fs) gs (v ∷ vs) =
    let n = length (free_only fs) in
    ap (λ (b : Bool). ltb v (2 ^ w) && b) (within-parts fs gs vs) ∙ sym (and_assoc (ltb v (2 ^ w)) (within fs (take n vs)) (within gs (drop n vs)))

-- the same for places: what is placed by ss and then by ts
pub placed-parts : (ss ts vs : List ℕ) → placed (ss ++ ts) vs ≡ placed ss (take (length ss) vs) + placed ts (drop (length ss) vs)
placed-parts [] ts vs = sym (zero-add (placed ts vs))
placed-parts (s ∷ ss) ts [] = omega (arith, placed-none ts)
placed-parts (s ∷ ss) ts (v ∷ vs) = omega (arith, placed-parts ss ts vs)
