-- The leading zeros of the wrong bits give the byte of the first wrong field.
-- Assumes nothing.
use mathlib.Core.Path.{◌≡◌, refl, sym, ap, ap₂, ◌∙◌, subst}
use mathlib.Core.Bool.{Bool, true, false, cond}
use mathlib.Core.List.{List, [], ◌∷◌}
use Prim.Native.Nat.{ℕ, zero, suc, ◌+◌, ◌-◌, ◌*◌, ◌/◌, ◌%◌, ◌^◌, ◌<◌, ◌≤◌}
use native.Mathlib.Nat.{mod-lt, mod-eq_of_lt, zero-mul, zero-add, add_assoc, mul-le-mul_right, mul_assoc}
use native.Mathlib.Omega.{arith}
use lib.Arith.{digits_lt}
use lib.Dec.{eqb}
use lib.Bits.{bit_and, bit_xor, and_block, xor_block, xor_lt, and_lt, and_mask, and_zero_r, xor_self, xor_add_and, and_le_l, and_le_r}
use lib.Count.{count_leading_zeros, leading_length, leading_top, leading_unique, leading_of_zero}
use lib.Pow.{pow_pos, pow-add, mod-pow-add, split}
use borrow.Author.Tests.{eqb-true, eqb-false}
use Rattle.frame_fields.specs.Rows.{total, unpack, eights, number_in}
use Rattle.frame_fields.specs.Layouts.{Field, fixed, free, lv, Layout, fields, widths, first_wrong, wrong_byte}
use Rattle.frame_fields.specs.Masks.{mask, want, wrong_bits, in_bytes, PositionLaw}
use Rattle.frame_fields.proofs.Headers.{fixed-parts}

-- ---- leading zeros of two parts

pub lz-low : (w t r : ℕ) → r < 2 ^ t → count_leading_zeros (w + t) (0 * 2 ^ t + r) ≡ w + count_leading_zeros t r
lz-low w t r h =
    let s = leading_length t r h in
    let e : 0 * 2 ^ t + r ≡ r = ap (λ (x : ℕ). x + r) (zero-mul (2 ^ t)) ∙ zero-add r in
    ap (count_leading_zeros (w + t)) e ∙ sym (leading_unique (w + t) r (w + count_leading_zeros t r) s.0 (omega (arith, s.1)) s.2 s.3)

-- a number of s bytes, in a word of 64
pub lz-word : (s x : ℕ) → s ≤ 8 → x < 2 ^ (8 * s) → count_leading_zeros 64 x + 8 * s ≡ 64 + count_leading_zeros (8 * s) x
lz-word s x h lt =
    let w = 64 - 8 * s in
    let sum : w + 8 * s ≡ 64 = omega arith in
    let e : 0 * 2 ^ (8 * s) + x ≡ x = ap (λ (y : ℕ). y + x) (zero-mul (2 ^ (8 * s))) ∙ zero-add x in
    let l : count_leading_zeros 64 x ≡ w + count_leading_zeros (8 * s) x = sym (ap₂ count_leading_zeros sum e) ∙ lz-low w (8 * s) x lt in
    omega (arith, l)

pub wrong-lt : (t n u k : ℕ) → k < 2 ^ t → bit_and (bit_xor n u) k < 2 ^ t
wrong-lt t n u k h = omega (arith, and_le_r (bit_xor n u) k)

lz-high : (w t d r : ℕ) → 0 < d → d < 2 ^ w → r < 2 ^ t → count_leading_zeros (w + t) (d * 2 ^ t + r) ≡ count_leading_zeros w d
lz-high w t d r pos hd hr =
    let s = leading_top w d pos hd in
    let j = s.0 in
    let below : d * 2 ^ t + r < 2 ^ (suc j + t) = subst (λ (x : ℕ). d * 2 ^ t + r < x) (sym (pow-add 2 (suc j) t)) (digits_lt s.3 hr) in
    let twice : 2 ^ suc j ≤ 2 * d = omega (arith, s.2) in
    let most : 2 ^ (suc j + t) ≤ 2 * d * 2 ^ t = subst (λ (x : ℕ). x ≤ 2 * d * 2 ^ t) (sym (pow-add 2 (suc j) t)) (mul-le-mul_right (2 ^ t) twice) in
    let same : 2 * d * 2 ^ t ≡ 2 * (d * 2 ^ t) = mul_assoc 2 d (2 ^ t) in
    sym (leading_unique (w + t) (d * 2 ^ t + r) (count_leading_zeros w d) (suc j + t) (omega (arith, s.1)) below (omega (arith, most, same)))

-- ---- bits that differ

xor_same : (a b : ℕ) → bit_xor a b ≡ 0 → a ≡ b
xor_same a b e = omega (arith, e, xor_add_and a b, and_le_l a b, and_le_r a b)

-- the wrong bits of a first field and of the rest
wrong-parts : (t x v m n u k : ℕ) → n < 2 ^ t → u < 2 ^ t → k < 2 ^ t
    → bit_and (bit_xor (x * 2 ^ t + n) (v * 2 ^ t + u)) (m * 2 ^ t + k) ≡ bit_and (bit_xor x v) m * 2 ^ t + bit_and (bit_xor n u) k
wrong-parts t x v m n u k hn hu hk =
    ap (λ (y : ℕ). bit_and y (m * 2 ^ t + k)) (xor_block t x v n u hn hu) ∙ and_block t (bit_xor x v) m (bit_xor n u) k (xor_lt t n u hn hu) hk

wide : (w t r : ℕ) → r < 2 ^ t → r < 2 ^ (w + t)
wide w t r h =
    let e : 0 * 2 ^ t + r ≡ r = ap (λ (x : ℕ). x + r) (zero-mul (2 ^ t)) ∙ zero-add r in
    subst (λ (x : ℕ). x < 2 ^ (w + t)) e (subst (λ (x : ℕ). 0 * 2 ^ t + r < x) (sym (pow-add 2 w t)) (digits_lt (pow_pos w) h))

want-lt : (fs : List Field) (o : ℕ) → in_bytes fs o ≡ true → want fs < 2 ^ total (widths fs)
want-lt [] o h = omega arith
want-lt (fixed w v ∷ fs) o h =
    let p = fixed-parts w v o fs h in
    let t = total (widths fs) in
    subst (λ (x : ℕ). v * 2 ^ t + want fs < x) (sym (pow-add 2 w t)) (digits_lt p.1 (want-lt fs (o + w) p.3))
want-lt (free w ∷ fs) o h = wide w (total (widths fs)) (want fs) (want-lt fs (o + w) h)
want-lt (lv w ∷ fs) o h = wide w (total (widths fs)) (want fs) (want-lt fs (o + w) h)

mask_lt : (fs : List Field) (o : ℕ) → in_bytes fs o ≡ true → mask fs < 2 ^ total (widths fs)
mask_lt [] o h = omega arith
mask_lt (fixed w v ∷ fs) o h =
    let p = fixed-parts w v o fs h in
    let t = total (widths fs) in
    let ones : 2 ^ w - 1 < 2 ^ w = omega (arith, pow_pos w) in
    subst (λ (x : ℕ). (2 ^ w - 1) * 2 ^ t + mask fs < x) (sym (pow-add 2 w t)) (digits_lt ones (mask_lt fs (o + w) p.3))
mask_lt (free w ∷ fs) o h = wide w (total (widths fs)) (mask fs) (mask_lt fs (o + w) h)
mask_lt (lv w ∷ fs) o h = wide w (total (widths fs)) (mask fs) (mask_lt fs (o + w) h)

-- a field that is not looked at
skip : (w t x n u k : ℕ) → n < 2 ^ t → u < 2 ^ t → k < 2 ^ t
    → count_leading_zeros (w + t) (bit_and (bit_xor (x * 2 ^ t + n) u) k) ≡ w + count_leading_zeros t (bit_and (bit_xor n u) k)
skip w t x n u k hn hu hk =
    let zu : u ≡ 0 * 2 ^ t + u = sym (ap (λ (y : ℕ). y + u) (zero-mul (2 ^ t)) ∙ zero-add u) in
    let zk : k ≡ 0 * 2 ^ t + k = sym (ap (λ (y : ℕ). y + k) (zero-mul (2 ^ t)) ∙ zero-add k) in
    ap₂ (λ (a b : ℕ). count_leading_zeros (w + t) (bit_and (bit_xor (x * 2 ^ t + n) a) b)) zu zk
    ∙ ap (count_leading_zeros (w + t)) (wrong-parts t x 0 0 n u k hn hu hk)
    ∙ ap (λ (y : ℕ). count_leading_zeros (w + t) (y * 2 ^ t + bit_and (bit_xor n u) k)) (and_zero_r (bit_xor x 0))
    ∙ lz-low w t (bit_and (bit_xor n u) k) (and_lt t (bit_xor n u) k (xor_lt t n u hn hu) hk)

-- a fixed field
looked : (w t x v n u k : ℕ) → x < 2 ^ w → v < 2 ^ w → n < 2 ^ t → u < 2 ^ t → k < 2 ^ t
    → count_leading_zeros (w + t) (bit_and (bit_xor (x * 2 ^ t + n) (v * 2 ^ t + u)) ((2 ^ w - 1) * 2 ^ t + k))
    ≡ count_leading_zeros (w + t) (bit_xor x v * 2 ^ t + bit_and (bit_xor n u) k)
looked w t x v n u k hx hv hn hu hk =
    ap (count_leading_zeros (w + t)) (wrong-parts t x v (2 ^ w - 1) n u k hn hu hk
    ∙ ap (λ (y : ℕ). y * 2 ^ t + bit_and (bit_xor n u) k) (and_mask (bit_xor x v) w ∙ mod-eq_of_lt (xor_lt w x v hx hv)))

pub position : PositionLaw
unfolding count_leading_zeros
position [] o n h = refl
position (free w ∷ fs) o n h =
    let t = total (widths fs) in
    let x = n / 2 ^ t % 2 ^ w in
    ap (λ (y : ℕ). (o + count_leading_zeros (w + t) (bit_and (bit_xor y (want fs)) (mask fs))) / 8) (mod-pow-add n w t)
    ∙ ap (λ (y : ℕ). (o + y) / 8) (skip w t x (n % 2 ^ t) (want fs) (mask fs) (mod-lt n (pow_pos t)) (want-lt fs (o + w) h) (mask_lt fs (o + w) h))
    ∙ ap (λ (y : ℕ). y / 8) (sym (add_assoc o w _))
    ∙ position fs (o + w) n h
    ∙ ap (λ (y : ℕ). first_wrong fs (o + w) (unpack (widths fs) n) (y / 8)) (add_assoc o w t)
position (lv w ∷ fs) o n h =
    let t = total (widths fs) in
    let x = n / 2 ^ t % 2 ^ w in
    ap (λ (y : ℕ). (o + count_leading_zeros (w + t) (bit_and (bit_xor y (want fs)) (mask fs))) / 8) (mod-pow-add n w t)
    ∙ ap (λ (y : ℕ). (o + y) / 8) (skip w t x (n % 2 ^ t) (want fs) (mask fs) (mod-lt n (pow_pos t)) (want-lt fs (o + w) h) (mask_lt fs (o + w) h))
    ∙ ap (λ (y : ℕ). y / 8) (sym (add_assoc o w _))
    ∙ position fs (o + w) n h
    ∙ ap (λ (y : ℕ). first_wrong fs (o + w) (unpack (widths fs) n) (y / 8)) (add_assoc o w t)
position (fixed w v ∷ fs) o n h =
    ap (λ (y : ℕ). (o + count_leading_zeros (w + t) (bit_and (bit_xor y (v * 2 ^ t + want fs)) ((2 ^ w - 1) * 2 ^ t + mask fs))) / 8) (mod-pow-add n w t)
    ∙ ap (λ (y : ℕ). (o + y) / 8) (looked w t x v (n % 2 ^ t) (want fs) (mask fs) hx p.1 (mod-lt n (pow_pos t)) (want-lt fs (o + w) p.3) (mask_lt fs (o + w) p.3))
    ∙ go (position fs (o + w) n p.3) (eqb x v) refl
  where
    t : ℕ
    t = total (widths fs)

    x : ℕ
    x = n / 2 ^ t % 2 ^ w

    p : (0 < w) × (v < 2 ^ w) × ((o + (w - 1)) / 8 ≡ o / 8) × (in_bytes fs (o + w) ≡ true)
    p = fixed-parts w v o fs h

    hx : x < 2 ^ w
    hx = mod-lt (n / 2 ^ t) (pow_pos w)

    r : ℕ
    r = bit_and (bit_xor (n % 2 ^ t) (want fs)) (mask fs)

    hr : r < 2 ^ t
    hr = and_lt t (bit_xor (n % 2 ^ t) (want fs)) (mask fs) (xor_lt t (n % 2 ^ t) (want fs) (mod-lt n (pow_pos t)) (want-lt fs (o + w) p.3)) (mask_lt fs (o + w) p.3)

    go : (o + w + count_leading_zeros t r) / 8 ≡ first_wrong fs (o + w) (unpack (widths fs) n) ((o + w + t) / 8)
        → (b : Bool) → eqb x v ≡ b
        → (o + count_leading_zeros (w + t) (bit_xor x v * 2 ^ t + r)) / 8 ≡ cond b (first_wrong fs (o + w) (unpack (widths fs) n) ((o + (w + t)) / 8)) (o / 8)
    go ih true e =
        ap (λ (y : ℕ). (o + count_leading_zeros (w + t) (y * 2 ^ t + r)) / 8) (ap (bit_xor x) (sym (eqb-true x v e)) ∙ xor_self x)
        ∙ ap (λ (y : ℕ). (o + y) / 8) (lz-low w t r hr)
        ∙ ap (λ (y : ℕ). y / 8) (sym (add_assoc o w (count_leading_zeros t r)))
        ∙ ih
        ∙ ap (λ (y : ℕ). first_wrong fs (o + w) (unpack (widths fs) n) (y / 8)) (add_assoc o w t)
    go ih false e =
        let ne : x ≡ v → ⊥ = eqb-false x v e in
        let d = bit_xor x v in
        let nz : d ≡ 0 → ⊥ = λ z. ne (xor_same x v z) in
        let pos : 0 < d = omega (arith, nz) in
        let hd : d < 2 ^ w = xor_lt w x v hx p.1 in
        let top = leading_top w d pos hd in
        ap (λ (y : ℕ). (o + y) / 8) (lz-high w t d r pos hd hr) ∙ omega (arith, top.1, p.2)

-- ---- the header of a frame

pub eights-total : (k : ℕ) → total (eights k) ≡ 8 * k
eights-total zero = refl
eights-total (suc k) = omega (arith, eights-total k)

-- bits above the fields are not looked at
wrong-low : (fs : List Field) (bit n : ℕ) → in_bytes fs bit ≡ true → wrong_bits fs (n % 2 ^ total (widths fs)) ≡ wrong_bits fs n
wrong-low fs bit n h =
    let t = total (widths fs) in
    let x = n / 2 ^ t in
    let r = n % 2 ^ t in
    let zu : want fs ≡ 0 * 2 ^ t + want fs = sym (ap (λ (y : ℕ). y + want fs) (zero-mul (2 ^ t)) ∙ zero-add (want fs)) in
    let zk : mask fs ≡ 0 * 2 ^ t + mask fs = sym (ap (λ (y : ℕ). y + mask fs) (zero-mul (2 ^ t)) ∙ zero-add (mask fs)) in
    let parts = wrong-parts t x 0 0 r (want fs) (mask fs) (mod-lt n (pow_pos t)) (want-lt fs bit h) (mask_lt fs bit h) in
    let none : bit_and (bit_xor x 0) 0 * 2 ^ t + wrong_bits fs r ≡ wrong_bits fs r =
    ap (λ (y : ℕ). y * 2 ^ t + wrong_bits fs r) (and_zero_r (bit_xor x 0)) ∙ ap (λ (y : ℕ). y + wrong_bits fs r) (zero-mul (2 ^ t)) ∙ zero-add (wrong_bits fs r) in
    sym
    (ap (λ (y : ℕ). bit_and (bit_xor y (want fs)) (mask fs)) (sym (split n t))
    ∙ ap₂ (λ (a b : ℕ). bit_and (bit_xor (x * 2 ^ t + r) a) b) zu zk
    ∙ parts
    ∙ none)

-- the mask covers the header's bits alone
pub mask_bound : (l : Layout) → total (widths (fields l)) ≡ total (eights l.size) → in_bytes (fields l) 0 ≡ true → mask (fields l) < 2 ^ (8 * l.size)
mask_bound l bits bytewise = subst (λ (x : ℕ). mask (fields l) < 2 ^ x) (bits ∙ eights-total l.size) (mask_lt (fields l) 0 bytewise)

module _ (l : Layout) (bits : total (widths (fields l)) ≡ total (eights l.size)) (bytewise : in_bytes (fields l) 0 ≡ true) (frame : List ℕ) where
  pub wrong-at : count_leading_zeros (8 * l.size) (wrong_bits (fields l) (number_in l.size frame)) / 8 ≡ wrong_byte l frame
  wrong-at =
      let fs = fields l in
      let n = number_in l.size frame in
      let t = total (widths fs) in
      let e : t ≡ 8 * l.size = bits ∙ eights-total l.size in
      let none : (0 + t) / 8 ≡ l.size = omega (arith, e) in
      ap₂ (λ (a b : ℕ). count_leading_zeros a b / 8) (sym e) (sym (wrong-low fs 0 n bytewise))
      ∙ ap (λ (y : ℕ). y / 8) (sym (zero-add (count_leading_zeros t (wrong_bits fs (n % 2 ^ t)))))
      ∙ position fs 0 n bytewise
      ∙ ap (first_wrong fs 0 (unpack (widths fs) n)) none

  -- no wrong bit, no wrong byte
  pub wrong-none : wrong_bits (fields l) (number_in l.size frame) ≡ 0 → wrong_byte l frame ≡ l.size
  wrong-none z =
      let e : count_leading_zeros (8 * l.size) (wrong_bits (fields l) (number_in l.size frame)) ≡ 8 * l.size =
      ap (count_leading_zeros (8 * l.size)) z ∙ leading_of_zero (8 * l.size) in
      sym wrong-at ∙ omega (arith, e)

  -- a wrong bit is in a byte of the header
  pub wrong-some : (wrong_bits (fields l) (number_in l.size frame) ≡ 0 → ⊥) → wrong_byte l frame < l.size
  wrong-some z =
      let x = wrong_bits (fields l) (number_in l.size frame) in
      let pos : 0 < x = omega (arith, z) in
      let top = leading_top (8 * l.size) x pos (wrong-lt (8 * l.size) (number_in l.size frame) (want (fields l)) (mask (fields l)) (mask_bound l bits bytewise)) in
      omega (arith, wrong-at, top.1)
