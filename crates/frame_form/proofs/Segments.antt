-- How n bytes fill segments, for any segment size.
-- Assumes nothing.
use mathlib.Core.Path.{◌≡◌, refl, sym, ap, ◌∙◌}
use mathlib.Core.Bool.{Bool, true, false}
use Prim.Native.Nat.{ℕ, zero, suc, ◌+◌, ◌-◌, ◌*◌, ◌/◌, ◌%◌, ◌<◌, ◌≤◌}
use native.Mathlib.Nat.{mod-lt, mod_self, mod-eq_of_lt, mod-add-mod, div-add-mod', mul-add-mod_self_right, mul-mod_left, zero-mul, suc-mul}
use native.Mathlib.Decide.{dec_lt}
use native.Mathlib.Omega.{arith}
use lib.Dec.{leb, ltb, eqb}
use borrow.Author.Tests.{leb-true, ltb-true, ltb-false, eq-eqb, ne_eqb, eqb-true, eqb-false}
use Rattle.refusal.proofs.Checks.{both_true}
use Rattle.frame_form.specs.Segments.{padding, last_used, frame_length, whole_segments}

pub padding-below : (seg n : ℕ) → 1 ≤ seg → padding seg n < seg
unfolding padding
padding-below seg n some = mod-lt (seg - n % seg) some

-- LV is 1 to the segment size
pub used-range : (seg n : ℕ) → 1 ≤ seg → (1 ≤ last_used seg n) × (last_used seg n ≤ seg)
unfolding last_used
used-range seg n some = omega (arith, padding-below seg n some)

-- the padding without its outer remainder: none for whole segments, else the bytes missing in the
-- last one
pub padding-none : (seg n : ℕ) → 1 ≤ seg → n % seg ≡ 0 → padding seg n ≡ 0
unfolding padding
padding-none seg n some e =
    let z : seg - n % seg ≡ seg = omega (arith, e) in
    ap (λ (x : ℕ). x % seg) z ∙ mod_self seg

pub padding-some : (seg n : ℕ) → 1 ≤ seg → 1 ≤ n % seg → padding seg n ≡ seg - n % seg
unfolding padding
padding-some seg n some e = mod-eq_of_lt (omega (arith, mod-lt n some))

-- the padding is 0 exactly for whole segments
pub padding-zero : (seg n : ℕ) → 1 ≤ seg → eqb (padding seg n) 0 ≡ eqb (n % seg) 0
padding-zero seg n some = go (eqb (n % seg) 0) refl
  where
    go : (b : Bool) → eqb (n % seg) 0 ≡ b → eqb (padding seg n) 0 ≡ b
    go true e = eq-eqb (padding seg n) 0 (padding-none seg n some (eqb-true (n % seg) 0 e))
    go false e =
        let ne : n % seg ≡ 0 → ⊥ = eqb-false (n % seg) 0 e in
        let pos : 1 ≤ n % seg = omega (arith, ne) in
        ne_eqb (padding seg n) 0 (λ z. omega (arith, z, padding-some seg n some pos, mod-lt n some))

-- a frame has the length of q segments, for some q
pub segments : (seg n : ℕ) → 1 ≤ seg → (q : ℕ) × (frame_length seg n ≡ q * seg)
segments seg n some = go (eqb (n % seg) 0) refl
  where
    go : (b : Bool) → eqb (n % seg) 0 ≡ b → (q : ℕ) × (frame_length seg n ≡ q * seg)
    go true e = (n / seg, omega (arith, eqb-true (n % seg) 0 e, padding-none seg n some (eqb-true (n % seg) 0 e), div-add-mod' n seg))
    go false e =
        let ne : n % seg ≡ 0 → ⊥ = eqb-false (n % seg) 0 e in
        let pos : 1 ≤ n % seg = omega (arith, ne) in
        (suc (n / seg), omega (arith, padding-some seg n some pos, div-add-mod' n seg, suc-mul (n / seg) seg, mod-lt n some))

pub frame-whole : (seg n : ℕ) → 1 ≤ seg → frame_length seg n % seg ≡ 0
frame-whole seg n some = let s = segments seg n some in ap (λ (x : ℕ). x % seg) s.1 ∙ mul-mod_left s.0 seg

-- two lengths of whole segments that differ by less than a segment are equal
none_between : (seg x y t : ℕ) → x % seg ≡ 0 → y % seg ≡ 0 → y ≡ x + t → t < seg → t ≡ 0
none_between seg x y t ex ey e h =
    let z : t ≡ x % seg + t = omega (arith, ex) in
    sym (mod-eq_of_lt h) ∙ ap (λ (k : ℕ). k % seg) z ∙ mod-add-mod x seg t ∙ ap (λ (k : ℕ). k % seg) (sym e) ∙ ey

-- whole segments that hold n bytes, with less than a segment left over, have the length of the
-- frame of n bytes
pub whole-next : (seg len n : ℕ) → 1 ≤ seg → len % seg ≡ 0 → n ≤ len → len - n < seg → len ≡ frame_length seg n
whole-next seg len n some m h l = go (dec_lt len (frame_length seg n))
  where
    go : Dec (len < frame_length seg n) → len ≡ frame_length seg n
    go (yes g) =
        let t = frame_length seg n - len in
        let none : t ≡ 0 = none_between seg len (frame_length seg n) t m (frame-whole seg n some) (omega arith) (omega (arith, padding-below seg n some)) in
        absurd (omega (arith, none))
    go (no g) =
        let t = len - frame_length seg n in
        let none : t ≡ 0 = none_between seg (frame_length seg n) len t (frame-whole seg n some) m (omega arith) (omega arith) in
        omega (arith, none)

-- n bytes in whole segments: what lies past the frame of n bytes are whole segments too
pub frame-end : (seg len n : ℕ) → 1 ≤ seg → len % seg ≡ 0 → n ≤ len → frame_length seg n ≡ len - (len - n) / seg * seg
frame-end seg len n some m h =
    let q = (len - n) / seg in
    let d = div-add-mod' (len - n) seg in
    let x = len - q * seg in
    let split : len ≡ q * seg + x = omega (arith, d) in
    let whole : x % seg ≡ 0 = sym (mul-add-mod_self_right q seg x) ∙ ap (λ (k : ℕ). k % seg) (sym split) ∙ m in
    sym (whole-next seg x n some whole (omega (arith, d)) (omega (arith, d, mod-lt (len - n) some)))

-- and no other whole segments have it
pub whole_by : (seg len n : ℕ) → 1 ≤ seg → len % seg ≡ 0 → n ≤ len → ltb (len - n) seg ≡ eqb len (frame_length seg n)
whole_by seg len n some m h = go (ltb (len - n) seg) refl
  where
    go : (b : Bool) → ltb (len - n) seg ≡ b → b ≡ eqb len (frame_length seg n)
    go true e = sym (eq-eqb len (frame_length seg n) (whole-next seg len n some m h (ltb-true (len - n) seg e)))
    go false e = sym (ne_eqb len (frame_length seg n) (λ w. omega (arith, w, ltb-false (len - n) seg e, padding-below seg n some)))

-- a frame that has bytes has at least one segment
pub frame-some : (seg n : ℕ) → 1 ≤ seg → 1 ≤ frame_length seg n → seg ≤ frame_length seg n
frame-some seg n some more = let s = segments seg n some in go s.0 s.1
  where
    go : (q : ℕ) → frame_length seg n ≡ q * seg → seg ≤ frame_length seg n
    go zero e = absurd (omega (arith, e, zero-mul seg))
    go (suc q) e = omega (arith, e, suc-mul q seg)

-- a packet of at least one byte has at least one segment; its length is that of the segments before
-- the last, plus the bytes used in the last
pub length-less : (seg n : ℕ) → 1 ≤ seg → 1 ≤ n → (seg ≤ frame_length seg n) × (frame_length seg n - seg + last_used seg n ≡ n)
unfolding last_used
length-less seg n some more =
    let full : seg ≤ frame_length seg n = frame-some seg n some (omega arith) in
    (full, omega (arith, full, padding-below seg n some))

-- len bytes are whole segments, with u bytes used in the last one
module _ (seg len u : ℕ) (multiple : len % seg ≡ 0) (more : 1 ≤ len) (low : 1 ≤ u) (high : u ≤ seg) where
  pub at_least_one : (q : ℕ) × (len ≡ suc q * seg)
  at_least_one = go (len / seg) (sym (div-add-mod' len seg) ∙ omega (arith, multiple))
    where
      go : (q : ℕ) → len ≡ q * seg → (p : ℕ) × (len ≡ suc p * seg)
      go zero e = absurd (omega (arith, e, zero-mul seg))
      go (suc q) e = (q, e)

  rest : (len - seg + u) % seg ≡ u % seg
  rest =
      let q = at_least_one.0 in
      let e : len - seg + u ≡ q * seg + u = omega (arith, at_least_one.1, suc-mul q seg) in
      ap (λ (x : ℕ). x % seg) e ∙ mul-add-mod_self_right q seg u

  pub padding-back : padding seg (len - seg + u) ≡ seg - u
  unfolding padding
  padding-back = ap (λ (x : ℕ). (seg - x) % seg) rest ∙ go (eqb u seg) refl
    where
      go : (b : Bool) → eqb u seg ≡ b → (seg - u % seg) % seg ≡ seg - u
      go true e =
          let s : u ≡ seg = eqb-true u seg e in
          let z : u % seg ≡ 0 = ap (λ (x : ℕ). x % seg) s ∙ mod_self seg in
          let t : seg - u % seg ≡ seg = omega (arith, z) in
          ap (λ (x : ℕ). x % seg) t ∙ mod_self seg ∙ omega (arith, s)
      go false e =
          let ne : u ≡ seg → ⊥ = eqb-false u seg e in
          let lt : u < seg = omega (arith, ne) in
          let z : seg - u % seg ≡ seg - u = ap (λ (x : ℕ). seg - x) (mod-eq_of_lt lt) in
          ap (λ (x : ℕ). x % seg) z ∙ mod-eq_of_lt (omega arith)

  pub used-back : last_used seg (len - seg + u) ≡ u
  unfolding last_used
  used-back = omega (arith, padding-back)

  pub length_back : frame_length seg (len - seg + u) ≡ len
  length_back = omega (arith, padding-back, at_least_one.1, suc-mul at_least_one.0 seg)

-- the length of whole segments is a multiple of the segment size, and at least one segment
pub whole-none-over : (seg len : ℕ) → whole_segments seg len ≡ true → len % seg ≡ 0
unfolding whole_segments
whole-none-over seg len w = eqb-true (len % seg) 0 (both_true (leb 1 len) (eqb (len % seg) 0) w).1

pub whole-some : (seg len : ℕ) → 1 ≤ seg → whole_segments seg len ≡ true → seg ≤ len
unfolding whole_segments
whole-some seg len some w =
    let p = both_true (leb 1 len) (eqb (len % seg) 0) w in
    let q = at_least_one seg len seg (eqb-true (len % seg) 0 p.1) (leb-true 1 len p.0) some (omega arith) in
    omega (arith, q.1, suc-mul q.0 seg)
