-- The frames of a file that opens, by its offsets.
-- Assumes nothing.
use mathlib.Core.Path.{◌≡◌, refl, sym, ap, ap₂, ◌∙◌}
use mathlib.Core.Bool.{true}
use mathlib.Core.List.{List, ◌∷◌}
use Prim.Native.Nat.{ℕ, zero, suc, ◌+◌, ◌-◌, ◌*◌, ◌≤◌}
use native.Mathlib.Omega.{arith}
use lib.Dec.{leb}
use lib.ListN.{length, drop}
use lib.Seq.{drop-drop}
use borrow.Author.Tests.{leb-true}
use Rattle.refusal.proofs.Checks.{both_true}
use Rattle.lists.specs.Frames.{parts_of}
use Rattle.capture.specs.Files.{numbers_in}
use Rattle.capture.specs.Opening.{number_at, count_in, offset_at, none_falls, last_offset, steps_from, place_in, part_at, frames_from}
use Rattle.capture.proofs.Opening.{is-there}
use Rattle.capture_claims.proofs.Offsets.{first-most}
use Rattle.capture_claims.proofs.Files.{IsOpen}

-- the offsets after that of frame i, n of them
abbrev pub rest : List ℕ → ℕ → ℕ → List ℕ
rest file i n = numbers_in n (drop (12 + 4 * i) file)

-- they do not fall, and the last is the file's end
pub record At (file : List ℕ) (i n : ℕ) : Type 0 where
  pub rise : none_falls (offset_at file i) (rest file i n) ≡ true
  pub last : last_offset (offset_at file i) (rest file i n) ≡ length file

module _ (file : List ℕ) where
  rest-here : (i n : ℕ) → rest file i (suc n) ≡ offset_at file (suc i) ∷ rest file (suc i) n
  unfolding numbers_in
  rest-here i n =
      let a : 12 + 4 * i ≡ 8 + 4 * suc i = omega arith in
      let b : 12 + 4 * i + 4 ≡ 12 + 4 * suc i = omega arith in
      ap₂ (λ (x : ℕ) (ys : List ℕ). x ∷ numbers_in n ys) (ap (number_at file) a) (drop-drop 4 (12 + 4 * i) file ∙ ap (λ (k : ℕ). drop k file) b)

  pub at_next : (i n : ℕ) → At file i (suc n) → (offset_at file i ≤ offset_at file (suc i)) × At file (suc i) n
  unfolding none_falls last_offset
  at_next i n v =
      let t = both_true (leb (offset_at file i) (offset_at file (suc i))) (none_falls (offset_at file (suc i)) (rest file (suc i) n)) (ap (none_falls (offset_at file i)) (sym (rest-here i n)) ∙ v.rise) in
      (leb-true (offset_at file i) (offset_at file (suc i)) t.0, record { rise = t.1; last = ap (last_offset (offset_at file i)) (sym (rest-here i n)) ∙ v.last })

  module _ (v : IsOpen file) where
    pub at_place : (i n : ℕ) → i + n ≡ count_in file → At file i n
    at_place zero n e =
        let q : n ≡ count_in file = omega (arith, e) in
        record {
          rise = ap (λ (k : ℕ). none_falls (offset_at file 0) (numbers_in k (drop 12 file))) q ∙ v.rise;
          last = ap (λ (k : ℕ). last_offset (offset_at file 0) (numbers_in k (drop 12 file))) q ∙ v.last;
        }
    at_place (suc i) n e = (at_next i n (at_place i (suc n) (omega (arith, e)))).1

    -- frame i is between its offsets
    pub record Lies (i : ℕ) : Type 0 where
      pub rises : offset_at file i ≤ offset_at file (suc i)
      pub inside : offset_at file (suc i) ≤ length file
      pub is : place_in file i ≡ record { at = offset_at file i; len = offset_at file (suc i) - offset_at file i }

    pub lies : (i n : ℕ) → i + suc n ≡ count_in file → Lies i
    lies i n e =
        let s = at_next i n (at_place i (suc n) e) in
        let k : 8 + 4 * i + 4 ≡ 8 + 4 * suc i = omega arith in
        let inside : offset_at file (suc i) ≤ length file = omega (arith, first-most (offset_at file (suc i)) (rest file (suc i) n) s.1.rise, s.1.last) in
        record {
          rises = s.0;
          inside = inside;
          is = sym (is-there file i (offset_at file i) (offset_at file (suc i)) refl (sym (ap (number_at file) k)) (omega (arith, e)) (omega (arith, e, v.header)) s.0 inside);
        }

    pub frames-are : (n i : ℕ) → i + n ≡ count_in file → frames_from file i n ≡ parts_of (steps_from (offset_at file i) (rest file i n)) (drop (offset_at file i) file)
    unfolding frames_from steps_from numbers_in
    frames-are zero i e = refl
    frames-are (suc n) i e =
        let l = lies i n e in
        let a = offset_at file i in
        let b = offset_at file (suc i) in
        let k : a + (b - a) ≡ b = omega (arith, l.rises) in
        let next : drop (b - a) (drop a file) ≡ drop b file = drop-drop (b - a) a file ∙ ap (λ (x : ℕ). drop x file) k in
        ap₂ (λ (x : List ℕ) (xs : List (List ℕ)). x ∷ xs) (ap (part_at file) l.is)
        (frames-are n (suc i) (omega (arith, e)) ∙ ap (parts_of (steps_from b (rest file (suc i) n))) (sym next))
        ∙ ap (λ (os : List ℕ). parts_of (steps_from a os) (drop a file)) (sym (rest-here i n))
