-- The nine places of a packet: what a row of the table makes of them is the header of the kind, if
-- the row has the numbers that the kind's fields give.
-- Assumes nothing.
use mathlib.Core.Path.{◌≡◌, refl, sym, ap, ap₂, ◌∙◌}
use mathlib.Core.Bool.{Bool, true, false, cond, ◌&&◌, ◌||◌, and_assoc, and_comm, and-true}
use mathlib.Core.List.{List, [], ◌∷◌, ◌++◌}
use Prim.Native.Nat.{ℕ, zero, suc, ◌+◌, ◌-◌, ◌*◌, ◌^◌, ◌<◌}
use native.Mathlib.Nat.{zero-mul}
use native.Mathlib.Omega.{arith}
use lib.Dec.{eqb, ltb}
use lib.ListN.{length, take, drop, replicate, length-drop}
use borrow.Author.Tests.{eqb-true, ne_eqb, ltb-true, le-ltb}
use Rattle.refusal.proofs.Checks.{both_true}
use Rattle.frame_fields.specs.Layouts.{Field, fixed, free, lv, Layout, fields, has_lv, within, header_number}
use Rattle.frame_fields.specs.Masks.{want}
use Rattle.frame_fields.proofs.Sums.{free_only, free_shifts, lv_weight, placed, number-sum, shift_count, within-parts, placed-parts}
use Rattle.frame_form.specs.declared.Form.{Form}
use Rattle.frame_form.specs.Forms.{is_uplink}
use Rattle.frame_form.specs.Frames.{all_zero}
use Rattle.frame_kinds.specs.declared.Kind.{Kind}
use Rattle.frame_kinds.specs.Kinds.{layout_in, layout_of, free_count, value_count}
use Rattle.frame_kinds.proofs.Table.{count-in}
use Rattle.frame_writer.specs.declared.Made.{Made}
use Rattle.frame_writer.specs.Writing.{values_fit, places_fit}
use Rattle.frame_writer.specs.Parts.{widths_in, shifts_in, frees, in_place, sum_at, Row, Heading}

-- nine tests, joined as the code and as the definitions join them
joined : (a b c d e f g h i : Bool) → (a && b && c && d && e && f && g && h && i) ≡ (a && (b && (c && (d && (e && (f && (g && (h && (i && true)))))))))
joined a b c d e f g h i = simp (and_assoc, and-true)

-- ---- a row's numbers

-- a row, or what a row has to be: the length, the fixed bits, LV, what a 1 in LV counts, and for
-- each of the nine places the bits below it and its field
pub record Numbers : Type 0 where
  pub bytes : ℕ
  pub first : ℕ
  pub ends : Bool
  pub weight : ℕ
  pub shifts : List ℕ
  pub places : List Field

-- those of a row
abbrev pub given : ℕ → ℕ → Bool → ℕ → ℕ → Numbers
given bytes first ends shifts widths =
    record { bytes = bytes; first = first * 2 ^ (8 * bytes - 8); ends = ends; weight = cond ends 1 0; shifts = shifts_in shifts; places = frees (widths_in widths) }

-- those that a layout asks for: a place that it has no use for is a field of 0 bits
abbrev pub asked : Layout → Numbers
asked l =
    let fs = fields l in
    let none = 9 - length (free_only fs) in
    record { bytes = l.size; first = want fs; ends = has_lv fs; weight = lv_weight fs; shifts = free_shifts fs ++ replicate none 0; places = free_only fs ++ replicate none (free 0) }

-- ---- places without a use

free-count : (fs : List Field) → length (free_only fs) ≡ free_count fs
free-count [] = refl
free-count (fixed w v ∷ fs) = free-count fs
free-count (free w ∷ fs) = ap suc (free-count fs)
free-count (lv w ∷ fs) = free-count fs

-- a field of 0 bits holds 0 alone
no_bits : (v : ℕ) → ltb v (2 ^ 0) ≡ eqb v 0
no_bits zero = refl
no_bits (suc v) = le-ltb (suc v) 1 (omega arith) ∙ sym (ne_eqb (suc v) 0 (λ e. omega arith))

zeros_within : (n : ℕ) (vs : List ℕ) → length vs ≡ n → within (replicate n (free 0)) vs ≡ all_zero vs
zeros_within zero [] e = refl
zeros_within zero (v ∷ vs) e = absurd (omega arith)
zeros_within (suc n) [] e = absurd (omega arith)
zeros_within (suc n) (v ∷ vs) e = ap₂ ◌&&◌ (no_bits v) (zeros_within n vs (omega arith))

zeros-placed : (n : ℕ) (vs : List ℕ) → all_zero vs ≡ true → placed (replicate n 0) vs ≡ 0
zeros-placed zero vs e = refl
zeros-placed (suc n) [] e = refl
zeros-placed (suc n) (v ∷ vs) e =
    let p = both_true (eqb v 0) (all_zero vs) e in
    omega (arith, eqb-true v 0 p.0, zeros-placed n vs p.1)

-- values that fit their fields are placed whole
in_place_lem : (v s w : ℕ) → v < 2 ^ w → in_place v s w ≡ v * 2 ^ s
in_place_lem v s zero h = let z : v ≡ 0 = omega arith in sym (ap (λ (x : ℕ). x * 2 ^ s) z ∙ zero-mul (2 ^ s))
in_place_lem v s (suc w) h = ap (λ (b : Bool). cond b 0 (v * 2 ^ s)) (ne_eqb (suc w) 0 (λ e. omega arith))

sum-placed : (ss ws vs : List ℕ) → within (frees ws) vs ≡ true → sum_at ss ws vs ≡ placed ss vs
sum-placed [] ws vs e = refl
sum-placed (s ∷ ss) [] [] e = refl
sum-placed (s ∷ ss) [] (v ∷ vs) e = let z : ◌≡◌ {A = ℕ} 0 1 = cc in absurd (omega arith)
sum-placed (s ∷ ss) (w ∷ ws) [] e = refl
sum-placed (s ∷ ss) (w ∷ ws) (v ∷ vs) e =
    let p = both_true (ltb v (2 ^ w)) (within (frees ws) vs) e in
    ap₂ ◌+◌ (in_place_lem v s w (ltb-true v (2 ^ w) p.0)) (sum-placed ss ws vs p.1)

-- LV by its weight
weighed : (e : Bool) (u : ℕ) → cond e u 0 ≡ u * cond e 1 0
weighed true u = omega arith
weighed false u = omega arith

swapped : (a z u : Bool) → ((a && z) && u) ≡ ((a && u) && z)
swapped a z u = and_assoc a z u ∙ ap (λ (b : Bool). a && b) (and_comm z u) ∙ sym (and_assoc a u z)

-- ---- a row with the numbers of its kind

module _ (up : Bool) (k : Kind) (places : List ℕ) (nine : length places ≡ 9) where
  abbrev fs : List Field
  fs = fields (layout_in up k)

  abbrev values : List ℕ
  values = take (value_count k) places

  abbrev others : List ℕ
  others = drop (value_count k) places

  count : length (free_only fs) ≡ value_count k
  count = free-count fs ∙ count-in up k

  row_within : within (asked (layout_in up k)).places places ≡ (within fs values && all_zero others)
  row_within =
      let c = length (free_only fs) in
      within-parts fs (replicate (9 - c) (free 0)) places
      ∙ ap (λ (b : Bool). within fs (take c places) && b) (zeros_within (9 - c) (drop c places) (length-drop c places ∙ ap (λ (n : ℕ). n - c) nine))
      ∙ ap (λ (n : ℕ). within fs (take n places) && all_zero (drop n places)) count

  row-placed : all_zero others ≡ true → placed (asked (layout_in up k)).shifts places ≡ placed (free_shifts fs) values
  row-placed z =
      let n = 9 - length (free_only fs) in
      placed-parts (free_shifts fs) (replicate n 0) places
      ∙ ap (λ (c : ℕ). placed (free_shifts fs) (take c places) + placed (replicate n 0) (drop c places)) (shift_count fs ∙ count)
      ∙ omega (arith, zeros-placed n others z)

  -- a row with these numbers is the kind's
  module _ (user : ℕ) (m : Made) (b f : ℕ) (e : Bool) (ss ws : ℕ) (row : Row b f e ss ws places user m) (same : given b f e ss ws ≡ asked (layout_in up k)) where
    fit_row : m.fits ≡ (within fs values && all_zero others && (has_lv fs || eqb user 0))
    fit_row =
        row.fits
        ∙ ap (λ (n : Numbers). within n.places places && (n.ends || eqb user 0)) same
        ∙ ap (λ (t : Bool). t && (has_lv fs || eqb user 0)) row_within

    number-row : m.fits ≡ true → (u : ℕ) → m.number + cond m.lv u 0 ≡ header_number (layout_in up k) u values
    number-row ok u =
        let t = (both_true (within (frees (widths_in ws)) places) (e || eqb user 0) (sym row.fits ∙ ok)).0 in
        let z = (both_true (within fs values) (all_zero others) (both_true (within fs values && all_zero others) (has_lv fs || eqb user 0) (sym fit_row ∙ ok)).0).1 in
        let n : m.number ≡ want fs + placed (free_shifts fs) values =
        row.number
        ∙ ap (λ (x : ℕ). f * 2 ^ (8 * b - 8) + x) (sum-placed (shifts_in ss) (widths_in ws) places t)
        ∙ ap (λ (x : Numbers). x.first + placed x.shifts places) same
        ∙ ap (λ (x : ℕ). want fs + x) (row-placed z) in
        let l : cond m.lv u 0 ≡ u * lv_weight fs =
        ap (λ (t : Bool). cond t u 0) row.lv ∙ weighed e u ∙ ap (λ (x : Numbers). u * x.weight) same in
        ap₂ ◌+◌ n l ∙ sym (number-sum u fs values)

    -- in a form of that direction
    pub heading : (form : Form) → is_uplink form ≡ up → Heading form k places user m
    unfolding places_fit values_fit
    heading form way =
        let same_layout : layout_of form k ≡ layout_in up k = ap (λ (x : Bool). layout_in x k) way in
        record {
          fits = fit_row ∙ swapped (within fs values) (all_zero others) (has_lv fs || eqb user 0)
              ∙ ap (λ (l : Layout). (within (fields l) values && (has_lv (fields l) || eqb user 0)) && all_zero others) (sym same_layout);
          size = row.size ∙ ap (λ (x : Numbers). x.bytes) same;
          lv = row.lv ∙ ap (λ (x : Numbers). x.ends) same ∙ ap (λ (l : Layout). has_lv (fields l)) (sym same_layout);
          number = λ ok u. number-row ok u ∙ ap (λ (l : Layout). header_number l u values) (sym same_layout);
          few = row.few;
        }
