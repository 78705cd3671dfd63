-- LV as the last field of a header, in its last four bits.
-- Assumes nothing.
use mathlib.Core.Path.{◌≡◌, sym, ap, ◌∙◌}
use mathlib.Core.Bool.{Bool, true, false, true≢false}
use mathlib.Core.List.{List, [], ◌∷◌}
use Prim.Native.Nat.{ℕ, ◌/◌, ◌%◌, ◌^◌}
use native.Mathlib.Nat.{div-one}
use lib.Dec.{eqb}
use borrow.Author.Tests.{eqb-true}
use Rattle.frame_fields.specs.Rows.{unpack}
use Rattle.frame_fields.specs.Layouts.{Field, fixed, free, lv, widths, lv_in}

-- whether the first LV field is the last field, and has four bits
abbrev pub ends_in_lv : List Field → Bool
ends_in_lv [] = false
ends_in_lv (fixed w v ∷ fs) = ends_in_lv fs
ends_in_lv (free w ∷ fs) = ends_in_lv fs
ends_in_lv (lv w ∷ []) = eqb w 4
ends_in_lv (lv w ∷ f ∷ fs) = false

pub lv-ends : (fs : List Field) (h : ℕ) → ends_in_lv fs ≡ true → lv_in fs (unpack (widths fs) h) ≡ h % 16
lv-ends [] h e = absurd (true≢false (sym e))
lv-ends (fixed w v ∷ fs) h e = lv-ends fs h e
lv-ends (free w ∷ fs) h e = lv-ends fs h e
lv-ends (lv w ∷ []) h e = ap (λ (x : ℕ). h / 1 % 2 ^ x) (eqb-true w 4 e) ∙ ap (λ (x : ℕ). x % 16) (div-one h)
lv-ends (lv w ∷ f ∷ fs) h e = absurd (true≢false (sym e))
