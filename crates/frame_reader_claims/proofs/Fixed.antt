-- The first wrong field: `first_wrong` names the byte of a wrong field, and no wrong field is in a
-- byte before it.
-- Assumes nothing.
use mathlib.Core.Path.{◌≡◌, refl, ap}
use mathlib.Core.Bool.{Bool, true, false, cond}
use mathlib.Core.List.{List, [], ◌∷◌}
use Prim.Native.Nat.{ℕ, ◌+◌, ◌*◌, ◌/◌, ◌<◌, ◌≤◌}
use native.Mathlib.Omega.{arith}
use lib.Dec.{eqb}
use borrow.Author.Tests.{eqb-false, ne_eqb}
use Rattle.frame_fields.specs.Rows.{total}
use Rattle.frame_fields.specs.Layouts.{Field, fixed, free, lv, widths, first_wrong}
use Rattle.frame_fields.specs.Masks.{in_bytes}
use Rattle.frame_fields.proofs.Headers.{fixed-parts}
use Rattle.frame_reader_claims.specs.Wrong.{width_of, WrongField}
use Rattle.frame_reader_claims.specs.Wrong.WrongField.{here, there}

-- the byte that is named holds a wrong field
pub field-named : (fs : List Field) (bit none : ℕ) (xs : List ℕ) → first_wrong fs bit xs none < none → WrongField fs bit xs (first_wrong fs bit xs none)
field-named [] bit none xs h = absurd (omega arith)
field-named (fixed w v ∷ fs) bit none [] h = absurd (omega arith)
field-named (free w ∷ fs) bit none [] h = absurd (omega arith)
field-named (lv w ∷ fs) bit none [] h = absurd (omega arith)
field-named (free w ∷ fs) bit none (x ∷ xs) h = there (field-named fs (bit + w) none xs h)
field-named (lv w ∷ fs) bit none (x ∷ xs) h = there (field-named fs (bit + w) none xs h)
field-named (fixed w v ∷ fs) bit none (x ∷ xs) h = go (λ l. field-named fs (bit + w) none xs l) (eqb x v) refl h
  where
    go : (first_wrong fs (bit + w) xs none < none → WrongField fs (bit + w) xs (first_wrong fs (bit + w) xs none))
        → (t : Bool) → eqb x v ≡ t → cond t (first_wrong fs (bit + w) xs none) (bit / 8) < none
        → WrongField (fixed w v ∷ fs) bit (x ∷ xs) (cond t (first_wrong fs (bit + w) xs none) (bit / 8))
    go rest true e l = there (rest l)
    go rest false e l = here (eqb-false x v e)

-- a wrong field is in a byte of the header, and not before the byte that is named
pub record After (fs : List Field) (bit none : ℕ) (xs : List ℕ) (i : ℕ) : Type 0 where
  pub from : bit / 8 ≤ i
  pub least : first_wrong fs bit xs none ≤ i
  pub within : i < none

-- the bits and the rule of bytes for the fields after the first one, of whatever kind it is
total-step : (f : Field) (fs : List Field) → total (widths (f ∷ fs)) ≡ width_of f + total (widths fs)
total-step (fixed w v) fs = refl
total-step (free w) fs = refl
total-step (lv w) fs = refl

bytes-step : (f : Field) (fs : List Field) (bit : ℕ) → in_bytes (f ∷ fs) bit ≡ true → in_bytes fs (bit + width_of f) ≡ true
bytes-step (fixed w v) fs bit b = (fixed-parts w v bit fs b).3
bytes-step (free w) fs bit b = b
bytes-step (lv w) fs bit b = b

-- with one more field in front, that field is named or what was named
named_step : (f : Field) (fs : List Field) (bit none : ℕ) (x : ℕ) (xs : List ℕ) (i : ℕ) → After fs (bit + width_of f) none xs i
    → first_wrong (f ∷ fs) bit (x ∷ xs) none ≤ i
named_step (fixed w v) fs bit none x xs i a = go (eqb x v)
  where
    go : (t : Bool) → cond t (first_wrong fs (bit + w) xs none) (bit / 8) ≤ i
    go true = a.least
    go false = omega (arith, a.from)
named_step (free w) fs bit none x xs i a = a.least
named_step (lv w) fs bit none x xs i a = a.least

pub wrong-after : (fs : List Field) (bit none : ℕ) (xs : List ℕ) (i : ℕ) → in_bytes fs bit ≡ true → bit + total (widths fs) ≤ 8 * none
    → WrongField fs bit xs i → After fs bit none xs i
wrong-after all bit none ys i b r (here {w = w} {v = v} {x = x} {fs = fs} {xs = xs} ne) =
    let p = fixed-parts w v bit fs b in
    let named : first_wrong (fixed w v ∷ fs) bit (x ∷ xs) none ≡ bit / 8 = ap (λ (t : Bool). cond t (first_wrong fs (bit + w) xs none) (bit / 8)) (ne_eqb x v ne) in
    record { from = omega arith; least = omega (arith, named); within = omega (arith, p.0) }
wrong-after all bit none ys i b r (there {f = f} {x = x} {fs = fs} {xs = xs} h) =
    let a = wrong-after fs (bit + width_of f) none xs i (bytes-step f fs bit b) (omega (arith, total-step f fs)) h in
    record { from = omega (arith, a.from); least = named_step f fs bit none x xs i a; within = a.within }
