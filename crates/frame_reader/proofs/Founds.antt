-- What a `Found` is, where one arm of a match has two of its cases.
-- Assumes nothing.
use mathlib.Core.Path.{◌≡◌, refl, subst, ap, ◌∙◌}
use mathlib.Core.Bool.{true}
use mathlib.Core.List.{List, [], ◌∷◌, ◌++◌}
use mathlib.Core.Logic.{◌⊎◌, inl, inr}
use Prim.Native.Nat.{ℕ, ◌+◌, ◌-◌, ◌≤◌}
use native.Mathlib.Omega.{arith}
use lib.ListN.{length, replicate, length-append, length-replicate}
use types.Run.{OneOf}
use denote.Enum.Declared.{tag_of}
use Rattle.frame_fields.specs.Rows.{unpack}
use Rattle.frame_fields.specs.Layouts.{fields, widths, free_values}
use Rattle.frame_form.specs.declared.Form.{Form}
use Rattle.frame_form.specs.Forms.{is_uplink}
use Rattle.frame_kinds.specs.declared.Kind.{Kind}
use Rattle.frame_kinds.specs.Kinds.{layout_of, route_layout}
use Rattle.frame_kinds.specs.contracts.Found.{the_type}
use Rattle.frame_kinds.specs.declared.Found.{Found}
use Rattle.frame_kinds.specs.declared.Found.TheVariants.{Known, Route, Unknown}
use Rattle.frame_kinds.proofs.Table.{values-nine}
use Rattle.frame_reader.specs.Parts.{layout_for, row_by, head_by, strings_of, spots, places_by, found_number}

neither : (a b c : ℕ) → (a ≡ b → ⊥) → (a ≡ c → ⊥) → (a ≡ b) ⊎ (a ≡ c) → ⊥
neither a b c f g (inl e) = f e
neither a b c f g (inr e) = g e

pub not-unknown : (f : Found) → OneOf (0 ∷ 1 ∷ []) (tag_of the_type f) → f ≡ Unknown → ⊥
not-unknown f o e = neither 2 0 1 (λ q. omega (arith, q)) (λ q. omega (arith, q)) (subst (λ (x : Found). OneOf (0 ∷ 1 ∷ []) (tag_of the_type x)) e o)

-- ROUTE, and where nothing was found
pub other-head : (form : Form) (f : Found) (seg : ℕ) (frame : List ℕ) → ((k : Kind) → f ≡ Known k → ⊥)
    → head_by 0 (row_by route_layout) frame ≡ head_by seg (row_by (layout_for form f)) frame
unfolding head_by row_by
other-head form Route seg frame o = refl
other-head form Unknown seg frame o = refl
other-head form (Known k) seg frame o = absurd (o k refl)

pub other-strings : (f : Found) → ((k : Kind) → f ≡ Known k → ⊥) → true ≡ strings_of f
other-strings Route o = refl
other-strings Unknown o = refl
other-strings (Known k) o = absurd (o k refl)

pub strings-are : (form : Form) (f : Found) → strings_of f ≡ (layout_for form f).strings
strings-are form Route = refl
strings-are form Unknown = refl
strings-are form (Known k) = refl

pub other-number : (f : Found) → ((k : Kind) → f ≡ Known k → ⊥) → 12 ≡ found_number f
other-number Route o = refl
other-number Unknown o = refl
other-number (Known k) o = absurd (o k refl)

pub other-places : (form : Form) (f : Found) (h : ℕ) → ((k : Kind) → f ≡ Known k → ⊥)
    → spots h 0x0908000000000000 0x0101080000000000 0 ≡ places_by (layout_for form f) h
other-places form Route h o = refl
other-places form Unknown h o = refl
other-places form (Known k) h o = absurd (o k refl)

-- ---- the places of what was found

nine-length : (vs : List ℕ) → length vs ≤ 9 → length (vs ++ replicate (9 - length vs) 0) ≡ 9
nine-length vs few =
    let e = length-append vs (replicate (9 - length vs) 0) ∙ ap (λ (x : ℕ). length vs + x) (length-replicate {A = ℕ} (9 - length vs) 0) in
    omega (arith, e)

pub places-length : (form : Form) (found : Found) (h : ℕ) → length (places_by (layout_for form found) h) ≡ 9
places-length form (Known k) h =
    let l = layout_of form k in
    nine-length (free_values (fields l) (unpack (widths (fields l)) h)) (values-nine (is_uplink form) k (unpack (widths (fields (layout_of form k))) h))
places-length form Route h = refl
places-length form Unknown h = refl
