-- The table of kinds: each layout is sound, and a header is known by its first byte.
-- Assumes nothing.
use mathlib.Core.Path.{◌≡◌, refl, sym, ap, ◌∙◌}
use mathlib.Core.Bool.{Bool, true, ◌||◌, not}
use mathlib.Core.List.{List, [], ◌∷◌}
use Prim.Native.Nat.{ℕ, ◌-◌, ◌/◌, ◌^◌, ◌≤◌}
use native.Mathlib.Omega.{arith}
use lib.Dec.{eqb}
use lib.ListN.{length}
use borrow.Author.Tests.{eqb-true, eq-eqb}
use Rattle.refusal.proofs.Checks.{both_true}
use Rattle.frame_fields.specs.Layouts.{Field, fixed, free, lv, fields, has_lv, free_values, tag_width, tag}
use Rattle.frame_fields.proofs.Ends.{ends_in_lv}
use Rattle.frame_fields.proofs.Tags.{Sound, is_sound, sound-if, apart, opens_not, distinct, opens-other}
use Rattle.frame_form.specs.declared.Form.{Form}
use Rattle.frame_form.specs.Forms.{is_uplink}
use Rattle.frame_kinds.specs.declared.Kind.{Kind}
use Rattle.frame_kinds.specs.declared.Found.TheVariants.{Known, Route}
use Rattle.frame_kinds.specs.Kinds.{lead_of, layout_in, layout_of, route_layout, kinds, first_named, kind_number, free_count, value_count}
use Rattle.frame_kinds.proofs.Every.{Named, here, there, every, for-both}
use Rattle.frame_kinds.proofs.Stored.{values-few}

-- the layout of every kind in each direction
pub sound-in : (up : Bool) (k : Kind) → Sound 15 (layout_in up k)
sound-in up k = sound-if 15 (layout_in up k) (for-both (λ (way : Bool) (j : Kind). is_sound 15 (layout_in way j)) refl up k)

pub sound : (form : Form) (k : Kind) → Sound 15 (layout_of form k)
sound form k = sound-in (is_uplink form) k

-- both directions of a kind have as many values
pub count-in : (up : Bool) (k : Kind) → free_count (fields (layout_in up k)) ≡ value_count k
count-in up k = eqb-true _ _ (for-both (λ (way : Bool) (j : Kind). eqb (free_count (fields (layout_in way j))) (value_count j)) refl up k)

-- LV, where there is one, is the header's last field
pub ends-in : (up : Bool) (k : Kind) → has_lv (fields (layout_in up k)) ≡ true → ends_in_lv (fields (layout_in up k)) ≡ true
ends-in up k e =
    let fs = fields (layout_in up k) in
    sym (ap (λ (x : Bool). not x || ends_in_lv fs) e)
    ∙ for-both (λ (way : Bool) (j : Kind). not (has_lv (fields (layout_in way j))) || ends_in_lv (fields (layout_in way j))) refl up k

-- there are no more values than free fields, so nine at most
pub free-length : (fs : List Field) (xs : List ℕ) → length (free_values fs xs) ≤ free_count fs
free-length [] xs = omega arith
free-length (fixed w v ∷ fs) [] = omega arith
free-length (free w ∷ fs) [] = omega arith
free-length (lv w ∷ fs) [] = omega arith
free-length (fixed w v ∷ fs) (x ∷ xs) = free-length fs xs
free-length (free w ∷ fs) (x ∷ xs) = let ih = free-length fs xs in omega (arith, ih)
free-length (lv w ∷ fs) (x ∷ xs) = free-length fs xs

pub values-nine : (up : Bool) (k : Kind) (xs : List ℕ) → length (free_values (fields (layout_in up k)) xs) ≤ 9
values-nine up k xs = omega (arith, free-length (fields (layout_in up k)) xs, count-in up k, values-few k)

-- a first byte that opens with a kind's bits names it
pub found : (ks : List Kind) (k : Kind) (b : ℕ) → Named ks k → b / 2 ^ (8 - tag_width (lead_of k)) ≡ tag (lead_of k) → first_named ks b ≡ Known k
found ks k b here e = rw (eq-eqb (b / 2 ^ (8 - tag_width (lead_of k))) (tag (lead_of k)) e)
found ks k b (there {j = j} {ks = rest} d n) e =
    let a = (both_true (apart (lead_of j) (lead_of k)) (not (eqb (kind_number k) (kind_number j))) d).0 in
    rw (opens_not (lead_of j) (lead_of k) b (sound-in true k).short a e) (found rest k b n e)

pub sound-route : Sound 15 route_layout
sound-route = sound-if 15 route_layout refl

-- a byte that opens with other bits names none of the kinds
none_named : (ks : List Kind) (lead : List Field) (b : ℕ) → tag_width lead ≤ 8 → every (λ (k : Kind). distinct (lead_of k) lead) ks ≡ true
    → b / 2 ^ (8 - tag_width lead) ≡ tag lead → first_named ks b ≡ first_named [] b
none_named [] lead b short a e = refl
none_named (k ∷ ks) lead b short a e =
    let p = both_true (distinct (lead_of k) lead) (every (λ (j : Kind). distinct (lead_of j) lead) ks) a in
    rw (opens-other (lead_of k) lead b (sound-in true k).short short p.0 e) (none_named ks lead b short p.1 e)

-- the first bits of ROUTE name it
pub route-found : (b : ℕ) → b / 4 ≡ 28 → first_named kinds b ≡ Route
route-found b e = none_named kinds route_layout.kind b sound-route.short refl e ∙ rw (eq-eqb (b / 4) 28 e)
