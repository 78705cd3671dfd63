-- The number of a kind names it, and ten bytes hold its values.
-- Assumes nothing.
use mathlib.Core.Path.{◌≡◌, refl, ap, ◌∙◌}
use mathlib.Core.Bool.{false, ◌&&◌, not}
use mathlib.Core.List.{List}
use Prim.Native.Nat.{ℕ, ◌+◌, ◌-◌, ◌≤◌}
use native.Mathlib.Omega.{arith}
use lib.Dec.{leb, eqb}
use lib.ListN.{length, replicate, length-append, length-replicate}
use borrow.Author.Tests.{leb-true, eq-eqb, not-true}
use Rattle.refusal.proofs.Checks.{both_true}
use Rattle.frame_fields.proofs.Tags.{apart}
use Rattle.frame_kinds.specs.declared.Kind.{Kind}
use Rattle.frame_kinds.specs.declared.Found.TheVariants.{Known, Route}
use Rattle.frame_kinds.specs.Kinds.{lead_of, size_of, kinds, kind_number, route_number, first_numbered, kind_at, value_count, ten_of}
use Rattle.frame_kinds.proofs.Every.{Named, here, there, in_table, for-all}

numbered : (ks : List Kind) (k : Kind) → Named ks k → first_numbered ks (kind_number k) ≡ Known k
numbered ks k (here {ks = rest}) = rw (eq-eqb (kind_number k) (kind_number k) refl)
numbered ks k (there {j = j} {ks = rest} d n) =
    let other = (both_true (apart (lead_of j) (lead_of k)) (not (eqb (kind_number k) (kind_number j))) d).1 in
    rw (not-true (eqb (kind_number k) (kind_number j)) other) (numbered rest k n)

pub number-back : (k : Kind) → kind_at (kind_number k) ≡ Known k
unfolding kind_at
number-back k = numbered kinds k (in_table k)

pub route-back : kind_at route_number ≡ Route
unfolding kind_at
route-back = refl

-- no kind has the number of ROUTE
pub not-route : (k : Kind) → eqb (kind_number k) route_number ≡ false
not-route k = not-true (eqb (kind_number k) route_number) (for-all (λ (j : Kind). not (eqb (kind_number j) route_number)) refl k)

-- a header has 1 to 7 bytes
pub header-few : (k : Kind) → (1 ≤ size_of k) × (size_of k ≤ 7)
header-few k =
    let t = both_true (leb 1 (size_of k)) (leb (size_of k) 7) (for-all (λ (j : Kind). leb 1 (size_of j) && leb (size_of j) 7) refl k) in
    (leb-true 1 (size_of k) t.0, leb-true (size_of k) 7 t.1)

-- no kind has more than nine values
pub values-few : (k : Kind) → value_count k ≤ 9
values-few k = leb-true (value_count k) 9 (for-all (λ (j : Kind). leb (value_count j) 9) refl k)

pub ten-length : (n : ℕ) (values : List ℕ) → length values ≤ 9 → length (ten_of n values) ≡ 10
unfolding ten_of
ten-length n values few =
    let e = length-append values (replicate (9 - length values) 0) ∙ ap (λ (x : ℕ). length values + x) (length-replicate {A = ℕ} (9 - length values) 0) in
    omega (arith, e)
