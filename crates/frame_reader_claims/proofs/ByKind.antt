-- Wrong bytes of a frame by its kind, found or not: the laws of one layout, for every first byte.
-- Assumes nothing.
use mathlib.Core.Path.{◌≡◌, sym, ap, subst}
use mathlib.Core.Bool.{true}
use mathlib.Core.List.{List}
use Prim.Native.Nat.{ℕ, suc, ◌<◌, ◌≤◌}
use native.Mathlib.Omega.{arith}
use lib.ListN.{length, take}
use Rattle.frame_fields.specs.Rows.{AreBytes}
use Rattle.frame_form.specs.declared.Form.{Form}
use Rattle.frame_form.specs.Forms.{seg_of}
use Rattle.frame_form.specs.Segments.{whole_segments}
use Rattle.frame_form.proofs.Segments.{whole-some}
use Rattle.frame_form.proofs.Forms.{segment-seven, segment-some}
use Rattle.frame_kinds.specs.declared.Found.{Found}
use Rattle.frame_kinds.specs.declared.Found.TheVariants.{Known, Route, Unknown}
use Rattle.frame_kinds.specs.Kinds.{layout_of, route_layout, kinds, first_named}
use Rattle.frame_reader.specs.Reading.{found_in, fault_of}
use Rattle.frame_reader_claims.specs.Wrong.{BadAt}
use Rattle.frame_reader_claims.specs.Wrong.BadAt.{of-kind, of-route, of_none}
use Rattle.frame_reader_claims.proofs.Agreeing.{same_byte}
use Rattle.frame_reader_claims.proofs.Holding.{laid-kind, laid-route}
use Rattle.frame_reader_claims.proofs.Least.{wrong-inside, wrong-least, fault-wrong}
use Rattle.frame_reader_claims.proofs.Front.{wrong-front}

-- a frame of whole segments
module _ (form : Form) (frame : List ℕ) (whole : whole_segments (seg_of form) (length frame) ≡ true) where
  -- a wrong byte is in the frame
  pub bad-inside : (found : Found) (i : ℕ) → BadAt form frame found i → i < length frame
  bad-inside found i (of-kind {k = k} h) = wrong-inside (seg_of form) (layout_of form k) (laid-kind form k) frame (segment-seven form) whole i h
  bad-inside found i (of-route h) = wrong-inside (seg_of form) route_layout laid-route frame (segment-seven form) whole i h
  bad-inside found i of_none = omega (arith, segment-seven form, whole-some (seg_of form) (length frame) (segment-some form) whole)

  -- it is not before the first fault
  pub bad-least : (found : Found) (i : ℕ) → BadAt form frame found i → fault_of found form frame ≤ i
  bad-least found i (of-kind {k = k} h) = wrong-least (seg_of form) (layout_of form k) (laid-kind form k) frame (segment-seven form) whole i h
  bad-least found i (of-route h) = wrong-least (seg_of form) route_layout laid-route frame (segment-seven form) whole i h
  bad-least found i of_none = omega arith

  -- the first fault, if it is one, is a wrong byte
  pub fault-bad : (found : Found) → (fault_of found form frame ≡ length frame → ⊥) → BadAt form frame found (fault_of found form frame)
  fault-bad (Known k) ne = of-kind (fault-wrong (seg_of form) (layout_of form k) (laid-kind form k) frame (segment-seven form) whole ne)
  fault-bad Route ne = of-route (fault-wrong (seg_of form) route_layout laid-route frame (segment-seven form) whole ne)
  fault-bad Unknown ne = of_none

  -- and a wrong byte is wrong in every frame of the same length that agrees up to it
  bad-by : (other : List ℕ) (found : Found) (i : ℕ) → AreBytes frame → AreBytes other → length other ≡ length frame → take (suc i) other ≡ take (suc i) frame
      → BadAt form frame found i → BadAt form other found i
  bad-by other found i are also len e (of-kind {k = k} h) = of-kind (wrong-front (seg_of form) (layout_of form k) (laid-kind form k) frame other (segment-seven form) whole i are also len e h)
  bad-by other found i are also len e (of-route h) = of-route (wrong-front (seg_of form) route_layout laid-route frame other (segment-seven form) whole i are also len e h)
  bad-by other found i are also len e of_none = of_none

  -- its kind is the same, since the first byte is
  pub bad-front : (other : List ℕ) (i : ℕ) → AreBytes frame → AreBytes other → length other ≡ length frame → take (suc i) other ≡ take (suc i) frame
      → BadAt form frame (found_in frame) i → BadAt form other (found_in other) i
  bad-front other i are also len e bad =
      let kind : found_in other ≡ found_in frame = ap (first_named kinds) (same_byte 0 (suc i) other frame (omega arith) e) in
      subst (λ (f : Found). BadAt form other f i) (sym kind) (bad-by other (found_in frame) i are also len e bad)
