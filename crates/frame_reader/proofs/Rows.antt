-- The rows of the code are those of the layouts, by computation: what a header is read by, where
-- its values are, and where LV is.
-- Assumes nothing.
use mathlib.Core.Path.{◌≡◌, refl, sym, ap}
use mathlib.Core.Bool.{Bool, true, true≢false}
use Prim.Native.Nat.{ℕ, ◌/◌, ◌%◌, ◌≤◌}
use native.Mathlib.Nat.{div-one}
use native.Mathlib.Omega.{arith}
use lib.ListN.{get_or}
use Rattle.frame_fields.specs.Rows.{unpack}
use Rattle.frame_fields.specs.Layouts.{Layout, fields, widths, has_lv, free_values, lv_in}
use Rattle.frame_fields.proofs.Ends.{lv-ends}
use Rattle.frame_fields.proofs.Tags.{Sound}
use Rattle.frame_form.specs.declared.Form.{Form}
use Rattle.frame_form.specs.Forms.{is_uplink}
use Rattle.frame_kinds.specs.declared.Kind.{Kind}
use Rattle.frame_kinds.specs.declared.Found.{Found}
use Rattle.frame_kinds.specs.declared.Found.TheVariants.{Known, Route, Unknown}
use Rattle.frame_kinds.specs.Kinds.{layout_in}
use Rattle.frame_kinds.proofs.Table.{sound, sound-route, ends-in}
use Rattle.frame_kinds.proofs.Stored.{header-few}
use Rattle.frame_reader.specs.Faults.{last_of}
use Rattle.frame_reader.specs.Parts.{layout_for}

-- ---- what tells the packet's length

-- LV is the header's last four bits
lv-last : (up : Bool) (k : Kind) (h : ℕ) → has_lv (fields (layout_in up k)) ≡ true → lv_in (fields (layout_in up k)) (unpack (widths (fields (layout_in up k))) h) ≡ h % 16
lv-last up k h e = lv-ends (fields (layout_in up k)) h (ends-in up k e)

-- a layout in whose headers LV, and the bit that tells of a second string, are where the code looks
-- for them, and which is short enough
pub record Readable (l : Layout) : Type 0 where
  pub sound-is : Sound 15 l
  pub few : (1 ≤ l.size) × (l.size ≤ 7)
  pub lv-is : (h : ℕ) → has_lv (fields l) ≡ true → lv_in (fields l) (unpack (widths (fields l)) h) ≡ h % 16
  pub first-is : (h : ℕ) → l.strings ≡ true → last_of (free_values (fields l) (unpack (widths (fields l)) h)) ≡ h % 256
  pub second_is : (h : ℕ) → l.strings ≡ true → get_or (free_values (fields l) (unpack (widths (fields l)) h)) 0 0 ≡ h / 512 % 2

pub readable : (form : Form) (found : Found) → Readable (layout_for form found)
readable form (Known k) = record {
  sound-is = sound form k;
  few = header-few k;
  lv-is = lv-last (is_uplink form) k;
  first-is = λ h e. absurd (true≢false (sym e));
  second_is = λ h e. absurd (true≢false (sym e));
}
readable form Route = record { sound-is = sound-route; few = omega arith; lv-is = λ h e. absurd (true≢false (sym e)); first-is = λ h e. ap (λ (x : ℕ). x % 256) (div-one h); second_is = λ h e. refl }
readable form Unknown = record { sound-is = sound-route; few = omega arith; lv-is = λ h e. absurd (true≢false (sym e)); first-is = λ h e. ap (λ (x : ℕ). x % 256) (div-one h); second_is = λ h e. refl }
