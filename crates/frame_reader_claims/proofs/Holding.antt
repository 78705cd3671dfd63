-- What the laws of wrong bytes ask of a layout, and that the layouts of all kinds have it; and the
-- byte of LV: a header with LV has it in its last byte, and in no other.
-- Assumes nothing.
use mathlib.Core.Path.{◌≡◌, refl, sym, ap, ◌∙◌, subst}
use mathlib.Core.Bool.{Bool, true, false, true≢false}
use mathlib.Core.List.{List, [], ◌∷◌}
use Prim.Native.Nat.{ℕ, ◌+◌, ◌-◌, ◌*◌, ◌/◌, ◌≤◌}
use native.Mathlib.Omega.{arith}
use borrow.Author.Tests.{eqb-true, not-true}
use Rattle.frame_fields.specs.Rows.{total}
use Rattle.frame_fields.specs.Layouts.{Field, fixed, free, lv, Layout, fields, widths, has_lv}
use Rattle.frame_fields.proofs.Headers.{one_lv}
use Rattle.frame_fields.proofs.Ends.{ends_in_lv}
use Rattle.frame_fields.proofs.Masks.{eights-total}
use Rattle.frame_fields.proofs.Tags.{Sound}
use Rattle.frame_form.specs.declared.Form.{Form}
use Rattle.frame_form.specs.Forms.{is_uplink}
use Rattle.frame_kinds.specs.declared.Kind.{Kind}
use Rattle.frame_kinds.specs.Kinds.{layout_of, route_layout}
use Rattle.frame_kinds.proofs.Table.{sound, sound-route, ends-in}
use Rattle.frame_kinds.proofs.Stored.{header-few}
use Rattle.frame_reader_claims.specs.Wrong.{width_of, HoldsLv}
use Rattle.frame_reader_claims.specs.Wrong.HoldsLv.{here, there}

-- the byte in which the first LV field begins; 0 if there is none
abbrev pub lv_byte : List Field → ℕ → ℕ
lv_byte [] bit = 0
lv_byte (fixed w v ∷ fs) bit = lv_byte fs (bit + w)
lv_byte (free w ∷ fs) bit = lv_byte fs (bit + w)
lv_byte (lv w ∷ fs) bit = bit / 8

holds-there : (fs : List Field) (bit : ℕ) → has_lv fs ≡ true → HoldsLv fs bit (lv_byte fs bit)
holds-there [] bit h = absurd (true≢false (sym h))
holds-there (fixed w v ∷ fs) bit h = there (holds-there fs (bit + w) h)
holds-there (free w ∷ fs) bit h = there (holds-there fs (bit + w) h)
holds-there (lv w ∷ fs) bit h = here

has-step : (f : Field) (fs : List Field) → has_lv fs ≡ true → has_lv (f ∷ fs) ≡ true
has-step (fixed w v) fs h = h
has-step (free w) fs h = h
has-step (lv w) fs h = refl

holds_has : (fs : List Field) (bit i : ℕ) → HoldsLv fs bit i → has_lv fs ≡ true
holds_has all bit i (here {w = w} {fs = fs}) = refl
holds_has all bit i (there {f = f} {fs = fs} h) = has-step f fs (holds_has fs (bit + width_of f) i h)

-- of fields with one LV at most, that is its byte
only_step : (f : Field) (fs : List Field) → has_lv fs ≡ true → one_lv (f ∷ fs) ≡ true → (bit : ℕ)
    → (one_lv fs ≡ true) × (lv_byte fs (bit + width_of f) ≡ lv_byte (f ∷ fs) bit)
only_step (fixed w v) fs h o bit = (o, refl)
only_step (free w) fs h o bit = (o, refl)
only_step (lv w) fs h o bit = absurd (true≢false (sym h ∙ not-true (has_lv fs) o))

holds-only : (fs : List Field) (bit i : ℕ) → one_lv fs ≡ true → HoldsLv fs bit i → i ≡ lv_byte fs bit
holds-only all bit i o (here {w = w} {fs = fs}) = refl
holds-only all bit i o (there {f = f} {fs = fs} h) =
    let s = only_step f fs (holds_has fs (bit + width_of f) i h) o bit in
    holds-only fs (bit + width_of f) i s.0 h ∙ s.1

-- ---- the layouts

-- a layout by which a frame is read: it is sound, its header is short enough, LV is in the header's
-- last byte, and there is none where strings tell the packet's length
pub record Laid (l : Layout) : Type 0 where
  pub sound-is : Sound 15 l
  pub few : (1 ≤ l.size) × (l.size ≤ 7)
  pub last_byte : has_lv (fields l) ≡ true → lv_byte (fields l) 0 ≡ l.size - 1
  pub strings-alone : l.strings ≡ true → has_lv (fields l) ≡ false

pub lv-last : (l : Layout) → Laid l → has_lv (fields l) ≡ true → HoldsLv (fields l) 0 (l.size - 1)
lv-last l laid h = subst (HoldsLv (fields l) 0) (laid.last_byte h) (holds-there (fields l) 0 h)

pub lv-only : (l : Layout) → Laid l → (i : ℕ) → HoldsLv (fields l) 0 i → i ≡ l.size - 1
lv-only l laid i h = holds-only (fields l) 0 i laid.sound-is.single h ∙ laid.last_byte (holds_has (fields l) 0 i h)

-- and the byte of LV is in no header with strings
pub lv-no-strings : (l : Layout) → Laid l → (i : ℕ) → HoldsLv (fields l) 0 i → l.strings ≡ false
lv-no-strings l laid i h = go l.strings refl
  where
    go : (b : Bool) → l.strings ≡ b → b ≡ false
    go true e = absurd (true≢false (sym (holds_has (fields l) 0 i h) ∙ laid.strings-alone e))
    go false e = refl

-- LV as the last field is in the header's last byte
ends-byte : (fs : List Field) (bit : ℕ) → ends_in_lv fs ≡ true → lv_byte fs bit ≡ (bit + total (widths fs) - 4) / 8
ends-byte [] bit e = absurd (true≢false (sym e))
ends-byte (fixed w v ∷ fs) bit e =
    let sum : bit + w + total (widths fs) ≡ bit + (w + total (widths fs)) = omega arith in
    ends-byte fs (bit + w) e ∙ ap (λ (x : ℕ). (x - 4) / 8) sum
ends-byte (free w ∷ fs) bit e =
    let sum : bit + w + total (widths fs) ≡ bit + (w + total (widths fs)) = omega arith in
    ends-byte fs (bit + w) e ∙ ap (λ (x : ℕ). (x - 4) / 8) sum
ends-byte (lv w ∷ []) bit e =
    let four : w ≡ 4 = eqb-true w 4 e in
    omega (arith, four)
ends-byte (lv w ∷ f ∷ fs) bit e = absurd (true≢false (sym e))

last-in : (l : Layout) → Sound 15 l → ends_in_lv (fields l) ≡ true → lv_byte (fields l) 0 ≡ l.size - 1
last-in l s e =
    let all : total (widths (fields l)) ≡ 8 * l.size = s.bits ∙ eights-total l.size in
    ends-byte (fields l) 0 e ∙ omega (arith, all, s.bytes)

pub laid-kind : (form : Form) (k : Kind) → Laid (layout_of form k)
laid-kind form k = record { sound-is = sound form k; few = header-few k; last_byte = λ e. last-in (layout_of form k) (sound form k) (ends-in (is_uplink form) k e); strings-alone = λ e. absurd (true≢false (sym e)) }

pub laid-route : Laid route_layout
laid-route = record { sound-is = sound-route; few = omega arith; last_byte = λ e. absurd (true≢false (sym e)); strings-alone = λ e. refl }
