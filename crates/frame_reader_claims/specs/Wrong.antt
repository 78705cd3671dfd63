-- What a wrong byte of a frame is, in the words of document 02, Q-5: a byte "that holds a wrong
-- fixed field, fill, LV .. or padding, or lies past the segments of a packet without LV", with the
-- lengths of a ROUTE (Q-4). It is a relation between a frame, a layout and a byte; nothing is said
-- of which comes first.
-- Assumes nothing.
use Rattle.std.specs.Prelude.{◌≡◌, true, false, List, ◌∷◌, ℕ, ◌+◌, ◌-◌, ◌/◌, ◌≤◌, ◌<◌, length, get_or}
use Rattle.frame_fields.specs.Layouts.{Field, fixed, free, lv, Layout, fields, has_lv, values_in}
use Rattle.frame_form.specs.declared.Form.{Form}
use Rattle.frame_form.specs.Forms.{seg_of}
use Rattle.frame_form.specs.Segments.{frame_length}
use Rattle.frame_kinds.specs.declared.Kind.{Kind}
use Rattle.frame_kinds.specs.declared.Found.{Found}
use Rattle.frame_kinds.specs.declared.Found.TheVariants.{Known, Route, Unknown}
use Rattle.frame_kinds.specs.Kinds.{layout_of, route_layout}
use Rattle.frame_reader.specs.Faults.{first_end, has_second, strings_end, first_right, packet_length, length_right}

-- the width of a field
abbrev pub width_of : Field → ℕ
width_of (fixed w v) = w
width_of (free w) = w
width_of (lv w) = w

-- byte i holds a fixed field, fill included, with another value than its right one; the fields
-- begin at bit `bit` of the header, and xs are their values
pub data WrongField : List Field → ℕ → List ℕ → ℕ → Type 0 where
  here : {w v x bit : ℕ} {fs : List Field} {xs : List ℕ} → (x ≡ v → ⊥) → WrongField (fixed w v ∷ fs) bit (x ∷ xs) (bit / 8)
  there : {f : Field} {x bit i : ℕ} {fs : List Field} {xs : List ℕ} → WrongField fs (bit + width_of f) xs i → WrongField (f ∷ fs) bit (x ∷ xs) i

-- byte i holds LV
pub data HoldsLv : List Field → ℕ → ℕ → Type 0 where
  here : {w bit : ℕ} {fs : List Field} → HoldsLv (lv w ∷ fs) bit (bit / 8)
  there : {f : Field} {bit i : ℕ} {fs : List Field} → HoldsLv fs (bit + width_of f) i → HoldsLv (f ∷ fs) bit i

-- byte i of a frame is wrong, if the frame is read by the layout l in segments of seg bytes
pub data WrongByte (seg : ℕ) (l : Layout) (frame : List ℕ) : ℕ → Type 0 where
  -- a wrong fixed field, or fill
  field-wrong : {i : ℕ} → WrongField (fields l) 0 (values_in l frame) i → WrongByte seg l frame i
  -- a wrong LV
  lv-wrong : {i : ℕ} → HoldsLv (fields l) 0 i → length_right seg l frame ≡ false → WrongByte seg l frame i
  -- the length of a first string, the header's last byte, if "its bytes, or the length after them,
  -- run past the frame" (Q-4)
  first-wrong : l.strings ≡ true → first_right l frame ≡ false → WrongByte seg l frame (l.size - 1)
  -- the length of a second string, the byte after the first string, if its bytes do
  second-wrong : l.strings ≡ true → has_second l frame ≡ true → first_right l frame ≡ true → length frame < strings_end l frame → WrongByte seg l frame (first_end l frame)
  -- padding that is not 0: after the packet, whose length LV or the strings' lengths tell if they
  -- are right, and in its segments
  padding-wrong : {i : ℕ} → length_right seg l frame ≡ true → packet_length seg l frame ≤ i → i < frame_length seg (packet_length seg l frame) → i < length frame
      → (get_or frame i 0 ≡ 0 → ⊥) → WrongByte seg l frame i
  -- past the segments of a packet without LV
  past-segments : {i : ℕ} → has_lv (fields l) ≡ false → frame_length seg (packet_length seg l frame) ≤ i → i < length frame → WrongByte seg l frame i

-- byte i of a frame is wrong, once its kind is found or not: "First bits of no known packet" are in
-- its first byte
pub data BadAt (form : Form) (frame : List ℕ) : Found → ℕ → Type 0 where
  of-kind : {k : Kind} {i : ℕ} → WrongByte (seg_of form) (layout_of form k) frame i → BadAt form frame (Known k) i
  of-route : {i : ℕ} → WrongByte (seg_of form) route_layout frame i → BadAt form frame Route i
  of_none : BadAt form frame Unknown 0
