-- The position of a fault is that of the first wrong byte (document 02, Q-5).
-- proofs/FirstFault.antt proves it (`first-fault`).
-- Assumes nothing.
use Rattle.std.specs.Prelude.{◌≡◌, true, List, ◌⊎◌, ℕ, suc, ◌≤◌, ◌<◌, length, take}
use Rattle.refusal.specs.declared.Refusal.{Refusal}
use Rattle.refusal.specs.declared.Refusal.TheVariants.{OutOfRange, Malformed, FormatError, PacketTooLong}
use Rattle.refusal.specs.Positions.{refused_at}
use Rattle.frame_fields.specs.Rows.{AreBytes}
use Rattle.frame_form.specs.declared.Form.{Form}
use Rattle.frame_form.specs.Forms.{seg_of, most_of, form_valid}
use Rattle.frame_form.specs.Segments.{whole_segments}
use Rattle.frame_reader.specs.Reading.{found_in, read_checks}
use Rattle.frame_reader_claims.specs.Wrong.{BadAt}

-- a frame was refused with 3 at the byte `at`
pub record IsFirst (form : Form) (frame : List ℕ) (at : ℕ) : Type 0 where
  -- the byte is one of the frame
  pub inside : at < length frame
  -- it is wrong
  pub wrong : BadAt form frame (found_in frame) at
  -- and none before it is
  pub none_before : (i : ℕ) → i < at → BadAt form frame (found_in frame) i → ⊥

-- a frame was refused with `why` at the position `at`: 1 at 0, 2 at the frame's length, 13 at the
-- form's largest size, or 3
abbrev pub Placed : Form → List ℕ → Refusal → ℕ → Type 0
Placed form frame why at =
    ((why ≡ OutOfRange) × (at ≡ 0)) ⊎ (((why ≡ Malformed) × (at ≡ length frame)) ⊎ (((why ≡ PacketTooLong) × (at ≡ most_of form)) ⊎ (why ≡ FormatError)))

pub record FirstFault : Type 0 where
  -- the byte that refusal 3 names is the first wrong one
  pub named-is-first : (form : Form) (frame : List ℕ) (at : ℕ) → read_checks form frame ≡ refused_at FormatError at → IsFirst form frame at
  -- and a frame of whole segments with a wrong byte is refused with 3, at that byte or before it
  pub wrong-is-refused : (form : Form) (frame : List ℕ) (i : ℕ) → form_valid form ≡ true → whole_segments (seg_of form) (length frame) ≡ true
      → BadAt form frame (found_in frame) i → (at : ℕ) × (read_checks form frame ≡ refused_at FormatError at) × (at ≤ i)
  -- refusal 3 and its position depend on nothing after that byte: a frame of the same length that
  -- agrees up to and including it is refused with 3 at the same byte
  pub told-by-the-front : (form : Form) (frame other : List ℕ) (at : ℕ) → AreBytes frame → AreBytes other → read_checks form frame ≡ refused_at FormatError at
      → length other ≡ length frame → take (suc at) other ≡ take (suc at) frame → read_checks form other ≡ refused_at FormatError at
  -- the position of every refusal
  pub placed : (form : Form) (frame : List ℕ) (why : Refusal) (at : ℕ) → read_checks form frame ≡ refused_at why at → Placed form frame why at
