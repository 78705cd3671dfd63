-- The first fault of a frame that is read by a layout is a wrong byte, unless it is the frame's
-- length; and every wrong byte is in the frame, and not before the first fault.
-- Assumes nothing.
use mathlib.Core.Path.{◌≡◌, refl, ◌∙◌}
use mathlib.Core.Bool.{Bool, true, false}
use mathlib.Core.List.{List}
use Prim.Native.Nat.{ℕ, ◌-◌, ◌<◌, ◌≤◌}
use native.Mathlib.Decide.{dec_lt}
use native.Mathlib.Omega.{arith}
use lib.ListN.{length}
use borrow.Author.Tests.{lt-ltb, le-ltb}
use Rattle.frame_fields.specs.Layouts.{Layout, fields, has_lv, values_in, wrong_byte}
use Rattle.frame_fields.proofs.Masks.{eights-total}
use Rattle.frame_form.specs.Segments.{frame_length, whole_segments}
use Rattle.frame_form.proofs.Segments.{whole-some}
use Rattle.frame_reader.specs.Faults.{first_end, first_right, packet_length, length_right, length_byte, tail_fault, first_fault}
use Rattle.frame_reader_claims.specs.Wrong.{WrongField, WrongByte}
use Rattle.frame_reader_claims.specs.Wrong.WrongByte.{field-wrong, lv-wrong, first-wrong, second-wrong, padding-wrong, past-segments}
use Rattle.frame_reader_claims.proofs.Fixed.{field-named, wrong-after}
use Rattle.frame_reader_claims.proofs.Holding.{Laid, lv-last, lv-only, lv-no-strings}
use Rattle.frame_reader_claims.proofs.Counting.{tail_within, tail-least, tail-nonzero}
use Rattle.frame_reader_claims.proofs.Extent.{second-there, second-inside, first-over, second-over, past_end, wrong-has, right-inside, lv-all, in_frame}

-- ---- the three cases of the first fault

module _ (seg : ℕ) (l : Layout) (frame : List ℕ) where
  fault-field : wrong_byte l frame < l.size → first_fault seg l frame ≡ wrong_byte l frame
  unfolding first_fault
  fault-field h = rw (lt-ltb (wrong_byte l frame) l.size h)

  fault-length : l.size ≤ wrong_byte l frame → length_right seg l frame ≡ false → first_fault seg l frame ≡ length_byte l frame
  unfolding first_fault
  fault-length h e = rw (le-ltb (wrong_byte l frame) l.size h, e)

  fault-tail : l.size ≤ wrong_byte l frame → length_right seg l frame ≡ true → first_fault seg l frame ≡ tail_fault seg (packet_length seg l frame) frame
  unfolding first_fault
  fault-tail h e = rw (le-ltb (wrong_byte l frame) l.size h, e)

-- and the byte of a length
module _ (l : Layout) (frame : List ℕ) where
  byte-header : l.strings ≡ false → length_byte l frame ≡ l.size - 1
  unfolding length_byte
  byte-header s = rw s

  byte-first : first_right l frame ≡ false → length_byte l frame ≡ l.size - 1
  unfolding length_byte
  byte-first e = go l.strings refl
    where
      go : (b : Bool) → l.strings ≡ b → length_byte l frame ≡ l.size - 1
      go true s = rw (s, e)
      go false s = rw s

  byte-second : l.strings ≡ true → first_right l frame ≡ true → length_byte l frame ≡ first_end l frame
  unfolding length_byte
  byte-second s e = rw (s, e)

-- ---- a frame of whole segments, read by the layout l

-- a wrong field is in the header, and not before the byte that is named
pub field-after : (l : Layout) → Laid l → (frame : List ℕ) (i : ℕ) → WrongField (fields l) 0 (values_in l frame) i → (wrong_byte l frame ≤ i) × (i < l.size)
field-after l laid frame i h =
    let bits = laid.sound-is.bits ∙ eights-total l.size in
    let a = wrong-after (fields l) 0 l.size (values_in l frame) i laid.sound-is.bytewise (omega (arith, bits)) h in
    (a.least, a.within)

module _ (seg : ℕ) (l : Layout) (laid : Laid l) (frame : List ℕ) (seven : 7 ≤ seg) (whole : whole_segments seg (length frame) ≡ true) where
  -- the header is in the first segment
  pub header-in : l.size ≤ length frame
  header-in = omega (arith, laid.few.1, whole-some seg (length frame) (omega arith) whole)

  header-fits : l.size ≤ seg
  header-fits = omega (arith, laid.few.1)

  last-inside : l.size - 1 < length frame
  last-inside = omega (arith, laid.few.0, header-in)

  -- a wrong byte is in the frame
  pub wrong-inside : (i : ℕ) → WrongByte seg l frame i → i < length frame
  wrong-inside i (field-wrong h) = omega (arith, (field-after l laid frame i h).1, header-in)
  wrong-inside i (lv-wrong h e) = omega (arith, lv-only l laid i h, last-inside)
  wrong-inside i (first-wrong s e) = last-inside
  wrong-inside i (second-wrong s two e over) = second-inside l frame e two
  wrong-inside i (padding-wrong r from below inside nonzero) = inside
  wrong-inside i (past-segments e from inside) = inside

  -- the segments are in the frame, and the header is in the packet
  pub extent : length_right seg l frame ≡ true → (frame_length seg (packet_length seg l frame) ≤ length frame) × (l.size ≤ packet_length seg l frame)
  extent r = in_frame seg l frame laid.few.0 header-fits whole r

  -- the first fault is in the header, or the first one after the packet
  after-least : (i : ℕ) → length_right seg l frame ≡ true → packet_length seg l frame ≤ i → tail_fault seg (packet_length seg l frame) frame ≤ i → first_fault seg l frame ≤ i
  after-least i r past h = go (dec_lt (wrong_byte l frame) l.size)
    where
      go : Dec (wrong_byte l frame < l.size) → first_fault seg l frame ≤ i
      go (yes w) = omega (arith, fault-field seg l frame w, (extent r).1)
      go (no w) = omega (arith, fault-tail seg l frame (omega arith) r)

  -- if a length is wrong, it is in the header, or the byte of that length
  length-least : (i : ℕ) → length_right seg l frame ≡ false → l.size - 1 ≤ i → length_byte l frame ≤ i → first_fault seg l frame ≤ i
  length-least i r last h = go (dec_lt (wrong_byte l frame) l.size)
    where
      go : Dec (wrong_byte l frame < l.size) → first_fault seg l frame ≤ i
      go (yes w) = omega (arith, fault-field seg l frame w, last)
      go (no w) = omega (arith, fault-length seg l frame (omega arith) r, h)

  -- a wrong byte is not before the first fault
  pub wrong-least : (i : ℕ) → WrongByte seg l frame i → first_fault seg l frame ≤ i
  wrong-least i (field-wrong h) =
      let a = field-after l laid frame i h in
      omega (arith, fault-field seg l frame (omega arith), a.0)
  wrong-least i (lv-wrong h e) =
      let at = lv-only l laid i h in
      length-least i e (omega arith) (omega (arith, byte-header l frame (lv-no-strings l laid i h)))
  wrong-least i (first-wrong s e) = length-least (l.size - 1) (first-over seg l frame s e) (omega arith) (omega (arith, byte-first l frame e))
  wrong-least i (second-wrong s two e over) =
      length-least (first_end l frame) (second-over seg l frame s e over) (omega arith) (omega (arith, byte-second l frame s e))
  wrong-least i (padding-wrong r from below inside nonzero) = after-least i r from (tail-least seg (packet_length seg l frame) frame i from nonzero)
  wrong-least i (past-segments e from inside) =
      after-least i (right-inside seg l frame e (omega arith)) (omega arith) (omega (arith, tail_within seg (packet_length seg l frame) frame))

  -- the byte of a wrong length is a wrong byte
  length-wrong : length_right seg l frame ≡ false → WrongByte seg l frame (length_byte l frame)
  length-wrong r = go l.strings (first_right l frame) refl refl
    where
      go : (a b : Bool) → l.strings ≡ a → first_right l frame ≡ b → WrongByte seg l frame (length_byte l frame)
      go false b s e = rw (byte-header l frame s) (lv-wrong (lv-last l laid (wrong-has seg l frame s r)) r)
      go true false s e = rw (byte-first l frame e) (first-wrong s e)
      go true true s e =
          let over = past_end seg l frame s e r in
          rw (byte-second l frame s e) (second-wrong s (second-there l frame e over) e over)

  -- the first fault after the packet, if it is one, is a wrong byte
  after-wrong : length_right seg l frame ≡ true → (tail_fault seg (packet_length seg l frame) frame ≡ length frame → ⊥)
      → WrongByte seg l frame (tail_fault seg (packet_length seg l frame) frame)
  after-wrong r ne = go (dec_lt (tail_fault seg n frame) (frame_length seg n)) (has_lv (fields l)) refl
    where
      n : ℕ
      n = packet_length seg l frame

      inside : tail_fault seg n frame < length frame
      inside = omega (arith, tail_within seg n frame, (extent r).0, ne)

      go : Dec (tail_fault seg n frame < frame_length seg n) → (b : Bool) → has_lv (fields l) ≡ b → WrongByte seg l frame (tail_fault seg n frame)
      go (yes h) b e = let t = tail-nonzero seg n frame h inside in padding-wrong r t.0 h inside t.1
      go (no h) true e =
          let s = lv-no-strings l laid (l.size - 1) (lv-last l laid e) in
          absurd (omega (arith, h, inside, lv-all seg l frame laid.few.0 header-fits whole s e r))
      go (no h) false e = past-segments {i = tail_fault seg n frame} e (omega (arith, h)) inside

  -- the first fault, if it is one, is a wrong byte
  pub fault-wrong : (first_fault seg l frame ≡ length frame → ⊥) → WrongByte seg l frame (first_fault seg l frame)
  fault-wrong ne = go (dec_lt (wrong_byte l frame) l.size) (length_right seg l frame) refl
    where
      go : Dec (wrong_byte l frame < l.size) → (b : Bool) → length_right seg l frame ≡ b → WrongByte seg l frame (first_fault seg l frame)
      go (yes w) b e = rw (fault-field seg l frame w) (field-wrong (field-named (fields l) 0 l.size (values_in l frame) w))
      go (no w) true e =
          let same = fault-tail seg l frame (omega arith) e in
          rw same (after-wrong e (λ z. ne (same ∙ z)))
      go (no w) false e = rw (fault-length seg l frame (omega arith) e) (length-wrong e)
