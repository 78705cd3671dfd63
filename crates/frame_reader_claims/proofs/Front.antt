-- Whether a byte of a frame is wrong depends on nothing after it: a wrong byte is wrong in every
-- frame of the same length that agrees up to and including it.
-- Assumes nothing.
use mathlib.Core.Path.{◌≡◌, sym, ap, ◌∙◌, subst}
use mathlib.Core.Bool.{true, true≢false}
use mathlib.Core.List.{List, [], ◌∷◌}
use Prim.Native.Nat.{ℕ, suc, ◌+◌, ◌-◌, ◌*◌, ◌/◌, ◌%◌, ◌^◌, ◌<◌, ◌≤◌}
use native.Mathlib.Omega.{arith}
use lib.ListN.{length, take, get_or}
use lib.Pow.{shr-shr}
use Rattle.frame_fields.specs.Rows.{total, unpack, number_in, AreBytes}
use Rattle.frame_fields.specs.Layouts.{Field, fixed, free, lv, Layout, fields, widths}
use Rattle.frame_fields.specs.Masks.{in_bytes}
use Rattle.frame_fields.proofs.Headers.{fixed-parts}
use Rattle.frame_fields.proofs.Masks.{eights-total}
use Rattle.frame_form.specs.Segments.{frame_length, whole_segments}
use Rattle.frame_reader.specs.Faults.{first_end, has_second, packet_length}
use Rattle.frame_reader_claims.specs.Wrong.{WrongField, WrongByte}
use Rattle.frame_reader_claims.specs.Wrong.WrongField.{here, there}
use Rattle.frame_reader_claims.specs.Wrong.WrongByte.{field-wrong, lv-wrong, first-wrong, second-wrong, padding-wrong, past-segments}
use Rattle.frame_reader_claims.proofs.Holding.{Laid, lv-only, lv-no-strings}
use Rattle.frame_reader_claims.proofs.Extent.{second-end, strings-length, right-inside}
use Rattle.frame_reader_claims.proofs.Least.{field-after, header-in, extent}
use Rattle.frame_reader_claims.proofs.Agreeing.{same_byte, front-number, same_second, same_first, same-first-right, same_end, same-right, same_length}

-- a field of w bits with t bits after it does not depend on the last m of these
field-high : (n p m t w : ℕ) → n / 2 ^ m ≡ p / 2 ^ m → m ≤ t → n / 2 ^ t % 2 ^ w ≡ p / 2 ^ t % 2 ^ w
field-high n p m t w e h =
    let sum : m + (t - m) ≡ t = omega arith in
    let part : (x : ℕ) → x / 2 ^ t ≡ x / 2 ^ m / 2 ^ (t - m) = λ x. ap (λ (y : ℕ). x / 2 ^ y) (sym sum) ∙ sym (shr-shr x m (t - m)) in
    ap (λ (y : ℕ). y % 2 ^ w) (part n ∙ ap (λ (y : ℕ). y / 2 ^ (t - m)) e ∙ sym (part p))

-- m bits of the fields are after the byte i, and no fixed field of that byte is among them: if it
-- is wrong in n, it is wrong in every number that has the same bits above those m
field-front : (fs : List Field) (bit m n p i : ℕ) → in_bytes fs bit ≡ true → bit + total (widths fs) ≡ 8 * suc i + m → n / 2 ^ m ≡ p / 2 ^ m
    → WrongField fs bit (unpack (widths fs) n) i → WrongField fs bit (unpack (widths fs) p) i
field-front [] bit m n p i b r e h = elim h [ ]
field-front (fixed w v ∷ fs) bit m n p i b r e (here ne) =
    let q = fixed-parts w v bit fs b in
    let t = total (widths fs) in
    let below : m ≤ t = omega (arith, q.2) in
    here (λ z. ne (field-high n p m t w e below ∙ z))
field-front (fixed w v ∷ fs) bit m n p i b r e (there h) = there (field-front fs (bit + w) m n p i (fixed-parts w v bit fs b).3 (omega arith) e h)
field-front (free w ∷ fs) bit m n p i b r e (there h) = there (field-front fs (bit + w) m n p i b (omega arith) e h)
field-front (lv w ∷ fs) bit m n p i b r e (there h) = there (field-front fs (bit + w) m n p i b (omega arith) e h)

-- the length of a second string is before the packet's end
reaches : (seg : ℕ) (l : Layout) (frame : List ℕ) (i : ℕ) → packet_length seg l frame ≤ i → l.strings ≡ true → has_second l frame ≡ true → first_end l frame < suc i
reaches seg l frame i h s two = omega (arith, h, strings-length seg l frame s, second-end l frame two)

-- by the byte's fault: a field is told by the header's bytes up to its own; LV and the length of a
-- first string by the whole header, whose last byte they are in; the length of a second one by the
-- header and the byte itself; padding and what follows by these and that length
module _ (seg : ℕ) (l : Layout) (laid : Laid l) (frame other : List ℕ) (seven : 7 ≤ seg) (whole : whole_segments seg (length frame) ≡ true) where
  pub wrong-front : (i : ℕ) → AreBytes frame → AreBytes other → length other ≡ length frame → take (suc i) other ≡ take (suc i) frame
      → WrongByte seg l frame i → WrongByte seg l other i
  wrong-front i are also len e (field-wrong h) =
      let size = l.size in
      let within : i < size = (field-after l laid frame i h).1 in
      let room = header-in seg l laid frame seven whole in
      let bits = laid.sound-is.bits ∙ eights-total size in
      let high = front-number size i frame other are also room (omega arith) within (sym e) in
      field-wrong (field-front (fields l) 0 (8 * (size - suc i)) (number_in size frame) (number_in size other) i laid.sound-is.bytewise (omega (arith, bits)) high h)
  wrong-front i are also len e (lv-wrong h r) =
      let last : l.size ≤ suc i = omega (arith, lv-only l laid i h) in
      let none : l.strings ≡ true → has_second l frame ≡ true → first_end l frame < suc i = λ s two. absurd (true≢false (sym s ∙ lv-no-strings l laid i h)) in
      lv-wrong h (same-right l (suc i) frame other laid.few.0 last len e none seg ∙ r)
  wrong-front i are also len e (first-wrong s r) =
      first-wrong s (same-first-right l (suc (l.size - 1)) frame other laid.few.0 (omega arith) len e ∙ r)
  wrong-front i are also len e (second-wrong s two r over) =
      let n = suc (first_end l frame) in
      let some = laid.few.0 in
      let head : l.size ≤ n = omega arith in
      let right = same-first-right l n frame other some head len e ∙ r in
      let end = same_end l n frame other some head len e (λ a b. omega arith) s in
      subst (WrongByte seg l other) (same_first l n frame other some head len e) (second-wrong s (same_second l n frame other some head len e ∙ two) right (omega (arith, end, len, over)))
  wrong-front i are also len e (padding-wrong r from below inside nonzero) =
      let past : l.size ≤ suc i = omega (arith, (extent seg l laid frame seven whole r).1) in
      let reach = reaches seg l frame i from in
      let n : packet_length seg l other ≡ packet_length seg l frame = same_length l (suc i) frame other laid.few.0 past len e reach seg in
      let byte : get_or other i 0 ≡ get_or frame i 0 = same_byte i (suc i) other frame (omega arith) e in
      let ends = ap (frame_length seg) n in
      padding-wrong {i = i} (same-right l (suc i) frame other laid.few.0 past len e reach seg ∙ r) (omega arith) (omega arith) (omega arith) (λ z. nonzero (sym byte ∙ z))
  wrong-front i are also len e (past-segments r from inside) =
      let past : l.size ≤ suc i = omega (arith, (extent seg l laid frame seven whole (right-inside seg l frame r (omega arith))).1) in
      let n : packet_length seg l other ≡ packet_length seg l frame = same_length l (suc i) frame other laid.few.0 past len e (reaches seg l frame i (omega arith)) seg in
      let ends = ap (frame_length seg) n in
      past-segments {i = i} r (omega arith) (omega arith)
