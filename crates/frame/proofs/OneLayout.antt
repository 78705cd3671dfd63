-- Frames of one layout, over any segment size: what is written has no fault, and what has none is
-- what was written.
-- Assumes nothing.
use mathlib.Core.Path.{◌≡◌, refl, sym, ap, ◌∙◌}
use mathlib.Core.Bool.{Bool, true, false, cond, ◌&&◌, true≢false}
use mathlib.Core.List.{List, ◌++◌}
use Prim.Native.Nat.{ℕ, ◌+◌, ◌-◌, ◌%◌, ◌<◌, ◌≤◌}
use native.Mathlib.Omega.{arith}
use lib.Dec.{leb, ltb, eqb}
use lib.ListN.{length, get_or, take, drop, replicate, length-drop, take-append-drop}
use lib.Seq.{drop-drop, length-take-le}
use borrow.Author.Tests.{le-leb, leb-true, lt-ltb, le-ltb, ltb-true, eqb-true, eqb-false}
use Rattle.refusal.proofs.Checks.{both_true}
use Rattle.frame_fields.specs.Rows.{pack, unpack, eights, bytes_of, number_in, AreBytes}
use Rattle.frame_fields.specs.Layouts.{Layout, fields, widths, has_lv, all_values, within, header, header_number, values_in, free_values, lv_in, first_wrong, wrong_byte}
use Rattle.frame_fields.specs.Masks.{wrong_bits}
use Rattle.frame_fields.proofs.Rows.{re_read, bytes-length, number-take, bytes-range, unpack-range}
use Rattle.frame_fields.proofs.Headers.{right-none, none_right, values-range, lv-back, no-lv, right-back, values-again, free-within}
use Rattle.frame_fields.proofs.Masks.{eights-total, wrong-none, wrong-some}
use Rattle.frame_fields.proofs.Tags.{Sound}
use Rattle.frame_form.specs.Segments.{padding, last_used, frame_length}
use Rattle.frame_form.specs.Frames.{framed, all_zero}
use Rattle.frame_form.proofs.Segments.{used-range, length-less, used-back, length_back, frame-end}
use Rattle.frame_form.proofs.Frames.{framed-length, head_of, zeros_of, zero-zeros}
use Rattle.frame_reader.specs.Faults.{lv_of, last_of, first_end, has_second, strings_end, first_right, packet_length, length_right, length_byte, tail_fault, first_fault}
use Rattle.frame_reader.proofs.Cases.{ends-after}
use Rattle.frame_reader.proofs.Zeros.{count-le, all_after, some_after}

pub header-length : (l : Layout) (u : ℕ) (vs : List ℕ) → length (header l u vs) ≡ l.size
header-length l u vs = bytes-length l.size (header_number l u vs)

-- the frame of a packet of this layout, with these values
abbrev pub frame_as : ℕ → Layout → List ℕ → List ℕ → List ℕ
frame_as seg l vs user = framed seg (header l (last_used seg (l.size + length user)) vs) user

-- ---- the parts of the first fault

-- a header without a wrong field, a right LV or lengths, zeros to the end of the packet's segments
no-fault : (seg n : ℕ) (l : Layout) (frame : List ℕ) → wrong_byte l frame ≡ l.size → length_right seg l frame ≡ true → packet_length seg l frame ≡ n
    → frame_length seg n ≡ length frame → n ≤ length frame → all_zero (drop n frame) ≡ true → first_fault seg l frame ≡ length frame
unfolding first_fault tail_fault
no-fault seg n l frame right lv en fills inside zeros =
    rw (right, le-ltb l.size l.size (omega arith), lv, en)
    (omega (arith, fills, inside, all_after n frame zeros, count-le (drop n frame), length-drop n frame))

-- strings give the length and whether it is right
strings-length : (seg : ℕ) (l : Layout) (frame : List ℕ) → l.strings ≡ true → packet_length seg l frame ≡ strings_end l frame
unfolding packet_length
strings-length seg l frame es = ap (λ (b : Bool). cond b (strings_end l frame) (cond (has_lv (fields l)) (length frame - seg + lv_of l frame) l.size)) es

strings-right : (seg : ℕ) (l : Layout) (frame : List ℕ) → l.strings ≡ true
    → length_right seg l frame ≡ (first_right l frame && leb (strings_end l frame) (length frame))
unfolding length_right
strings-right seg l frame es =
    ap (λ (b : Bool). cond b (first_right l frame && leb (strings_end l frame) (length frame))
    (cond (has_lv (fields l)) (leb 1 (lv_of l frame) && (leb (lv_of l frame) seg && leb l.size (length frame - seg + lv_of l frame))) true)) es

-- a length that is wrong is in the frame
byte-lt : (seg : ℕ) (l : Layout) (frame : List ℕ) → 1 ≤ l.size → l.size ≤ length frame → length_right seg l frame ≡ false → length_byte l frame < length frame
unfolding length_byte
byte-lt seg l frame one few wrong = go l.strings (has_second l frame) (first_right l frame) refl refl refl
  where
    go : (a b t : Bool) → l.strings ≡ a → has_second l frame ≡ b → first_right l frame ≡ t
        → cond (l.strings && first_right l frame) (first_end l frame) (l.size - 1) < length frame
    go false b t ea eb et = rw ea (omega (arith, one, few))
    go true b false ea eb et = rw (ea, et) (omega (arith, one, few))
    go true true true ea eb et =
        let low : ltb (first_end l frame) (length frame) ≡ true = sym (ap (λ (x : Bool). cond x (ltb (first_end l frame) (length frame)) (leb (first_end l frame) (length frame))) eb) ∙ et in
        rw (ea, et) (ltb-true (first_end l frame) (length frame) low)
    go true false true ea eb et =
        let low : leb (first_end l frame) (length frame) ≡ true = sym (ap (λ (x : Bool). cond x (ltb (first_end l frame) (length frame)) (leb (first_end l frame) (length frame))) eb) ∙ et in
        let end : strings_end l frame ≡ first_end l frame = ap (λ (x : Bool). cond x (first_end l frame + 1 + get_or frame (first_end l frame) 0) (first_end l frame)) eb in
        let right : (first_right l frame && leb (strings_end l frame) (length frame)) ≡ true = rw (et, end) low in
        absurd (true≢false (sym right ∙ sym (strings-right seg l frame ea) ∙ wrong))

-- ---- written, then read

module _ (seg : ℕ) (l : Layout) (sound : Sound 15 l) (some : 1 ≤ seg) (few : seg ≤ 15) (vs user : List ℕ) (fit : within (fields l) vs ≡ true) where
  -- the fields' values, as they were put
  pub values-back : values_in l (frame_as seg l vs user) ≡ all_values (fields l) (last_used seg (l.size + length user)) vs
  values-back =
      let u = last_used seg (l.size + length user) in
      ap (unpack (widths (fields l)))
      (sym (number-take 0 l.size (frame_as seg l vs user)) ∙ ap (number_in l.size) (head_of seg l.size (header l u vs) user (header-length l u vs)))
      ∙ re_read (widths (fields l)) (eights l.size) (all_values (fields l) u vs) sound.bits
      (values-range 15 u (fields l) vs (omega (arith, few, (used-range seg (l.size + length user) some).1)) sound.values fit)

  -- LV gives the packet's length, or the strings do, or there is no user data
  pub content-good : (l.strings ≡ false → has_lv (fields l) ≡ false → length user ≡ 0)
      → (l.strings ≡ true → (first_right l (frame_as seg l vs user) ≡ true) × (strings_end l (frame_as seg l vs user) ≡ l.size + length user))
      → (first_fault seg l (frame_as seg l vs user) ≡ length (frame_as seg l vs user)) × (packet_length seg l (frame_as seg l vs user) ≡ l.size + length user)
  unfolding packet_length length_right
  content-good no-data by-strings = go l.strings (has_lv (fields l)) refl refl
    where
      n : ℕ
      n = l.size + length user

      u : ℕ
      u = last_used seg n

      frame : List ℕ
      frame = frame_as seg l vs user

      range : (1 ≤ u) × (u ≤ seg)
      range = used-range seg n some

      len : length frame ≡ frame_length seg n
      len = framed-length seg l.size (header l u vs) user (header-length l u vs)

      zeros : all_zero (drop n frame) ≡ true
      zeros = zeros_of seg l.size (header l u vs) user (header-length l u vs)

      back : length frame - seg + u ≡ n
      back = ap (λ (x : ℕ). x - seg + u) len ∙ (length-less seg n some (omega (arith, sound.bytes))).1

      right : wrong_byte l frame ≡ l.size
      right = ap (λ (xs : List ℕ). first_wrong (fields l) 0 xs l.size) values-back ∙ right-none (fields l) 0 u l.size (all_values (fields l) u vs) (right-back u (fields l) vs)

      go : (a b : Bool) → l.strings ≡ a → has_lv (fields l) ≡ b → (first_fault seg l frame ≡ length frame) × (packet_length seg l frame ≡ n)
      go true b es e =
          let p = by-strings es in
          let packet : packet_length seg l frame ≡ n = strings-length seg l frame es ∙ p.1 in
          let good : length_right seg l frame ≡ true = strings-right seg l frame es ∙ rw (p.0, p.1) (le-leb n (length frame) (omega (arith, len))) in
          (no-fault seg n l frame right good packet (sym len) (omega (arith, len)) zeros, packet)
      go false true es e =
          let lv-is : lv_of l frame ≡ u = ap (lv_in (fields l)) values-back ∙ lv-back u (fields l) vs e in
          let packet : packet_length seg l frame ≡ n = rw (es, e, lv-is) back in
          let good : length_right seg l frame ≡ true = rw (es, e, lv-is, le-leb 1 u range.0, le-leb u seg range.1) (le-leb l.size (length frame - seg + u) (omega (arith, back))) in
          (no-fault seg n l frame right good packet (sym len) (omega (arith, len)) zeros, packet)
      go false false es e =
          let none : n ≡ l.size = omega (arith, no-data es e) in
          let packet : packet_length seg l frame ≡ n = rw (es, e) (sym none) in
          let good : length_right seg l frame ≡ true = rw (es, e) in
          (no-fault seg n l frame right good packet (sym len) (omega (arith, len)) zeros, packet)

-- ---- read, then written

abbrev pub free_in : Layout → List ℕ → List ℕ
free_in l frame = free_values (fields l) (values_in l frame)

pub free-in-range : (l : Layout) (frame : List ℕ) → within (fields l) (free_in l frame) ≡ true
free-in-range l frame = free-within (fields l) (values_in l frame) (unpack-range (widths (fields l)) (number_in l.size frame))

module _ (seg : ℕ) (l : Layout) (sound : Sound 15 l) (some : 1 ≤ seg) (fits : l.size ≤ seg) (frame : List ℕ) (more : seg ≤ length frame) (multiple : length frame % seg ≡ 0)
    (plain : l.strings ≡ true → has_lv (fields l) ≡ false) (good : first_fault seg l frame ≡ length frame) where
  n : ℕ
  n = packet_length seg l frame

  -- no field is wrong
  right : wrong_byte l frame ≡ l.size
  unfolding first_fault
  right = go (eqb (wrong_bits (fields l) (number_in l.size frame)) 0) refl
    where
      go : (b : Bool) → eqb (wrong_bits (fields l) (number_in l.size frame)) 0 ≡ b → wrong_byte l frame ≡ l.size
      go true e = wrong-none l sound.bits sound.bytewise frame (eqb-true (wrong_bits (fields l) (number_in l.size frame)) 0 e)
      go false e =
          let low = wrong-some l sound.bits sound.bytewise frame (eqb-false (wrong_bits (fields l) (number_in l.size frame)) 0 e) in
          let at : wrong_byte l frame ≡ length frame =
          sym (ap (λ (b : Bool). cond b (wrong_byte l frame) (cond (length_right seg l frame) (tail_fault seg (packet_length seg l frame) frame) (length_byte l frame))) (lt-ltb (wrong_byte l frame) l.size low)) ∙ good in
          absurd (omega (arith, at, low, fits, more))

  -- LV is right, and the tail
  tail : (length_right seg l frame ≡ true) × (tail_fault seg n frame ≡ length frame)
  unfolding first_fault n
  tail = go (length_right seg l frame) refl
    where
      past : (b : Bool) → length_right seg l frame ≡ b → cond b (tail_fault seg (packet_length seg l frame) frame) (length_byte l frame) ≡ length frame
      past b e =
          sym (rw (right, le-ltb l.size l.size (omega arith), e)) ∙ good

      go : (b : Bool) → length_right seg l frame ≡ b → (length_right seg l frame ≡ true) × (tail_fault seg (packet_length seg l frame) frame ≡ length frame)
      go true e = (e, past true e)
      go false e = absurd (omega (arith, past false e, byte-lt seg l frame sound.bytes (omega (arith, fits, more)) e))

  -- the padding is 0
  zeros : all_zero (drop n frame) ≡ true
  unfolding tail_fault
  zeros = go (all_zero (drop n frame)) refl
    where
      go : (b : Bool) → all_zero (drop n frame) ≡ b → all_zero (drop n frame) ≡ true
      go true e = e
      go false e = absurd (omega (arith, tail.1, some_after n frame e))

  xs : List ℕ
  xs = values_in l frame

  -- the values make the same header again
  again : all_values (fields l) (lv_in (fields l) xs) (free_in l frame) ≡ xs
  unfolding xs
  again =
      let ys = values_in l frame in
      values-again (lv_in (fields l) ys) (fields l) ys
      (none_right (fields l) 0 (lv_in (fields l) ys) l.size ys (unpack-range (widths (fields l)) (number_in l.size frame)) sound.bytewise sound.single (λ h. refl)
      (omega (arith, sound.bits, eights-total l.size)) right)

  abbrev Sizes : Type 0
  Sizes = (l.size ≤ packet_length seg l frame) × (frame_length seg (packet_length seg l frame) ≡ length frame)
      × (all_values (fields l) (last_used seg (packet_length seg l frame)) (free_in l frame) ≡ values_in l frame)
      × (l.strings ≡ false → has_lv (fields l) ≡ false → packet_length seg l frame ≡ l.size)

  t : ℕ
  t = lv_in (fields l) (values_in l frame)

  -- with strings
  by-strings : l.strings ≡ true → Sizes
  unfolding n xs tail_fault t
  by-strings es =
      let en = strings-length seg l frame es in
      let ok : (first_right l frame && leb (strings_end l frame) (length frame)) ≡ true = sym (strings-right seg l frame es) ∙ tail.0 in
      let a = both_true (first_right l frame) (leb (strings_end l frame) (length frame)) ok in
      let inside : packet_length seg l frame ≤ length frame = omega (arith, en, leb-true (strings_end l frame) (length frame) a.1) in
      let end = frame-end seg (length frame) (packet_length seg l frame) some multiple inside in (
        omega (arith, en, ends-after (has_second l frame) l.size (last_of (free_values (fields l) (values_in l frame))) (get_or frame (first_end l frame) 0)),
        omega (arith, tail.1, end),
        no-lv (last_used seg (packet_length seg l frame)) (lv_in (fields l) (values_in l frame)) (fields l) (free_in l frame) (plain es) ∙ again,
        λ f. absurd (true≢false (sym es ∙ f)),
      )

  -- with LV
  by-lv : l.strings ≡ false → has_lv (fields l) ≡ true → Sizes
  unfolding n xs packet_length length_right tail_fault t
  by-lv es e =
      let en : length frame - seg + t ≡ packet_length seg l frame = sym (rw (es, e)) in
      let ok : (leb 1 t && (leb t seg && leb l.size (length frame - seg + t))) ≡ true = sym (rw (es, e)) ∙ tail.0 in
      let a = both_true (leb 1 t) (leb t seg && leb l.size (length frame - seg + t)) ok in
      let b = both_true (leb t seg) (leb l.size (length frame - seg + t)) a.1 in
      let lo : 1 ≤ t = leb-true 1 t a.0 in
      let hi : t ≤ seg = leb-true t seg b.0 in
      let one : 1 ≤ length frame = omega (arith, more, some) in (
        omega (arith, leb-true l.size (length frame - seg + t) b.1, en),
        ap (frame_length seg) (sym en) ∙ length_back seg (length frame) t multiple one lo hi,
        ap (λ (x : ℕ). all_values (fields l) x (free_in l frame)) (ap (last_used seg) (sym en) ∙ used-back seg (length frame) t multiple one lo hi) ∙ again,
        λ f g. absurd (true≢false (sym e ∙ g)),
      )

  -- with neither
  by-header : l.strings ≡ false → has_lv (fields l) ≡ false → Sizes
  unfolding n xs packet_length tail_fault t
  by-header es e =
      let en : l.size ≡ packet_length seg l frame = sym (rw (es, e)) in
      let inside : packet_length seg l frame ≤ length frame = omega (arith, en, fits, more) in
      let end = frame-end seg (length frame) (packet_length seg l frame) some multiple inside in (
        omega (arith, en),
        omega (arith, tail.1, end),
        no-lv (last_used seg (packet_length seg l frame)) t (fields l) (free_in l frame) e ∙ again,
        λ f g. sym en,
      )

  sizes : Sizes
  sizes = go l.strings (has_lv (fields l)) refl refl
    where
      go : (a b : Bool) → l.strings ≡ a → has_lv (fields l) ≡ b → Sizes
      go true b es e = by-strings es
      go false true es e = by-lv es e
      go false false es e = by-header es e

  -- the packet is no longer than the frame and no shorter than its header; without LV and strings
  -- it is just its header
  pub inside : (l.size ≤ packet_length seg l frame) × (packet_length seg l frame ≤ length frame)
  unfolding n
  inside = (sizes.0, omega (arith, sizes.1))

  pub frame-fills : frame_length seg (packet_length seg l frame) ≡ length frame
  unfolding n
  frame-fills = sizes.1

  pub header-only : l.strings ≡ false → has_lv (fields l) ≡ false → packet_length seg l frame ≡ l.size
  unfolding n
  header-only = sizes.3

  header-again : AreBytes frame → header l (last_used seg (packet_length seg l frame)) (free_in l frame) ≡ take l.size frame
  unfolding n xs
  header-again bytes =
      ap (λ (ys : List ℕ). bytes_of l.size (pack (widths (fields l)) ys)) sizes.2
      ∙ ap (λ (x : ℕ). bytes_of l.size (pack (widths (fields l)) (unpack (widths (fields l)) x))) (sym (number-take 0 l.size frame))
      ∙ re_read (eights l.size) (widths (fields l)) (take l.size frame) (sym sound.bits) (bytes-range l.size frame (omega (arith, inside.0, inside.1)) bytes)

  pub frame-again : AreBytes frame → frame_as seg l (free_in l frame) (take (packet_length seg l frame - l.size) (drop l.size frame)) ≡ frame
  unfolding framed n
  frame-again bytes =
      let k = l.size in
      let m = packet_length seg l frame in
      let user = take (m - k) (drop k frame) in
      let ld : length user ≡ m - k = length-take-le (m - k) (drop k frame) (simp length-drop (omega (arith, inside.1))) in
      let ln : k + length user ≡ m = omega (arith, ld, inside.0) in
      let h = header l (last_used seg m) (free_in l frame) in
      let gap : padding seg (length h + length user) ≡ length (drop m frame) =
      ap (padding seg) (ap (λ (x : ℕ). x + length user) (header-length l (last_used seg m) (free_in l frame)) ∙ ln) ∙ omega (arith, frame-fills, length-drop m frame) in
      let pad : replicate (padding seg (length h + length user)) 0 ≡ drop m frame = ap (λ (x : ℕ). replicate x 0) gap ∙ sym (zero-zeros (drop m frame) zeros) in
      let sum : m ≡ k + (m - k) = omega (arith, inside.0) in
      let split : drop m frame ≡ drop (m - k) (drop k frame) = ap (λ (x : ℕ). drop x frame) sum ∙ sym (drop-drop (m - k) k frame) in
      ap (λ (x : ℕ). framed seg (header l (last_used seg x) (free_in l frame)) user) ln
      ∙ ap (λ (z : List ℕ). h ++ (user ++ z)) (pad ∙ split)
      ∙ ap (λ (z : List ℕ). z ++ (user ++ drop (m - k) (drop k frame))) (header-again bytes)
      ∙ ap (λ (z : List ℕ). take k frame ++ z) (take-append-drop (m - k) (drop k frame))
      ∙ take-append-drop k frame
