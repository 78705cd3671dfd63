-- What the checks of reading come to, case by case: the premises are the tests that the code makes.
-- Assumes nothing.
use mathlib.Core.Path.{◌≡◌, refl, sym, ap, ap₂, ◌∙◌, subst}
use mathlib.Core.Bool.{Bool, true, false, cond, ◌&&◌, ◌||◌, not, true≢false}
use mathlib.Core.List.{List, ◌∷◌}
use mathlib.Core.Logic.{◌⊎◌, inl, inr}
use Prim.Native.Nat.{ℕ, ◌+◌, ◌-◌, ◌*◌, ◌/◌, ◌%◌, ◌^◌, ◌<◌, ◌≤◌, min}
use native.Mathlib.Omega.{arith}
use lib.Count.{count_leading_zeros}
use lib.Dec.{leb, ltb, eqb}
use lib.ListN.{length, drop, get_or, length-drop}
use borrow.Author.Tests.{le-leb, lt-leb, leb-true, leb-false, lt-ltb, le-ltb, ltb-true, ltb-false, eq-eqb, ne_eqb, eqb-true, eqb-false}
use Rattle.refusal.specs.declared.Refusal.{Refusal}
use Rattle.refusal.specs.declared.Refusal.TheVariants.{OutOfRange, Malformed, FormatError, PacketTooLong}
use Rattle.refusal.specs.Numbers.{number_of}
use Rattle.refusal.specs.Positions.{refused_at, check_at}
use Rattle.refusal.proofs.Checks.{both_true}
use Rattle.lists.specs.Lists.{over}
use Rattle.frame_fields.specs.Rows.{number_in}
use Rattle.frame_fields.specs.Layouts.{Layout, fields, has_lv, values_in, free_values, wrong_byte}
use Rattle.frame_fields.specs.Masks.{want, mask, wrong_bits}
use Rattle.frame_fields.proofs.Masks.{wrong-lt, mask_bound, wrong-at, wrong-none, wrong-some}
use Rattle.frame_form.specs.declared.Form.{Form}
use Rattle.frame_form.specs.Forms.{seg_of, most_of, form_valid, form_at}
use Rattle.frame_form.specs.Segments.{frame_length, whole_segments}
use Rattle.frame_form.specs.Frames.{all_zero}
use Rattle.frame_form.proofs.Forms.{segment-seven, segment-some}
use Rattle.frame_form.proofs.Segments.{padding-below, whole-some, whole-none-over, whole-next, frame-end}
use Rattle.frame_kinds.specs.declared.Found.{Found}
use Rattle.frame_kinds.specs.declared.Found.TheVariants.{Known, Route, Unknown}
use Rattle.frame_kinds.specs.Kinds.{ten_of}
use Rattle.frame_reader.specs.declared.Head.{Head}
use Rattle.frame_reader.specs.Faults.{lv_of, last_of, first_end, has_second, strings_end, first_right, packet_length, length_right, length_byte, zeros_first, tail_fault, first_fault}
use Rattle.frame_reader.specs.Reading.{found_in, fault_of, length_in, header_length, packet_in, read_checks, fault_answer, read_answer, read_bytes}
use Rattle.frame_reader.specs.Parts.{layout_for, row_by, length_by_strings, length_for, head_by, byte_for, places_by, found_number, tail_position, strings_of, Named, Headed, look_answer, look_bytes}
use Rattle.frame_reader.proofs.Zeros.{count-le, all_after, some_after}
use Rattle.frame_reader.proofs.Rows.{Readable, readable}
use Rattle.frame_reader.proofs.Founds.{strings-are}
use Rattle.std.specs.Prelude.{Ok}

-- ---- the answers, from the checks

module _ (form : ℕ) (frame : List ℕ) (why : Refusal) (at : ℕ) (e : read_checks (form_at form) frame ≡ refused_at why at) where
  pub refused-answer : (places : ℕ) → read_answer form frame places ≡ number_of why
  unfolding read_answer
  refused-answer places = rw e

  pub refused-bytes : (bytes : List ℕ) → read_bytes form frame bytes ≡ bytes
  unfolding read_bytes
  refused-bytes bytes = rw e

  pub refused-fault : fault_answer form frame ≡ at
  unfolding fault_answer
  refused-fault = rw e

module _ (form : ℕ) (frame : List ℕ) (e : read_checks (form_at form) frame ≡ Ok tt) where
  pub short-answer : (places : ℕ) → places < 10 → read_answer form frame places ≡ 5
  unfolding read_answer
  short-answer places h = rw (e, lt-leb 10 places h)

  pub short-bytes : (bytes : List ℕ) → length bytes < 10 → read_bytes form frame bytes ≡ bytes
  unfolding read_bytes
  short-bytes bytes h = rw (e, lt-leb 10 (length bytes) h)

  pub passed-answer : (found : Found) (places n : ℕ) → found_in frame ≡ found → 10 ≤ places → length_in found (form_at form) frame ≡ n
      → read_answer form frame places ≡ 256 * (header_length found + 256 * (n - header_length found))
  unfolding read_answer
  passed-answer found places n f h en = rw (e, le-leb 10 places h, f, en)

  pub passed-bytes : (found : Found) (bytes : List ℕ) → found_in frame ≡ found → 10 ≤ length bytes → read_bytes form frame bytes ≡ over (packet_in found (form_at form) frame) bytes
  unfolding read_bytes
  passed-bytes found bytes f h = rw (e, le-leb 10 (length bytes) h, f)

  pub passed-fault : fault_answer form frame ≡ 0
  unfolding fault_answer
  passed-fault = rw e

-- ---- a form that is not valid, and a frame that has no whole segments

pub form-refused : (form : Form) (frame : List ℕ) → form_valid form ≡ false → read_checks form frame ≡ refused_at OutOfRange 0
unfolding read_checks
form-refused form frame e = rw e

pub shape-refused : (form : Form) (frame : List ℕ) → form_valid form ≡ true → whole_segments (seg_of form) (length frame) ≡ false
    → read_checks form frame ≡ refused_at Malformed (length frame)
unfolding read_checks
shape-refused form frame valid e = rw (valid, e)

-- ---- a frame of whole segments

module _ (form : Form) (frame : List ℕ) (valid : form_valid form ≡ true) (whole : whole_segments (seg_of form) (length frame) ≡ true) where
  -- it is refused at its first fault, if it has one
  pub fault-refused : (at : ℕ) → fault_of (found_in frame) form frame ≡ at → at < length frame → read_checks form frame ≡ refused_at FormatError at
  unfolding read_checks
  fault-refused at e h = rw (valid, whole, e, ne_eqb at (length frame) (λ q. omega (arith, q, h)))

  -- and else judged by the packet's length
  pub no-fault : (n : ℕ) → fault_of (found_in frame) form frame ≡ length frame → length_in (found_in frame) form frame ≡ n
      → read_checks form frame ≡ check_at (leb n (most_of form)) PacketTooLong (most_of form) (Ok tt)
  unfolding read_checks
  no-fault n e en = rw (valid, whole, e, eq-eqb (length frame) (length frame) refl, en)

-- ---- a frame of whole segments whose first byte names no kind

pub unknown-refused : (form : Form) (frame : List ℕ) → form_valid form ≡ true → whole_segments (seg_of form) (length frame) ≡ true → found_in frame ≡ Unknown
    → read_checks form frame ≡ refused_at FormatError 0
unknown-refused form frame valid whole e =
    fault-refused form frame valid whole 0 (ap (λ (f : Found). fault_of f form frame) e)
    (omega (arith, segment-some form, whole-some (seg_of form) (length frame) (segment-some form) whole))

-- ---- and one that names a kind

-- what was found says by which layout the frame is read
pub read_by : (form : Form) (frame : List ℕ) (found : Found) → (found ≡ Unknown → ⊥)
    → (fault_of found form frame ≡ first_fault (seg_of form) (layout_for form found) frame)
    × (length_in found form frame ≡ packet_length (seg_of form) (layout_for form found) frame) × (header_length found ≡ (layout_for form found).size)
read_by form frame (Known k) some = (refl, refl, refl)
read_by form frame Route some = (refl, refl, refl)
read_by form frame Unknown some = absurd (some refl)

-- its packet is ten bytes
pub packet-is : (form : Form) (frame : List ℕ) (found : Found) → (found ≡ Unknown → ⊥)
    → found_number found ∷ places_by (layout_for form found) (number_in (layout_for form found).size frame) ≡ packet_in found form frame
unfolding ten_of
packet-is form frame (Known k) some = refl
packet-is form frame Route some = refl
packet-is form frame Unknown some = absurd (some refl)

-- by the layout l: the header as a number, its wrong bits, and the packet's length, 0 if LV or a
-- length is wrong
abbrev pub header_of : Layout → List ℕ → ℕ
header_of l frame = number_in l.size frame

abbrev pub wrong_of : Layout → List ℕ → ℕ
wrong_of l frame = wrong_bits (fields l) (header_of l frame)

abbrev pub length_of : Form → Layout → List ℕ → ℕ
length_of form l frame = length_for (seg_of form) frame (row_by l) (header_of l frame)

-- what the packet's length says of what tells it
pub record Measured (form : Form) (l : Layout) (frame : List ℕ) : Type 0 where
  pub right : length_right (seg_of form) l frame ≡ true
  pub packet : packet_length (seg_of form) l frame ≡ length_of form l frame
  pub header : l.size ≤ length_of form l frame
  pub inside : length_of form l frame ≤ length frame

-- it is wrong and the length is 0, or the packet has its length
abbrev Judged : Form → Layout → List ℕ → Type 0
Judged form l frame = ((length_right (seg_of form) l frame ≡ false) × (length_of form l frame ≡ 0)) ⊎ Measured form l frame

-- strings end after the header
pub ends-after : (b : Bool) (size x y : ℕ) → size ≤ cond b (size + x + 1 + y) (size + x)
ends-after true size x y = omega arith
ends-after false size x y = omega arith

-- if a length is wrong, that of the second string is, or that of the first
second-byte : (b : Bool) (first x len byte : ℕ) → (cond b (ltb first len) (leb first len) && leb (cond b (first + 1 + x) first) len) ≡ false
    → cond (cond b (ltb first len) (leb first len)) first byte ≡ cond (b && ltb first len) first byte
second-byte true first x len byte e = refl
second-byte false first x len byte e = go (leb first len) refl
  where
    go : (t : Bool) → leb first len ≡ t → cond (leb first len) first byte ≡ byte
    go true q =
        let both : (leb first len && leb first len) ≡ true = rw q in
        absurd (true≢false (sym both ∙ e))
    go false q = rw q

-- the byte is in the frame
byte_inside : (frame : List ℕ) (size : ℕ) (strings : Bool) (h : ℕ) → size - 1 < length frame → byte_for frame size strings h < length frame
byte_inside frame size strings h small = go strings (eqb (h / 512 % 2) 1) (ltb (size + h % 256) (length frame)) refl refl refl
  where
    go : (a b t : Bool) → strings ≡ a → eqb (h / 512 % 2) 1 ≡ b → ltb (size + h % 256) (length frame) ≡ t
        → cond (strings && (eqb (h / 512 % 2) 1 && ltb (size + h % 256) (length frame))) (size + h % 256) (size - 1) < length frame
    go false b t ea eb et = rw ea small
    go true false t ea eb et = rw (ea, eb) small
    go true true false ea eb et = rw (ea, eb, et) small
    go true true true ea eb et = rw (ea, eb, et) (ltb-true (size + h % 256) (length frame) et)

module _ (form : Form) (frame : List ℕ) (l : Layout) (r : Readable l) (some : seg_of form ≤ length frame) where
  size-inside : l.size ≤ length frame
  size-inside = omega (arith, r.few.1, segment-seven form, some)

  by-header : l.strings ≡ false → has_lv (fields l) ≡ false → Judged form l frame
  unfolding row_by length_right packet_length
  by-header es e =
      let n : length_of form l frame ≡ l.size = rw (es, e) in
      inr (record { right = rw (es, e); packet = rw (es, e); header = omega (arith, n); inside = omega (arith, n, size-inside) })

  by-lv : l.strings ≡ false → has_lv (fields l) ≡ true → Judged form l frame
  unfolding row_by length_right packet_length
  by-lv es e = go (leb 1 u && (leb u (seg_of form) && leb l.size m)) refl
    where
      u : ℕ
      u = header_of l frame % 16

      m : ℕ
      m = length frame - seg_of form + u

      lv-is : lv_of l frame ≡ u
      lv-is = r.lv-is (header_of l frame) e

      go : (t : Bool) → (leb 1 u && (leb u (seg_of form) && leb l.size m)) ≡ t
          → ((length_right (seg_of form) l frame ≡ false) × (length_of form l frame ≡ 0)) ⊎ Measured form l frame
      go false q = inl (rw (es, e, lv-is) q, rw (es, e, q))
      go true q =
          let a = both_true (leb 1 u) (leb u (seg_of form) && leb l.size m) q in
          let b = both_true (leb u (seg_of form)) (leb l.size m) a.1 in
          let n : length_of form l frame ≡ m = rw (es, e, q) in
          inr (record {
            right = rw (es, e, lv-is) q;
            packet = rw (es, e, lv-is, q);
            header = omega (arith, n, leb-true l.size m b.1);
            inside = omega (arith, n, leb-true u (seg_of form) b.0, some);
          })

  by-strings : l.strings ≡ true → Judged form l frame
  unfolding row_by length_right packet_length
  by-strings es = go (first_right l frame && leb (strings_end l frame) (length frame)) refl
    where
      same : length_of form l frame ≡ cond (first_right l frame && leb (strings_end l frame) (length frame)) (strings_end l frame) 0
      same = rw es (ap₂ (λ (y x : ℕ). length_by_strings frame l.size y (eqb x 1)) (sym (r.first-is (header_of l frame) es)) (sym (r.second_is (header_of l frame) es)))

      go : (t : Bool) → (first_right l frame && leb (strings_end l frame) (length frame)) ≡ t
          → ((length_right (seg_of form) l frame ≡ false) × (length_of form l frame ≡ 0)) ⊎ Measured form l frame
      go false q = inl (rw es q, same ∙ rw q)
      go true q =
          let n : length_of form l frame ≡ strings_end l frame = same ∙ rw q in
          inr (record {
            right = rw es q;
            packet = ap (λ (b : Bool). cond b (strings_end l frame) (cond (has_lv (fields l)) (length frame - seg_of form + lv_of l frame) l.size)) es ∙ sym n;
            header = omega (arith, n, ends-after (has_second l frame) l.size (last_of (free_values (fields l) (values_in l frame))) (get_or frame (first_end l frame) 0));
            inside = omega (arith, n, leb-true (strings_end l frame) (length frame) (both_true (first_right l frame) (leb (strings_end l frame) (length frame)) q).1);
          })

  judged : Judged form l frame
  judged = go l.strings (has_lv (fields l)) refl refl
    where
      go : (a b : Bool) → l.strings ≡ a → has_lv (fields l) ≡ b → Judged form l frame
      go true b ea eb = by-strings ea
      go false true ea eb = by-lv ea eb
      go false false ea eb = by-header ea eb

  -- so it is 0 exactly if that is wrong
  pub measured : (length_of form l frame ≡ 0 → ⊥) → Measured form l frame
  measured more = go judged
    where
      go : Judged form l frame → Measured form l frame
      go (inl p) = absurd (more p.1)
      go (inr q) = q

  pub length-le : length_of form l frame ≤ length frame
  length-le = go judged
    where
      go : Judged form l frame → length_of form l frame ≤ length frame
      go (inl p) = omega (arith, p.1)
      go (inr q) = q.inside

  not_right : length_of form l frame ≡ 0 → length_right (seg_of form) l frame ≡ false
  not_right z = go judged
    where
      go : Judged form l frame → length_right (seg_of form) l frame ≡ false
      go (inl p) = p.0
      go (inr q) = absurd (omega (arith, q.header, z, r.few.0))

  -- and then this byte is
  pub byte-is : length_right (seg_of form) l frame ≡ false → length_byte l frame ≡ byte_for frame l.size l.strings (header_of l frame)
  unfolding length_byte length_right
  byte-is wrong = go l.strings refl
    where
      h : ℕ
      h = header_of l frame

      go : (a : Bool) → l.strings ≡ a → cond (l.strings && first_right l frame) (first_end l frame) (l.size - 1)
          ≡ cond (l.strings && (eqb (h / 512 % 2) 1 && ltb (l.size + h % 256) (length frame))) (l.size + h % 256) (l.size - 1)
      go false e = rw e
      go true e =
          rw (e, ← (r.second_is (header_of l frame) e), ← (r.first-is (header_of l frame) e))
          (second-byte (has_second l frame) (first_end l frame) (get_or frame (first_end l frame) 0) (length frame) (l.size - 1) (sym (rw e) ∙ wrong))

module _ (form : Form) (frame : List ℕ) (found : Found) (nm : Named form frame found) where
  abbrev l : Layout
  l = layout_for form found

  some : seg_of form ≤ length frame
  some = whole-some (seg_of form) (length frame) (segment-some form) nm.whole

  pub multiple : length frame % seg_of form ≡ 0
  multiple = whole-none-over (seg_of form) (length frame) nm.whole

  pub header-inside : (1 ≤ l.size) × (l.size ≤ 7) × (7 ≤ length frame)
  header-inside = omega (arith, (readable form found).few.0, (readable form found).few.1, segment-seven form, some)

  pub inside-le : length_of form (layout_for form found) frame ≤ length frame
  inside-le = length-le form frame l (readable form found) some

  pub told : (length_of form (layout_for form found) frame ≡ 0 → ⊥) → Measured form (layout_for form found) frame
  told = measured form frame l (readable form found) some

  -- a wrong header is refused at the byte of its highest wrong bit
  pub wrong-small : wrong_of (layout_for form found) frame < 2 ^ (8 * (layout_for form found).size)
  wrong-small =
      wrong-lt (8 * (layout_for form found).size) (header_of (layout_for form found) frame) (want (fields l)) (mask (fields l)) (mask_bound l (readable form found).sound-is.bits (readable form found).sound-is.bytewise)

  pub wrong-refused : (wrong_of (layout_for form found) frame ≡ 0 → ⊥) → read_checks form frame ≡ refused_at FormatError (count_leading_zeros (8 * (layout_for form found).size) (wrong_of (layout_for form found) frame) / 8)
  unfolding first_fault
  wrong-refused w =
      let h = wrong-some l (readable form found).sound-is.bits (readable form found).sound-is.bytewise frame w in
      let pos = wrong-at l (readable form found).sound-is.bits (readable form found).sound-is.bytewise frame in
      let at : fault_of (found_in frame) form frame ≡ wrong_byte l frame =
      ap (λ (f : Found). fault_of f form frame) nm.found-is ∙ (read_by form frame found nm.some).0
      ∙ ap (λ (b : Bool). cond b (wrong_byte l frame) (cond (length_right (seg_of form) l frame) (tail_fault (seg_of form) (packet_length (seg_of form) l frame) frame) (length_byte l frame))) (lt-ltb (wrong_byte l frame) l.size h) in
      fault-refused form frame nm.valid nm.whole (count_leading_zeros (8 * (layout_for form found).size) (wrong_of (layout_for form found) frame) / 8) (at ∙ sym pos)
      (omega (arith, pos, h, header-inside.1, header-inside.2))

  -- a right one leaves the fault to what follows it
  module _ (w : wrong_of (layout_for form found) frame ≡ 0) where
    after-header : (b : Bool) → length_right (seg_of form) (layout_for form found) frame ≡ b
        → fault_of (found_in frame) form frame ≡ cond b (tail_fault (seg_of form) (packet_length (seg_of form) (layout_for form found) frame) frame) (length_byte (layout_for form found) frame)
    unfolding first_fault
    after-header b e =
        let none : wrong_byte l frame ≡ l.size = wrong-none l (readable form found).sound-is.bits (readable form found).sound-is.bytewise frame w in
        ap (λ (f : Found). fault_of f form frame) nm.found-is ∙ (read_by form frame found nm.some).0 ∙ rw (none, le-ltb l.size l.size (omega arith), e)

    pub length-refused : length_of form (layout_for form found) frame ≡ 0
        → read_checks form frame ≡ refused_at FormatError (byte_for frame (layout_for form found).size (layout_for form found).strings (header_of (layout_for form found) frame))
    length-refused z =
        let wrong = not_right form frame l (readable form found) some z in
        let e = byte-is form frame l (readable form found) some wrong in
        fault-refused form frame nm.valid nm.whole _ (after-header false wrong ∙ e)
        (byte_inside frame (layout_for form found).size (layout_for form found).strings (header_of (layout_for form found) frame) (omega (arith, header-inside.0, header-inside.1, header-inside.2)))

    module _ (more : length_of form (layout_for form found) frame ≡ 0 → ⊥) where
      fault-is : fault_of (found_in frame) form frame ≡ tail_fault (seg_of form) (length_of form (layout_for form found) frame) frame
      fault-is = after-header true (told more).right ∙ ap (λ (n : ℕ). tail_fault (seg_of form) n frame) (told more).packet

      pub tail-refused : tail_fault (seg_of form) (length_of form (layout_for form found) frame) frame < length frame
          → read_checks form frame ≡ refused_at FormatError (tail_fault (seg_of form) (length_of form (layout_for form found) frame) frame)
      tail-refused h = fault-refused form frame nm.valid nm.whole (tail_fault (seg_of form) (length_of form (layout_for form found) frame) frame) fault-is h

      pub tail-left : tail_fault (seg_of form) (length_of form (layout_for form found) frame) frame ≡ length frame
          → read_checks form frame ≡ check_at (leb (length_of form (layout_for form found) frame) (most_of form)) PacketTooLong (most_of form) (Ok tt)
      tail-left e =
          no-fault form frame nm.valid nm.whole (length_of form (layout_for form found) frame) (fault-is ∙ e)
          (ap (λ (f : Found). length_in f form frame) nm.found-is ∙ (read_by form frame found nm.some).1 ∙ (told more).packet)

-- ---- the bytes after a packet of n bytes

pub tail-le : (seg n : ℕ) (frame : List ℕ) → n ≤ length frame → tail_fault seg n frame ≤ length frame
unfolding tail_fault
tail-le seg n frame inside = omega (arith, count-le (drop n frame), length-drop n frame, inside)

module _ (seg n : ℕ) (frame : List ℕ) (one : 1 ≤ seg) (multiple : length frame % seg ≡ 0) (inside : n ≤ length frame) where
  -- a segment or more after it: some byte lies past its segments
  pub tail-past : seg ≤ length frame - n → tail_fault seg n frame < length frame
  unfolding tail_fault
  tail-past h = omega (arith, padding-below seg n one, h, inside)

  -- less than a segment: what follows is padding
  pub tail-here : length frame - n < seg → tail_fault seg n frame ≡ n + zeros_first (drop n frame)
  unfolding tail_fault
  tail-here h =
      let e = whole-next seg (length frame) n one multiple inside h in
      omega (arith, e, count-le (drop n frame), length-drop n frame, inside)

  -- in general, it is the first byte that is not 0, or the end of the segments
  pub tail-is : (end at : ℕ) → end ≡ length frame - (length frame - n) / seg * seg → at ≡ n + zeros_first (drop n frame) → tail_fault seg n frame ≡ min end at
  unfolding tail_fault
  tail-is end at ee ea =
      let e : frame_length seg n ≡ end = frame-end seg (length frame) n one multiple inside ∙ sym ee in
      rw (e, ← ea)

-- ---- the tests that the code makes

-- what the code has seen of a frame's header
module _ (form : Form) (found : Found) (frame : List ℕ) (head : Head) (s : Headed form frame found head) where
  abbrev n : ℕ
  n = head.len

  pub seen_size : head.size ≡ (layout_for form found).size
  unfolding head_by row_by
  seen_size = ap (λ (x : Head). x.size) s.head-is

  pub seen-header : head.number ≡ header_of (layout_for form found) frame
  unfolding head_by row_by
  seen-header = ap (λ (x : Head). x.number) s.head-is

  pub seen-wrong : head.wrong ≡ wrong_of (layout_for form found) frame
  unfolding head_by row_by
  seen-wrong = ap (λ (x : Head). x.wrong) s.head-is

  pub seen-length : head.len ≡ length_of form (layout_for form found) frame
  unfolding head_by row_by
  seen-length = ap (λ (x : Head). x.len) s.head-is

  pub seen-inside : n ≤ length frame
  seen-inside = omega (arith, seen-length, inside-le form frame found s.named)

  -- one of the three faults that are asked together
  pub bad-refused : (seg : ℕ) → seg ≡ seg_of form → (not (eqb head.wrong 0) || eqb n 0 || leb seg (length frame - n)) ≡ true
      → (at : ℕ) × (read_checks form frame ≡ refused_at FormatError at)
  bad-refused seg es t = go (eqb head.wrong 0) (eqb n 0) refl refl
    where
      w : ℕ
      w = head.wrong

      go : (a b : Bool) → eqb w 0 ≡ a → eqb n 0 ≡ b → (at : ℕ) × (read_checks form frame ≡ refused_at FormatError at)
      go false b ea eb = (_, wrong-refused form frame found s.named (λ z. eqb-false w 0 ea (seen-wrong ∙ z)))
      go true true ea eb = (_, length-refused form frame found s.named (sym seen-wrong ∙ eqb-true w 0 ea) (sym seen-length ∙ eqb-true n 0 eb))
      go true false ea eb =
          let far : leb seg (length frame - n) ≡ true = sym (rw (ea, eb)) ∙ t in
          let past : seg_of form ≤ length frame - length_of form (layout_for form found) frame = omega (arith, leb-true seg (length frame - n) far, es, seen-length) in (
            _,
            tail-refused form frame found s.named (sym seen-wrong ∙ eqb-true w 0 ea) (λ z. eqb-false n 0 eb (seen-length ∙ z))
                (tail-past (seg_of form) (length_of form (layout_for form found) frame) frame (segment-some form) (multiple form frame found s.named) (inside-le form frame found s.named) past),
          )

  -- none of them
  pub none-bad : (seg : ℕ) → seg ≡ seg_of form → (not (eqb head.wrong 0) || eqb n 0 || leb seg (length frame - n)) ≡ false
      → (wrong_of (layout_for form found) frame ≡ 0) × (length_of form (layout_for form found) frame ≡ 0 → ⊥) × (tail_fault (seg_of form) n frame ≡ n + zeros_first (drop n frame))
  none-bad seg es t = go (eqb w 0) (eqb n 0) (leb seg (length frame - n)) refl refl refl
    where
      w : ℕ
      w = head.wrong

      go : (a b d : Bool) → eqb w 0 ≡ a → eqb n 0 ≡ b → leb seg (length frame - n) ≡ d
          → (wrong_of (layout_for form found) frame ≡ 0) × (length_of form (layout_for form found) frame ≡ 0 → ⊥) × (tail_fault (seg_of form) n frame ≡ n + zeros_first (drop n frame))
      go false b d ea eb ed = absurd (true≢false (sym (rw ea) ∙ t))
      go true true d ea eb ed = absurd (true≢false (sym (rw (ea, eb)) ∙ t))
      go true false true ea eb ed = absurd (true≢false (sym (rw (ea, eb, ed)) ∙ t))
      go true false false ea eb ed = (
        sym seen-wrong ∙ eqb-true w 0 ea,
        (λ z. eqb-false n 0 eb (seen-length ∙ z)),
        tail-here (seg_of form) n frame (segment-some form) (multiple form frame found s.named) seen-inside (omega (arith, leb-false seg (length frame - n) ed, es)),
      )

  -- nothing is wrong but what follows the packet: it decides, and then the packet's length
  module _ (w : wrong_of (layout_for form found) frame ≡ 0) (more : length_of form (layout_for form found) frame ≡ 0 → ⊥) where
    pub seen-packet : (packet_length (seg_of form) (layout_for form found) frame ≡ n) × (head.size ≤ n)
    seen-packet = let m = told form frame found s.named more in (m.packet ∙ sym seen-length, omega (arith, m.header, seen_size, seen-length))

    pub seen-tail : tail_fault (seg_of form) n frame < length frame → read_checks form frame ≡ refused_at FormatError (tail_fault (seg_of form) n frame)
    seen-tail h =
        let e = ap (λ (x : ℕ). tail_fault (seg_of form) x frame) seen-length in
        tail-refused form frame found s.named w more (omega (arith, e, h)) ∙ ap (refused_at FormatError) (sym e)

    pub seen-left : tail_fault (seg_of form) n frame ≡ length frame → read_checks form frame ≡ check_at (leb n (most_of form)) PacketTooLong (most_of form) (Ok tt)
    seen-left e =
        tail-left form frame found s.named w more (sym (ap (λ (x : ℕ). tail_fault (seg_of form) x frame) seen-length) ∙ e)
        ∙ ap (λ (x : ℕ). check_at (leb x (most_of form)) PacketTooLong (most_of form) (Ok tt)) (sym seen-length)

    pub seen-long : tail_fault (seg_of form) n frame ≡ length frame → most_of form < n → read_checks form frame ≡ refused_at PacketTooLong (most_of form)
    seen-long e h = seen-left e ∙ ap (λ (b : Bool). check_at b PacketTooLong (most_of form) (Ok tt)) (lt-leb n (most_of form) h)

    pub seen-reads : tail_fault (seg_of form) n frame ≡ length frame → n ≤ most_of form → read_checks form frame ≡ Ok tt
    seen-reads e h = seen-left e ∙ ap (λ (b : Bool). check_at b PacketTooLong (most_of form) (Ok tt)) (le-leb n (most_of form) h)

-- none of the three faults that are asked together: the padding decides, and then the packet's
-- length
module _ (form : Form) (found : Found) (frame : List ℕ) (head : Head) (s : Headed form frame found head) (seg : ℕ) (es : seg ≡ seg_of form)
    (t : (not (eqb head.wrong 0) || eqb head.len 0 || leb seg (length frame - head.len)) ≡ false) where
  clean : (wrong_of (layout_for form found) frame ≡ 0) × (length_of form (layout_for form found) frame ≡ 0 → ⊥) × (tail_fault (seg_of form) head.len frame ≡ head.len + zeros_first (drop head.len frame))
  clean = none-bad form found frame head s seg es t

  pub clean-packet : (packet_length (seg_of form) (layout_for form found) frame ≡ head.len) × (head.size ≤ head.len)
  clean-packet = seen-packet form found frame head s clean.0 clean.1

  padded : all_zero (drop head.len frame) ≡ true → tail_fault (seg_of form) head.len frame ≡ length frame
  padded z =
      clean.2 ∙ omega (arith, all_after head.len frame z, count-le (drop head.len frame), length-drop head.len frame, seen-inside form found frame head s)

  pub clean-long : all_zero (drop head.len frame) ≡ true → most_of form < head.len → read_checks form frame ≡ refused_at PacketTooLong (most_of form)
  clean-long z h = seen-long form found frame head s clean.0 clean.1 (padded z) h

  pub clean-reads : all_zero (drop head.len frame) ≡ true → head.len ≤ most_of form → read_checks form frame ≡ Ok tt
  clean-reads z h = seen-reads form found frame head s clean.0 clean.1 (padded z) h

  pub clean-padding : all_zero (drop head.len frame) ≡ false → read_checks form frame ≡ refused_at FormatError (tail_fault (seg_of form) head.len frame)
  clean-padding z = seen-tail form found frame head s clean.0 clean.1 (omega (arith, clean.2, some_after head.len frame z))

-- ---- what the calls do then

-- they refuse
pub refused-call : (form : ℕ) (frame packet : List ℕ) (why : Refusal) (at : ℕ) → read_checks (form_at form) frame ≡ refused_at why at
    → (number_of why ≡ read_answer form frame (length packet)) × (packet ≡ read_bytes form frame packet)
refused-call form frame packet why at e = (sym (refused-answer form frame why at e (length packet)), sym (refused-bytes form frame why at e packet))

module _ (form : ℕ) (found : Found) (frame : List ℕ) (head : Head) (s : Headed (form_at form) frame found head) where
  -- a header has 1 to 7 bytes, and its wrong bits are its own
  pub seen-sizes : (1 ≤ head.size) × (head.size ≤ 7)
  seen-sizes = let h = header-inside (form_at form) frame found s.named in omega (arith, h.0, h.1, seen_size (form_at form) found frame head s)

  pub seen-small : head.wrong < 2 ^ (8 * head.size)
  seen-small =
      let small : wrong_of (layout_for (form_at form) found) frame < 2 ^ (8 * head.size) =
      subst (λ (x : ℕ). wrong_of (layout_for (form_at form) found) frame < 2 ^ (8 * x)) (sym (seen_size (form_at form) found frame head s)) (wrong-small (form_at form) frame found s.named) in
      omega (arith, seen-wrong (form_at form) found frame head s, small)

  -- the position of a fault is that of the highest wrong bit
  pub wrong-position : (head.wrong ≡ 0 → ⊥) → count_leading_zeros (8 * head.size) head.wrong / 8 ≡ fault_answer form frame
  wrong-position h =
      ap₂ (λ (x w : ℕ). count_leading_zeros (8 * x) w / 8) (seen_size (form_at form) found frame head s) (seen-wrong (form_at form) found frame head s)
      ∙ sym (refused-fault form frame FormatError _ (wrong-refused (form_at form) frame found s.named (λ z. h (seen-wrong (form_at form) found frame head s ∙ z))))

  -- or of the length that is wrong
  pub length-position : head.wrong ≡ 0 → head.len ≡ 0 → byte_for frame head.size (strings_of found) head.number ≡ fault_answer form frame
  length-position w z =
      let f = form_at form in
      (λ i. byte_for frame (seen_size f found frame head s i) (strings-are f found i) (seen-header f found frame head s i))
      ∙ sym (refused-fault form frame FormatError _ (length-refused f frame found s.named (sym (seen-wrong f found frame head s) ∙ w) (sym (seen-length f found frame head s) ∙ z)))

-- or that of the tail
pub seen-position : (form : ℕ) (found : Found) (frame : List ℕ) (head : Head) → Headed (form_at form) frame found head
    → head.wrong ≡ 0 → (head.len ≡ 0 → ⊥) → tail_position (form_at form) head.len frame ≡ fault_answer form frame
seen-position form found frame head s none some = go (ltb t (length frame)) refl
  where
    w : wrong_of (layout_for (form_at form) found) frame ≡ 0
    w = sym (seen-wrong (form_at form) found frame head s) ∙ none

    more : length_of (form_at form) (layout_for (form_at form) found) frame ≡ 0 → ⊥
    more z = some (seen-length (form_at form) found frame head s ∙ z)

    n : ℕ
    n = head.len

    t : ℕ
    t = tail_fault (seg_of (form_at form)) n frame

    full : ltb t (length frame) ≡ false → tail_fault (seg_of (form_at form)) n frame ≡ length frame
    full e = omega (arith, ltb-false t (length frame) e, tail-le (seg_of (form_at form)) n frame (seen-inside (form_at form) found frame head s))

    long : (b : Bool) → ltb (most_of (form_at form)) n ≡ b → ltb t (length frame) ≡ false → cond b (most_of (form_at form)) 0 ≡ fault_answer form frame
    long true q e = sym (refused-fault form frame PacketTooLong (most_of (form_at form)) (seen-long (form_at form) found frame head s w more (full e) (ltb-true (most_of (form_at form)) n q)))
    long false q e = sym (passed-fault form frame (seen-reads (form_at form) found frame head s w more (full e) (omega (arith, ltb-false (most_of (form_at form)) n q))))

    go : (b : Bool) → ltb t (length frame) ≡ b → tail_position (form_at form) head.len frame ≡ fault_answer form frame
    go true e = rw e (sym (refused-fault form frame FormatError t (seen-tail (form_at form) found frame head s w more (ltb-true t (length frame) e))))
    go false e = rw e (long (ltb (most_of (form_at form)) n) refl e)

-- ---- the position of the tail, by the tests that the code makes

-- where it is, in a frame of whole segments
pub whole-tail : (form : Form) (frame : List ℕ) (n seg at : ℕ) → length frame % seg_of form ≡ 0 → seg ≡ seg_of form → n ≤ length frame
    → at ≡ n + zeros_first (drop n frame) → tail_fault (seg_of form) n frame ≡ min (length frame - (length frame - n) / seg * seg) at
whole-tail form frame n seg at whole es inside ea =
    tail-is (seg_of form) n frame (segment-some form) whole inside _ at (ap (λ (x : ℕ). length frame - (length frame - n) / x * x) es) ea

module _ (form : Form) (n : ℕ) (frame : List ℕ) (end at : ℕ) (is : tail_fault (seg_of form) n frame ≡ min end at) where
  pub at_first : at < end → at < length frame → at ≡ tail_position form n frame
  at_first h g = let e : tail_fault (seg_of form) n frame ≡ at = omega (arith, is, h) in rw (e, lt-ltb at (length frame) g)

  pub end-first : end ≤ at → end < length frame → end ≡ tail_position form n frame
  end-first h g = let e : tail_fault (seg_of form) n frame ≡ end = omega (arith, is, h) in rw (e, lt-ltb end (length frame) g)

  none_first : end ≤ at → length frame ≤ end → ltb (tail_fault (seg_of form) n frame) (length frame) ≡ false
  none_first h g = le-ltb (tail_fault (seg_of form) n frame) (length frame) (omega (arith, is, h, g))

  pub most-first : end ≤ at → length frame ≤ end → most_of form < n → most_of form ≡ tail_position form n frame
  most-first h g m = rw (none_first h g, lt-ltb (most_of form) n m)

  pub no-first : end ≤ at → length frame ≤ end → n ≤ most_of form → 0 ≡ tail_position form n frame
  no-first h g m = rw (none_first h g, le-ltb (most_of form) n m)

-- ---- a call that reads or locates

module _ (locate : Bool) (form : ℕ) (frame packet : List ℕ) where
  pub look-located : locate ≡ true → (x : ℕ) → x ≡ fault_answer form frame
      → (x ≡ look_answer locate form frame (length packet)) × (packet ≡ look_bytes locate form frame packet)
  look-located e x h =
      (h ∙ sym (ap (λ (b : Bool). cond b (fault_answer form frame) (read_answer form frame (length packet))) e), sym (ap (λ (b : Bool). cond b packet (read_bytes form frame packet)) e))

  pub look-read : locate ≡ false → (x : ℕ) (after : List ℕ) → x ≡ read_answer form frame (length packet) → after ≡ read_bytes form frame packet
      → (x ≡ look_answer locate form frame (length packet)) × (after ≡ look_bytes locate form frame packet)
  look-read e x after h k = (
    h ∙ sym (ap (λ (b : Bool). cond b (fault_answer form frame) (read_answer form frame (length packet))) e),
    k ∙ sym (ap (λ (b : Bool). cond b packet (read_bytes form frame packet)) e),
  )

  -- of a frame that is refused
  pub refused-located : locate ≡ true → (why : Refusal) (at : ℕ) → read_checks (form_at form) frame ≡ refused_at why at
      → (at ≡ look_answer locate form frame (length packet)) × (packet ≡ look_bytes locate form frame packet)
  refused-located e why at h = look-located e at (sym (refused-fault form frame why at h))

  pub refused-read : locate ≡ false → (why : Refusal) (at : ℕ) → read_checks (form_at form) frame ≡ refused_at why at
      → (number_of why ≡ look_answer locate form frame (length packet)) × (packet ≡ look_bytes locate form frame packet)
  refused-read e why at h = look-read e (number_of why) packet (sym (refused-answer form frame why at h (length packet))) (sym (refused-bytes form frame why at h packet))
