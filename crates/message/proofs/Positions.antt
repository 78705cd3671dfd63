-- Where a frame is refused: inside it, or at its end.
-- Assumes nothing.
use mathlib.Core.Path.{◌≡◌, refl, sym, ap}
use mathlib.Core.Bool.{Bool, true, false, cond, ◌&&◌, true≢false}
use mathlib.Core.List.{List}
use Prim.Native.Nat.{ℕ, ◌+◌, ◌-◌, ◌≤◌, min}
use native.Mathlib.Omega.{arith}
use lib.Dec.{leb, ltb, eqb}
use lib.ListN.{length, drop, length-drop}
use borrow.Author.Tests.{leb-true, leb-false, ltb-true, eqb-true}
use Rattle.refusal.specs.declared.Refusal.{Refusal}
use Rattle.refusal.specs.declared.Refusal.TheVariants.{OutOfRange, Malformed, FormatError, PacketTooLong}
use Rattle.refusal.specs.Positions.{Checked, check_at, all_at, fault_position}
use Rattle.refusal.proofs.Checks.{both_true}
use Rattle.frame_fields.specs.Layouts.{Layout, fields, has_lv, wrong_byte}
use Rattle.frame_form.specs.declared.Form.{Form}
use Rattle.frame_form.specs.Forms.{seg_of, most_of, form_valid}
use Rattle.frame_form.specs.Segments.{frame_length, whole_segments}
use Rattle.frame_form.proofs.Forms.{segment-some, segment-seven}
use Rattle.frame_form.proofs.Segments.{whole-some, whole-none-over}
use Rattle.frame_kinds.specs.declared.Found.{Found}
use Rattle.frame_kinds.specs.declared.Found.TheVariants.{Known, Route, Unknown}
use Rattle.frame_kinds.specs.Kinds.{layout_of, route_layout}
use Rattle.frame_kinds.proofs.Table.{sound, sound-route}
use Rattle.frame_kinds.proofs.Stored.{header-few}
use Rattle.frame_reader.specs.Faults.{lv_of, first_end, has_second, strings_end, first_right, packet_length, length_right, length_byte, zeros_first, tail_fault, first_fault}
use Rattle.frame_reader.specs.Reading.{found_in, fault_of, length_in, values_as, read_checks}
use Rattle.frame_reader.proofs.Zeros.{count-le}
use Rattle.frame.specs.Packets.{packet_of, as_data}
use Rattle.frame.specs.Reading.{read_by, read_of}
use Rattle.frame.proofs.OneLayout.{inside}
use Rattle.message.specs.Joining.{packet_verdict, turn_checks}
use Rattle.refusal.specs.Numbers.{Verdict}
use Rattle.std.specs.Prelude.{Ok, Err, Option}
use Rattle.refusal.specs.declared.Fault.{Fault}
use Rattle.frame.specs.declared.Data.{Data as DataFields}

-- ---- the first fault of a frame

-- a packet whose LV or lengths are right ends in the frame
packet-inside : (seg : ℕ) (l : Layout) (frame : List ℕ) → l.size ≤ length frame → seg ≤ length frame → length_right seg l frame ≡ true → packet_length seg l frame ≤ length frame
unfolding length_right packet_length
packet-inside seg l frame small some e = go l.strings (has_lv (fields l)) e
  where
    go : (a b : Bool)
        → cond a (first_right l frame && leb (strings_end l frame) (length frame))
        (cond b (leb 1 (lv_of l frame) && (leb (lv_of l frame) seg && leb l.size (length frame - seg + lv_of l frame))) true) ≡ true
        → cond a (strings_end l frame) (cond b (length frame - seg + lv_of l frame) l.size) ≤ length frame
    go true b e = leb-true (strings_end l frame) (length frame) (both_true (first_right l frame) (leb (strings_end l frame) (length frame)) e).1
    go false true e =
        let u = lv_of l frame in
        let t = (both_true (leb 1 u) (leb u seg && leb l.size (length frame - seg + u)) e).1 in
        let few = leb-true u seg (both_true (leb u seg) (leb l.size (length frame - seg + u)) t).0 in
        omega (arith, few, some)
    go false false e = small

-- and so does the first of the strings
first-inside : (b : Bool) (first len : ℕ) → cond b (ltb first len) (leb first len) ≡ true → first ≤ len
first-inside true first len e = omega (arith, ltb-true first len e)
first-inside false first len e = leb-true first len e

-- so the byte that is wrong if they are not is in the frame
byte_inside : (l : Layout) (frame : List ℕ) → l.size ≤ length frame → length_byte l frame ≤ length frame
unfolding length_byte
byte_inside l frame small = go l.strings (first_right l frame) refl
  where
    go : (a t : Bool) → first_right l frame ≡ t → cond (a && t) (first_end l frame) (l.size - 1) ≤ length frame
    go false t et = omega (arith, small)
    go true false et = omega (arith, small)
    go true true et = first-inside (has_second l frame) (first_end l frame) (length frame) et

fault-inside : (seg : ℕ) (l : Layout) (frame : List ℕ) → l.size ≤ length frame → seg ≤ length frame → first_fault seg l frame ≤ length frame
unfolding first_fault tail_fault
fault-inside seg l frame small some = go (ltb (wrong_byte l frame) l.size) (length_right seg l frame) refl refl
  where
    go : (a b : Bool) → ltb (wrong_byte l frame) l.size ≡ a → length_right seg l frame ≡ b
        → cond a (wrong_byte l frame) (cond b (min (frame_length seg (packet_length seg l frame)) (packet_length seg l frame + zeros_first (drop (packet_length seg l frame) frame))) (length_byte l frame)) ≤ length frame
    go true b ea eb = omega (arith, ltb-true (wrong_byte l frame) l.size ea, small)
    go false true ea eb =
        let n = packet_length seg l frame in
        omega (arith, packet-inside seg l frame small some eb, count-le (drop n frame), length-drop n frame)
    go false false ea eb = byte_inside l frame small

found_inside : (form : Form) (f : Found) (frame : List ℕ) → seg_of form ≤ length frame → fault_of f form frame ≤ length frame
found_inside form Unknown frame some = omega arith
found_inside form Route frame some = fault-inside (seg_of form) route_layout frame (omega (arith, segment-seven form, some)) some
found_inside form (Known k) frame some = fault-inside (seg_of form) (layout_of form k) frame (omega (arith, (header-few k).1, segment-seven form, some)) some

-- a packet without a fault ends in the frame
length-inside : (form : Form) (f : Found) (frame : List ℕ) → whole_segments (seg_of form) (length frame) ≡ true → fault_of f form frame ≡ length frame
    → length_in f form frame ≤ length frame
length-inside form Unknown frame whole none = omega arith
length-inside form Route frame whole none =
    (inside (seg_of form) route_layout sound-route (segment-some form) (omega (arith, segment-seven form)) frame
    (whole-some (seg_of form) (length frame) (segment-some form) whole) (whole-none-over (seg_of form) (length frame) whole) (λ e. refl) none).1
length-inside form (Known k) frame whole none =
    (inside (seg_of form) (layout_of form k) (sound form k) (segment-some form) (omega (arith, (header-few k).1, segment-seven form)) frame
    (whole-some (seg_of form) (length frame) (segment-some form) whole) (whole-none-over (seg_of form) (length frame) whole) (λ e. absurd (true≢false (sym e))) none).1

-- ---- reading

-- a check and those after it give no position past n
pub check-near : (b : Bool) (why : Refusal) (at n : ℕ) (rest : Checked) → (b ≡ false → at ≤ n) → (b ≡ true → fault_position rest ≤ n) → fault_position (check_at b why at rest) ≤ n
check-near true why at n rest here later = later refl
check-near false why at n rest here later = here refl

checks-near : (form : Form) (frame : List ℕ) → fault_position (read_checks form frame) ≤ length frame
unfolding read_checks
checks-near form frame =
    let seg = seg_of form in
    let len = length frame in
    let at = fault_of (found_in frame) form frame in
    let n = length_in (found_in frame) form frame in
    let most = most_of form in
    let d = check_at (leb n most) PacketTooLong most (Ok tt) in
    let c = check_at (eqb at len) FormatError at d in
    let b = check_at (whole_segments seg len) Malformed len c in
    check-near (form_valid form) OutOfRange 0 len b (λ e. omega arith)
    (λ valid. check-near (whole_segments seg len) Malformed len len c (λ e. omega arith)
    (λ whole. check-near (eqb at len) FormatError at len d (λ e. found_inside form (found_in frame) frame (whole-some seg len (segment-some form) whole))
    (λ none. check-near (leb n most) PacketTooLong most len (Ok tt)
    (λ e. omega (arith, leb-false n most e, length-inside form (found_in frame) frame whole (eqb-true at len none)))
    (λ e. omega arith))))

-- ---- a frame in its turn

all_near : (v : Verdict) (n : ℕ) → fault_position (all_at 0 v) ≤ n
all_near (Ok tt) n = omega arith
all_near (Err why) n = omega arith

by_near : (c : Checked) (f : Found) (form : Form) (frame : List ℕ) (before : Option DataFields) (last : Bool) → fault_position c ≤ length frame
    → fault_position (turn_checks before last (read_by c f form frame)) ≤ length frame
by_near (Ok tt) (Known k) form frame before last h = all_near (packet_verdict before last (as_data (packet_of k (values_as (Known k) form frame)))) (length frame)
by_near (Ok tt) Route form frame before last h = omega arith
by_near (Ok tt) Unknown form frame before last h = omega arith
by_near (Err fault) f form frame before last h = h

pub turn-position : (before : Option DataFields) (last : Bool) (form : Form) (frame : List ℕ) → fault_position (turn_checks before last (read_of form frame)) ≤ length frame
unfolding read_of
turn-position before last form frame = by_near (read_checks form frame) (found_in frame) form frame before last (checks-near form frame)

pub turn_near : (before : Option DataFields) (last : Bool) (form : Form) (frame : List ℕ) (fault : Fault)
    → turn_checks before last (read_of form frame) ≡ Err fault → fault.at ≤ length frame
turn_near before last form frame fault e =
    let is : fault_position (turn_checks before last (read_of form frame)) ≡ fault.at = ap fault_position e in
    omega (arith, turn-position before last form frame, is)
