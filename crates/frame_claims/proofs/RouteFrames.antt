-- Frames of a ROUTE: what is written has no fault and gives its two strings, and what has none is
-- what was written. Here OF and IN are numbers, o and i.
-- Assumes nothing.
use mathlib.Core.Path.{◌≡◌, refl, sym, ap, ap₂, ◌∙◌, subst}
use mathlib.Core.Bool.{Bool, true, false, cond, ◌&&◌, ◌||◌, true≢false}
use mathlib.Core.List.{List, [], ◌∷◌, ◌++◌, append_assoc, append-nil}
use Prim.Native.Nat.{ℕ, suc, ◌+◌, ◌-◌, ◌%◌, ◌^◌, ◌<◌, ◌≤◌}
use native.Mathlib.Omega.{arith}
use lib.Dec.{leb, ltb, eqb}
use lib.ListN.{length, get_or, take, drop, replicate, length-append, length-drop}
use lib.Seq.{take_at, drop_at, take-append-le, drop-append-le, drop-append-add, get_or-append_seam, get_or-append-add, split_at, take_all, length-take-le, get_or-take, get_or-drop}
use borrow.Author.Tests.{le-leb, lt-ltb, ltb-true, eq-eqb, eqb-true, eqb-false, ne_eqb}
use Rattle.refusal.specs.declared.Refusal.TheVariants.{PacketTooLong}
use Rattle.refusal.specs.Positions.{check_at}
use Rattle.refusal.proofs.Checks.{both_true}
use Rattle.frame_fields.specs.Rows.{AreBytes}
use Rattle.frame_fields.specs.Layouts.{fields, within, header, free_values}
use Rattle.frame_fields.proofs.Tags.{header-opens}
use Rattle.frame_form.specs.declared.Form.{Form}
use Rattle.frame_form.specs.Forms.{seg_of, most_of, form_valid}
use Rattle.frame_form.specs.Segments.{padding, frame_length, whole_segments}
use Rattle.frame_form.specs.Frames.{framed}
use Rattle.frame_form.proofs.Forms.{segment-some, segment-few, segment-seven, most-range}
use Rattle.frame_form.proofs.Segments.{frame-whole, whole-some, whole-none-over}
use Rattle.frame_form.proofs.Frames.{framed-length}
use Rattle.frame_kinds.specs.declared.Found.{Found}
use Rattle.frame_kinds.specs.declared.Found.TheVariants.{Route}
use Rattle.frame_kinds.specs.Kinds.{route_layout}
use Rattle.frame_kinds.proofs.Table.{sound-route, route-found}
use Rattle.frame_reader.specs.Faults.{last_of, strings_end, first_right, packet_length, first_fault}
use Rattle.frame_reader.specs.Reading.{found_in, fault_of, length_in, read_checks}
use Rattle.frame_reader.proofs.Cases.{no-fault}
use Rattle.frame_writer.specs.Routes.{route_after, route_length, route_fits, route_frame}
use Rattle.frame_writer.proofs.Routes.{after-length}
use Rattle.frame.proofs.OneLayout.{header-length, values-back, content-good, free_in, inside, frame-again}
use Rattle.frame.proofs.Frames.{checks-passed}
use Rattle.std.specs.Prelude.{Ok}

-- ---- a list and its front

module _ (a z : List ℕ) where
  pub front-take : (t : ℕ) → t ≤ length a → take t (a ++ z) ≡ take t a
  front-take t few = take-append-le t a z few

  pub front-drop : (k n : ℕ) → k ≤ length a → n ≡ length a - k → take n (drop k (a ++ z)) ≡ drop k a
  front-drop k n few e = ap (take n) (drop-append-le k a z few) ∙ take_at (drop k a) z n (length-drop k a ∙ sym e)

-- ---- the strings

-- OF and IN are flags, and there is data only if OF is 1
pub record Flags (o i extra : ℕ) : Type 0 where
  pub of_low : o < 2
  pub in-low : i < 2
  pub none : (o ≡ 1 → ⊥) → extra ≡ 0

pub flags : (o i extra : ℕ) → route_fits o i extra ≡ true → Flags o i extra
unfolding route_fits
flags o i extra e =
    let a = both_true (ltb o 2) (ltb i 2 && (eqb o 1 || eqb extra 0)) e in
    let b = both_true (ltb i 2) (eqb o 1 || eqb extra 0) a.1 in
    record {
      of_low = ltb-true o 2 a.0;
      in-low = ltb-true i 2 b.0;
      none = λ q. eqb-true extra 0 (sym (ap (λ (x : Bool). x || eqb extra 0) (ne_eqb o 1 q)) ∙ b.1);
    }

pub fits-flags : (o i extra : ℕ) → Flags o i extra → route_fits o i extra ≡ true
unfolding route_fits
fits-flags o i extra f = rw (lt-ltb o 2 f.of_low, lt-ltb i 2 f.in-low) (go (eqb o 1) refl)
  where
    go : (b : Bool) → eqb o 1 ≡ b → (eqb o 1 || eqb extra 0) ≡ true
    go true e = rw e
    go false e = rw (e, eq-eqb extra 0 (f.none (eqb-false o 1 e)))

-- the two strings of what follows RTL
module _ (o : ℕ) (table extra : List ℕ) (none : (o ≡ 1 → ⊥) → length extra ≡ 0) where
  abbrev after : List ℕ
  after = route_after o table extra

  pub table-first : take (length table) after ≡ table
  table-first = take_at table _ (length table) refl

  empty : (xs : List ℕ) → length xs ≡ 0 → [] ≡ xs
  empty [] e = refl
  empty (x ∷ xs) e = absurd (omega (arith, e))

  pub data-second : cond (eqb o 1) (drop (length table + 1) after) [] ≡ extra
  data-second = go (eqb o 1) refl
    where
      go : (b : Bool) → eqb o 1 ≡ b → cond (eqb o 1) (drop (length table + 1) (table ++ cond (eqb o 1) (length extra ∷ extra) [])) [] ≡ extra
      go true e = rw e (drop-append-add table (length extra ∷ extra) 1)
      go false e = rw e (empty extra (none (eqb-false o 1 e)))

-- ---- written, then read

module _ (form : Form) (o i : ℕ) (table extra : List ℕ) (good : form_valid form ≡ true) (fit : route_fits o i (length extra) ≡ true)
    (most : route_length o (length table) (length extra) ≤ most_of form) where
  abbrev seg : ℕ
  seg = seg_of form

  abbrev t : ℕ
  t = length table

  abbrev vs : List ℕ
  vs = o ∷ i ∷ t ∷ []

  abbrev a : List ℕ
  a = route_after o table extra

  abbrev frame : List ℕ
  frame = route_frame form o i table extra

  in-range : within (fields route_layout) vs ≡ true
  in-range =
      let f = flags o i (length extra) fit in
      rw (lt-ltb o (2 ^ 1) f.of_low, lt-ltb i (2 ^ 1) f.in-low, lt-ltb t (2 ^ 8) (omega (arith, most, (most-range form good).1)))

  free-is : free_in route_layout frame ≡ vs
  unfolding route_frame
  free-is = ap (free_values (fields route_layout)) (values-back seg route_layout sound-route (segment-some form) (segment-few form) vs a in-range)

  size : length frame ≡ frame_length seg (2 + length a)
  unfolding route_frame
  size = framed-length seg 2 (header route_layout 0 vs) a (header-length route_layout 0 vs)

  -- what follows the packet
  pad : List ℕ
  pad = replicate (padding seg (2 + length a)) 0

  found : found_in frame ≡ Route
  unfolding route_frame framed pad
  found = route-found (get_or frame 0 0) (header-opens 15 0 route_layout vs (a ++ pad) sound-route (omega arith) in-range)

  -- what follows RTL
  rest : drop 2 frame ≡ a ++ pad
  unfolding route_frame framed pad
  rest = drop_at (header route_layout 0 vs) _ 2 (header-length route_layout 0 vs)

  -- the length of the data, if there is some, is in the byte after the table
  data-length : eqb o 1 ≡ true → get_or frame (2 + t) 0 ≡ length extra
  unfolding route_frame framed pad
  data-length e =
      let h = header route_layout 0 vs in
      ap (λ (n : ℕ). get_or frame (n + t) 0) (sym (header-length route_layout 0 vs))
      ∙ get_or-append-add h (a ++ pad) t 0
      ∙ ap (λ (xs : List ℕ). get_or (xs ++ pad) t 0) (ap (λ (b : Bool). table ++ cond b (length extra ∷ extra) []) e)
      ∙ ap (λ (xs : List ℕ). get_or xs t 0) (append_assoc table (length extra ∷ extra) pad)
      ∙ get_or-append_seam table (length extra) (extra ++ pad) 0

  after-size : (b : Bool) → eqb o 1 ≡ b → length a ≡ t + cond b (1 + length extra) 0
  after-size true e = ap (λ (b : Bool). length (table ++ cond b (length extra ∷ extra) [])) e ∙ length-append table (length extra ∷ extra) ∙ omega arith
  after-size false e = ap (λ (b : Bool). length (table ++ cond b (length extra ∷ extra) [])) e ∙ length-append table []

  -- the strings are right, and end where the packet does
  strings : (first_right route_layout frame ≡ true) × (strings_end route_layout frame ≡ 2 + length a)
  strings = go (eqb o 1) refl
    where
      first-is : (b : Bool) → eqb o 1 ≡ b → first_right route_layout frame ≡ cond b (ltb (2 + t) (length frame)) (leb (2 + t) (length frame))
      first-is b e =
          ap (λ (xs : List ℕ). cond (eqb (get_or xs 0 0) 1) (ltb (2 + last_of xs) (length frame)) (leb (2 + last_of xs) (length frame))) free-is
          ∙ ap (λ (x : Bool). cond x (ltb (2 + t) (length frame)) (leb (2 + t) (length frame))) e

      end_is : (b : Bool) → eqb o 1 ≡ b → strings_end route_layout frame ≡ cond b (2 + t + 1 + get_or frame (2 + t) 0) (2 + t)
      end_is b e =
          ap (λ (xs : List ℕ). cond (eqb (get_or xs 0 0) 1) (2 + last_of xs + 1 + get_or frame (2 + last_of xs) 0) (2 + last_of xs)) free-is
          ∙ ap (λ (x : Bool). cond x (2 + t + 1 + get_or frame (2 + t) 0) (2 + t)) e

      go : (b : Bool) → eqb o 1 ≡ b → (first_right route_layout frame ≡ true) × (strings_end route_layout frame ≡ 2 + length a)
      go true e =
          let n = after-size true e in
          (first-is true e ∙ lt-ltb (2 + t) (length frame) (omega (arith, size, n)), end_is true e ∙ omega (arith, data-length e, n))
      go false e =
          let n = after-size false e in
          (first-is false e ∙ le-leb (2 + t) (length frame) (omega (arith, size, n)), end_is false e ∙ omega (arith, n))

  content : (first_fault seg route_layout frame ≡ length frame) × (packet_length seg route_layout frame ≡ 2 + length a)
  unfolding route_frame
  content =
      content-good seg route_layout sound-route (segment-some form) (segment-few form) vs a in-range (λ es. absurd (true≢false es)) (λ es. strings)

  whole : whole_segments seg (length frame) ≡ true
  unfolding whole_segments
  whole =
      let multiple : length frame % seg ≡ 0 = ap (λ (x : ℕ). x % seg) size ∙ frame-whole seg (2 + length a) (segment-some form) in
      rw (le-leb 1 (length frame) (omega (arith, size)), eq-eqb (length frame % seg) 0 multiple)

  checks : read_checks form frame ≡ Ok tt
  checks =
      no-fault form frame good whole (2 + length a) (ap (λ (f : Found). fault_of f form frame) found ∙ content.0) (ap (λ (f : Found). length_in f form frame) found ∙ content.1)
      ∙ ap (λ (b : Bool). check_at b PacketTooLong (most_of form) (Ok tt)) (le-leb (2 + length a) (most_of form) (omega (arith, after-length o table extra, most)))

-- the frame reads, with these values, and what follows RTL is this
pub record Written (form : Form) (o i : ℕ) (table extra frame : List ℕ) : Type 0 where
  pub checks : read_checks form frame ≡ Ok tt
  pub found : found_in frame ≡ Route
  pub values : free_in route_layout frame ≡ o ∷ i ∷ length table ∷ []
  pub packet : packet_length (seg_of form) route_layout frame ≡ 2 + length (route_after o table extra)
  pub pad : List ℕ
  pub rest : drop 2 frame ≡ route_after o table extra ++ pad
  pub size : length frame ≡ frame_length (seg_of form) (route_length o (length table) (length extra))

pub written : (form : Form) (o i : ℕ) (table extra : List ℕ) → form_valid form ≡ true → route_fits o i (length extra) ≡ true
    → route_length o (length table) (length extra) ≤ most_of form → Written form o i table extra (route_frame form o i table extra)
written form o i table extra good fit most = record {
  checks = checks form o i table extra good fit most;
  found = found form o i table extra good fit most;
  values = free-is form o i table extra good fit most;
  packet = (content form o i table extra good fit most).1;
  pad = pad form o i table extra good fit most;
  rest = rest form o i table extra good fit most;
  size = size form o i table extra good fit most ∙ ap (frame_length (seg_of form)) (after-length o table extra);
}

-- ---- read, then written

-- OF, IN and RTL of a frame
abbrev pub of_in : List ℕ → ℕ
of_in frame = get_or (free_in route_layout frame) 0 0

abbrev pub in_in : List ℕ → ℕ
in_in frame = get_or (free_in route_layout frame) 1 0

abbrev pub rtl_in : List ℕ → ℕ
rtl_in frame = get_or (free_in route_layout frame) 2 0

-- what follows RTL, and the two strings in it
unfoldable pub after_in : Form → List ℕ → List ℕ
after_in form frame = take (packet_length (seg_of form) route_layout frame - 2) (drop 2 frame)

abbrev pub table_in : Form → List ℕ → List ℕ
table_in form frame = take (rtl_in frame) (after_in form frame)

abbrev pub extra_in : Form → List ℕ → List ℕ
extra_in form frame = cond (eqb (of_in frame) 1) (drop (rtl_in frame + 1) (after_in form frame)) []

-- a frame that passes as a ROUTE is the frame, by the layout, of these strings, and a frame of the
-- form can hold them
pub record IsRoute (form : Form) (frame : List ℕ) : Type 0 where
  pub good : form_valid form ≡ true
  pub fit : Flags (of_in frame) (in_in frame) (length (extra_in form frame))
  pub most : route_length (of_in frame) (length (table_in form frame)) (length (extra_in form frame)) ≤ most_of form
  pub packet : packet_length (seg_of form) route_layout frame ≡ 2 + length (after_in form frame)
  pub inside : 2 + length (after_in form frame) ≤ length frame
  pub ends : length (after_in form frame) ≡ rtl_in frame + cond (eqb (of_in frame) 1) (1 + length (extra_in form frame)) 0
  pub table-size : length (table_in form frame) ≡ rtl_in frame
  pub same : AreBytes frame → route_frame form (of_in frame) (in_in frame) (table_in form frame) (extra_in form frame) ≡ frame

module _ (form : Form) (frame : List ℕ) (ec : read_checks form frame ≡ Ok tt) (ef : found_in frame ≡ Route) where
  abbrev n : ℕ
  n = packet_length (seg_of form) route_layout frame

  abbrev of-read : ℕ
  of-read = of_in frame

  abbrev rtl : ℕ
  rtl = rtl_in frame

  abbrev followed : List ℕ
  followed = after_in form frame

  none : first_fault (seg_of form) route_layout frame ≡ length frame
  none = sym (ap (λ (x : Found). fault_of x form frame) ef) ∙ (checks-passed form frame ec).none

  some : seg_of form ≤ length frame
  some = whole-some (seg_of form) (length frame) (segment-some form) (checks-passed form frame ec).whole

  in-it : (2 ≤ n) × (n ≤ length frame)
  in-it =
      inside (seg_of form) route_layout sound-route (segment-some form) (omega (arith, segment-seven form)) frame some
      (whole-none-over (seg_of form) (length frame) (checks-passed form frame ec).whole) (λ es. refl) none

  followed-size : length followed ≡ n - 2
  unfolding after_in
  followed-size = length-take-le (n - 2) (drop 2 frame) (omega (arith, in-it.1, length-drop 2 frame))

  ends : (b : Bool) → eqb of-read 1 ≡ b → n ≡ cond b (2 + rtl + 1 + get_or frame (2 + rtl) 0) (2 + rtl)
  unfolding packet_length
  ends b e = ap (λ (x : Bool). cond x (2 + rtl + 1 + get_or frame (2 + rtl) 0) (2 + rtl)) e

  -- if there is data: the byte after the table tells its length
  byte-after : eqb of-read 1 ≡ true → (rtl < length followed) × (get_or followed rtl 0 ≡ length followed - (rtl + 1))
  unfolding after_in
  byte-after e =
      let more : rtl < n - 2 = omega (arith, ends true e) in (
        omega (arith, followed-size, more),
        get_or-take (n - 2) (drop 2 frame) rtl 0 more ∙ get_or-drop 2 frame rtl 0 ∙ omega (arith, ends true e, followed-size),
      )

  again-strings : route_after of-read (table_in form frame) (extra_in form frame) ≡ followed
  again-strings = go (eqb of-read 1) refl
    where
      go : (b : Bool) → eqb of-read 1 ≡ b → route_after of-read (take rtl followed) (cond (eqb of-read 1) (drop (rtl + 1) followed) []) ≡ followed
      go true e =
          let b = byte-after e in
          let one : rtl + 1 ≡ suc rtl = omega arith in
          let len : length (drop (rtl + 1) followed) ≡ get_or followed rtl 0 = length-drop (rtl + 1) followed ∙ sym b.1 in
          ap (λ (x : Bool). take rtl followed ++ cond x (length (cond x (drop (rtl + 1) followed) []) ∷ cond x (drop (rtl + 1) followed) []) []) e
          ∙ ap (λ (k : ℕ). take rtl followed ++ (k ∷ drop (rtl + 1) followed)) len
          ∙ ap (λ (k : ℕ). take rtl followed ++ (get_or followed rtl 0 ∷ drop k followed)) one
          ∙ sym (split_at followed rtl 0 b.0)
      go false e =
          ap (λ (x : Bool). take rtl followed ++ cond x (length (cond x (drop (rtl + 1) followed) []) ∷ cond x (drop (rtl + 1) followed) []) []) e
          ∙ append-nil (take rtl followed) ∙ take_all rtl followed (omega (arith, ends false e, followed-size))

  fit-again : Flags of-read (in_in frame) (length (extra_in form frame))
  fit-again = record { of_low = omega arith; in-low = omega arith; none = λ q. ap (λ (x : Bool). length (cond x (drop (rtl + 1) followed) [])) (ne_eqb of-read 1 q) }

  table-inside : rtl ≤ length followed
  table-inside = go (eqb of-read 1) refl
    where
      go : (b : Bool) → eqb of-read 1 ≡ b → rtl ≤ length followed
      go true e = omega (arith, (byte-after e).0)
      go false e = omega (arith, ends false e, followed-size)

  table-size : length (table_in form frame) ≡ rtl
  table-size = length-take-le rtl followed table-inside

  packet-size : route_length of-read (length (table_in form frame)) (length (extra_in form frame)) ≡ n
  packet-size = sym (after-length of-read (table_in form frame) (extra_in form frame)) ∙ ap (λ (xs : List ℕ). 2 + length xs) again-strings ∙ omega (arith, followed-size, in-it.0)

  again-frame : AreBytes frame → framed (seg_of form) (header route_layout 0 (of-read ∷ (in_in frame) ∷ rtl ∷ [])) followed ≡ frame
  unfolding after_in
  again-frame bytes =
      frame-again (seg_of form) route_layout sound-route (segment-some form) (omega (arith, segment-seven form)) frame some
      (whole-none-over (seg_of form) (length frame) (checks-passed form frame ec).whole) (λ es. refl) none bytes

  same-frame : AreBytes frame → route_frame form of-read (in_in frame) (table_in form frame) (extra_in form frame) ≡ frame
  unfolding route_frame
  same-frame bytes =
      ap₂ (λ (k : ℕ) (xs : List ℕ). framed (seg_of form) (header route_layout 0 (of-read ∷ (in_in frame) ∷ k ∷ [])) xs) table-size again-strings ∙ again-frame bytes

pub is-route : (form : Form) (frame : List ℕ) → read_checks form frame ≡ Ok tt → found_in frame ≡ Route → IsRoute form frame
is-route form frame ec ef = record {
  good = (checks-passed form frame ec).valid;
  fit = fit-again form frame ec ef;
  most = omega (arith, packet-size form frame ec ef, most-of);
  packet = omega (arith, followed-size form frame ec ef, (in-it form frame ec ef).0);
  inside = omega (arith, followed-size form frame ec ef, (in-it form frame ec ef).0, (in-it form frame ec ef).1);
  ends = omega (arith, packet-size form frame ec ef, table-size form frame ec ef, followed-size form frame ec ef);
  table-size = table-size form frame ec ef;
  same = same-frame form frame ec ef;
}
  where
    most-of : packet_length (seg_of form) route_layout frame ≤ most_of form
    most-of = subst (λ (x : Found). length_in x form frame ≤ most_of form) ef (checks-passed form frame ec).most
