-- How far a packet and its segments go in a frame of whole segments: a packet whose length is told
-- rightly, by LV or by strings, is in the frame, and so are its segments; those that LV tells are
-- all of the frame.
-- Assumes nothing.
use mathlib.Core.Path.{◌≡◌, refl, sym, ap, ap₂, ◌∙◌}
use mathlib.Core.Bool.{Bool, true, false, cond, ◌&&◌, true≢false}
use mathlib.Core.List.{List}
use Prim.Native.Nat.{ℕ, ◌+◌, ◌-◌, ◌<◌, ◌≤◌}
use native.Mathlib.Omega.{arith}
use lib.Dec.{leb, ltb}
use lib.ListN.{length, get_or}
use borrow.Author.Tests.{leb-true, leb-false, le-leb, lt-leb, lt-ltb, ltb-true}
use Rattle.refusal.proofs.Checks.{both_true}
use Rattle.frame_fields.specs.Layouts.{Layout, fields, has_lv}
use Rattle.frame_form.specs.Segments.{frame_length, whole_segments}
use Rattle.frame_form.proofs.Segments.{whole-some, whole-none-over, length_back, frame-end}
use Rattle.frame_reader.specs.Faults.{lv_of, first_end, has_second, strings_end, first_right, packet_length, length_right}

-- ---- strings

module _ (l : Layout) (frame : List ℕ) where
  -- with a second one, and without
  pub second-end : has_second l frame ≡ true → strings_end l frame ≡ first_end l frame + 1 + get_or frame (first_end l frame) 0
  second-end e = ap (λ (b : Bool). cond b (first_end l frame + 1 + get_or frame (first_end l frame) 0) (first_end l frame)) e

  pub only_end : has_second l frame ≡ false → strings_end l frame ≡ first_end l frame
  only_end e = ap (λ (b : Bool). cond b (first_end l frame + 1 + get_or frame (first_end l frame) 0) (first_end l frame)) e

  first-test : (b : Bool) → has_second l frame ≡ b → first_right l frame ≡ cond b (ltb (first_end l frame) (length frame)) (leb (first_end l frame) (length frame))
  first-test b e = ap (λ (t : Bool). cond t (ltb (first_end l frame) (length frame)) (leb (first_end l frame) (length frame))) e

  -- they end after the header
  pub ends-after : l.size ≤ strings_end l frame
  ends-after = go (has_second l frame) refl
    where
      go : (b : Bool) → has_second l frame ≡ b → l.size ≤ strings_end l frame
      go true e = omega (arith, second-end e)
      go false e = omega (arith, only_end e)

  -- if they end in the frame, the first length is right
  pub first-inside : strings_end l frame ≤ length frame → first_right l frame ≡ true
  first-inside h = go (has_second l frame) refl
    where
      go : (b : Bool) → has_second l frame ≡ b → first_right l frame ≡ true
      go true e = first-test true e ∙ lt-ltb (first_end l frame) (length frame) (omega (arith, second-end e, h))
      go false e = first-test false e ∙ le-leb (first_end l frame) (length frame) (omega (arith, only_end e, h))

  -- if the first length is right, and they do not, there is a second one
  pub second-there : first_right l frame ≡ true → length frame < strings_end l frame → has_second l frame ≡ true
  second-there r h = go (has_second l frame) refl
    where
      go : (b : Bool) → has_second l frame ≡ b → b ≡ true
      go true e = refl
      go false e = absurd (omega (arith, only_end e, h, leb-true (first_end l frame) (length frame) (sym (first-test false e) ∙ r)))

  -- and then its length is in the frame
  pub second-inside : first_right l frame ≡ true → has_second l frame ≡ true → first_end l frame < length frame
  second-inside r e = ltb-true (first_end l frame) (length frame) (sym (first-test true e) ∙ r)

module _ (seg : ℕ) (l : Layout) (frame : List ℕ) where
  pub strings-length : l.strings ≡ true → packet_length seg l frame ≡ strings_end l frame
  unfolding packet_length
  strings-length s = ap (λ (b : Bool). cond b (strings_end l frame) (cond (has_lv (fields l)) (length frame - seg + lv_of l frame) l.size)) s

  strings-test : l.strings ≡ true → length_right seg l frame ≡ (first_right l frame && leb (strings_end l frame) (length frame))
  unfolding length_right
  strings-test s = rw s

  pub strings-right : l.strings ≡ true → strings_end l frame ≤ length frame → length_right seg l frame ≡ true
  strings-right s h = strings-test s ∙ ap₂ ◌&&◌ (first-inside l frame h) (le-leb (strings_end l frame) (length frame) h)

  pub first-over : l.strings ≡ true → first_right l frame ≡ false → length_right seg l frame ≡ false
  first-over s e = strings-test s ∙ ap (λ (b : Bool). b && leb (strings_end l frame) (length frame)) e

  pub second-over : l.strings ≡ true → first_right l frame ≡ true → length frame < strings_end l frame → length_right seg l frame ≡ false
  second-over s e h = strings-test s ∙ ap₂ ◌&&◌ e (lt-leb (strings_end l frame) (length frame) h)

  -- a wrong length, if it is not the first
  pub past_end : l.strings ≡ true → first_right l frame ≡ true → length_right seg l frame ≡ false → length frame < strings_end l frame
  past_end s e r =
      let test : leb (strings_end l frame) (length frame) ≡ false = sym (ap (λ (b : Bool). b && leb (strings_end l frame) (length frame)) e) ∙ sym (strings-test s) ∙ r in
      leb-false (strings_end l frame) (length frame) test

  -- ---- with neither strings nor LV: there is nothing to be wrong, and the packet is its header

  without-right : l.strings ≡ false → has_lv (fields l) ≡ false → length_right seg l frame ≡ true
  unfolding length_right
  without-right s e = rw (s, e)

  pub without-length : l.strings ≡ false → has_lv (fields l) ≡ false → packet_length seg l frame ≡ l.size
  unfolding packet_length
  without-length s e = rw (s, e)

  -- without strings, a length that is wrong is told by LV
  pub wrong-has : l.strings ≡ false → length_right seg l frame ≡ false → has_lv (fields l) ≡ true
  wrong-has s e = go (has_lv (fields l)) refl
    where
      go : (b : Bool) → has_lv (fields l) ≡ b → b ≡ true
      go true h = refl
      go false h = absurd (true≢false (sym (without-right s h) ∙ e))

  -- without LV, a packet that ends in the frame has its length told rightly
  pub right-inside : has_lv (fields l) ≡ false → packet_length seg l frame ≤ length frame → length_right seg l frame ≡ true
  right-inside e h = go l.strings refl
    where
      go : (b : Bool) → l.strings ≡ b → length_right seg l frame ≡ true
      go true s = strings-right s (omega (arith, strings-length s, h))
      go false s = without-right s e

  -- ---- with LV

  lv-length : l.strings ≡ false → has_lv (fields l) ≡ true → packet_length seg l frame ≡ length frame - seg + lv_of l frame
  unfolding packet_length
  lv-length s e = rw (s, e)

  -- the three tests that it is right
  lv-tests : l.strings ≡ false → has_lv (fields l) ≡ true → length_right seg l frame ≡ true
      → (1 ≤ lv_of l frame) × (lv_of l frame ≤ seg) × (l.size ≤ length frame - seg + lv_of l frame)
  unfolding length_right
  lv-tests s e r =
      let u = lv_of l frame in
      let tests : (leb 1 u && (leb u seg && leb l.size (length frame - seg + u))) ≡ true = sym (rw (s, e)) ∙ r in
      let p = both_true (leb 1 u) (leb u seg && leb l.size (length frame - seg + u)) tests in
      let q = both_true (leb u seg) (leb l.size (length frame - seg + u)) p.1 in
      (leb-true 1 u p.0, leb-true u seg q.0, leb-true l.size (length frame - seg + u) q.1)

  -- ---- by the segments

  module _ (some : 1 ≤ l.size) (fits : l.size ≤ seg) (whole : whole_segments seg (length frame) ≡ true) where
    full : seg ≤ length frame
    full = whole-some seg (length frame) (omega arith) whole

    -- the segments that LV tells are all of the frame
    pub lv-all : l.strings ≡ false → has_lv (fields l) ≡ true → length_right seg l frame ≡ true → frame_length seg (packet_length seg l frame) ≡ length frame
    lv-all s e r =
        let t = lv-tests s e r in
        ap (frame_length seg) (lv-length s e) ∙ length_back seg (length frame) (lv_of l frame) (whole-none-over seg (length frame) whole) (omega (arith, full)) t.0 t.1

    -- the packet is in the frame, and the header is in the packet
    packet-in : length_right seg l frame ≡ true → (packet_length seg l frame ≤ length frame) × (l.size ≤ packet_length seg l frame)
    packet-in r = go l.strings (has_lv (fields l)) refl refl
      where
        go : (a b : Bool) → l.strings ≡ a → has_lv (fields l) ≡ b → (packet_length seg l frame ≤ length frame) × (l.size ≤ packet_length seg l frame)
        go true b s e =
            let p = both_true (first_right l frame) (leb (strings_end l frame) (length frame)) (sym (strings-test s) ∙ r) in
            omega (arith, strings-length s, leb-true (strings_end l frame) (length frame) p.1, ends-after l frame)
        go false true s e = let t = lv-tests s e r in omega (arith, lv-length s e, t.1, t.2, full)
        go false false s e = omega (arith, without-length s e, full)

    -- and the segments are in the frame too
    pub in_frame : length_right seg l frame ≡ true → (frame_length seg (packet_length seg l frame) ≤ length frame) × (l.size ≤ packet_length seg l frame)
    in_frame r =
        let p = packet-in r in
        (omega (arith, frame-end seg (length frame) (packet_length seg l frame) (omega arith) (whole-none-over seg (length frame) whole) p.0), p.1)
