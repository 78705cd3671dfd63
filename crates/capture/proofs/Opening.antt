-- Opening: the loop over the offsets.
-- Assumes nothing.
use mathlib.Core.Path.{◌≡◌, refl, sym, ap, ap₂, ◌∙◌}
use mathlib.Core.Bool.{Bool, true, false, ◌&&◌}
use mathlib.Core.List.{List, ◌∷◌}
use Prim.Native.Nat.{ℕ, zero, suc, ◌+◌, ◌-◌, ◌*◌, ◌<◌, ◌≤◌}
use native.Mathlib.Omega.{arith}
use lib.Dec.{leb, eqb}
use lib.ListN.{length, drop}
use lib.Seq.{drop-drop}
use borrow.Author.Tests.{le-leb, lt-leb, lt-ltb, le-ltb, eq-eqb, ne_eqb}
use Rattle.refusal.specs.declared.Refusal.TheVariants.{OutOfRange, Malformed, MessageTooLong}
use Rattle.refusal.specs.Numbers.{value_by, check, refusal_number, Verdict}
use Rattle.frame_form.proofs.Claims.{form-numbers}
use Rattle.capture.specs.Files.{numbers_in, header_size, most_frames, most_bytes, none_over}
use Rattle.capture.specs.Opening.{opened_form, opened_count, number_at, count_in, form_in, offset_at, later_offsets, none_falls, last_offset, steps_from, open_verdict, open_by, open_of, has_frame, place_in}
use Rattle.capture.specs.Parts.{offsets_verdict}
use Rattle.capture.specs.declared.Opened.{Opened}
use Rattle.std.specs.Prelude.{Result, Ok, Err}
use Rattle.refusal.specs.declared.Refusal.{Refusal}

-- the offsets after the first `i`, which are the last `left`, decide what all do; `short` is
-- whether no frame before them is over 160 bytes
pub record Judging (file : List ℕ) (count offset : ℕ) (short : Bool) (i : ℕ) : Type 0 where
  pub left : ℕ
  pub place : i + left ≡ count
  pub falls : none_falls offset (numbers_in left (drop (12 + 4 * i) file)) ≡ none_falls (offset_at file 0) (later_offsets file)
  pub last : last_offset offset (numbers_in left (drop (12 + 4 * i) file)) ≡ last_offset (offset_at file 0) (later_offsets file)
  pub over : (short && none_over most_bytes (steps_from offset (numbers_in left (drop (12 + 4 * i) file)))) ≡ none_over most_bytes (steps_from (offset_at file 0) (later_offsets file))

pub starts : (file : List ℕ) (count offset : ℕ) → count ≡ count_in file → offset ≡ offset_at file 0 → Judging file count offset true 0
starts file count offset ec eo = record {
  left = count;
  place = omega arith;
  falls = ap₂ (λ (x n : ℕ). none_falls x (numbers_in n (drop 12 file))) eo ec;
  last = ap₂ (λ (x n : ℕ). last_offset x (numbers_in n (drop 12 file))) eo ec;
  over = ap₂ (λ (x n : ℕ). none_over most_bytes (steps_from x (numbers_in n (drop 12 file)))) eo ec;
}

-- what an offset adds, for a list that begins with it
and_assoc : (a b c : Bool) → (a && (b && c)) ≡ ((a && b) && c)
and_assoc true b c = refl
and_assoc false b c = refl

-- ---- the verdict, by its three tests on the offsets and the one on their steps

abbrev said : Bool → Bool → Bool → Bool → Verdict
said first falls last over = check (first && (falls && last)) Malformed (check over MessageTooLong (Ok tt))

first-wrong : (falls last over : Bool) → said false falls last over ≡ Err Malformed
first-wrong falls last over = refl

falls-wrong : (first last over : Bool) → said first false last over ≡ Err Malformed
falls-wrong true last over = refl
falls-wrong false last over = refl

abbrev tests : List ℕ → Bool → Bool → Bool → Bool → Type 0
tests file first falls last over =
    (eqb (offset_at file 0) (header_size (count_in file)) ≡ first)
    × (none_falls (offset_at file 0) (later_offsets file) ≡ falls)
    × (eqb (last_offset (offset_at file 0) (later_offsets file)) (length file) ≡ last)
    × (none_over most_bytes (steps_from (offset_at file 0) (later_offsets file)) ≡ over)

says : (file : List ℕ) (first falls last over : Bool) → tests file first falls last over → said first falls last over ≡ offsets_verdict file
unfolding offsets_verdict
says file first falls last over t = λ i. said (sym t.0 i) (sym t.1 i) (sym t.2 i) (sym t.3 i)

pub not_first : (file : List ℕ) → eqb (offset_at file 0) (header_size (count_in file)) ≡ false → Err Malformed ≡ offsets_verdict file
not_first file e = says file false _ _ _ (e, refl, refl, refl)

not-run : (file : List ℕ) → none_falls (offset_at file 0) (later_offsets file) ≡ false → Err Malformed ≡ offsets_verdict file
not-run file e =
    let first = eqb (offset_at file 0) (header_size (count_in file)) in
    let last = eqb (last_offset (offset_at file 0) (later_offsets file)) (length file) in
    let over = none_over most_bytes (steps_from (offset_at file 0) (later_offsets file)) in
    sym (falls-wrong first last over) ∙ says file first false last over (refl, e, refl, refl)

and-true : (b : Bool) → (b && true) ≡ b
and-true true = refl
and-true false = refl

module _ (file : List ℕ) (count offset : ℕ) (short : Bool) (i next : ℕ) (v : Judging file count offset short i) (h : i < count) (en : next ≡ number_at file (12 + 4 * i)) where
  -- the offsets left are the next one and the others
  record Step : Type 0 where
    left : ℕ
    place : i + 1 + left ≡ count
    falls : (leb offset next && none_falls next (numbers_in left (drop (12 + 4 * (i + 1)) file))) ≡ none_falls (offset_at file 0) (later_offsets file)
    last : last_offset next (numbers_in left (drop (12 + 4 * (i + 1)) file)) ≡ last_offset (offset_at file 0) (later_offsets file)
    over : (short && (leb (next - offset) most_bytes && none_over most_bytes (steps_from next (numbers_in left (drop (12 + 4 * (i + 1)) file))))) ≡ none_over most_bytes (steps_from (offset_at file 0) (later_offsets file))

  step : Step
  unfolding numbers_in none_falls last_offset steps_from none_over
  step = go v.left refl
    where
      go : (n : ℕ) → v.left ≡ n → Step
      go zero e = absurd (omega (arith, e, v.place, h))
      go (suc n) e =
          let on : 12 + 4 * i + 4 ≡ 12 + 4 * (i + 1) = omega arith in
          let is : numbers_in v.left (drop (12 + 4 * i) file) ≡ next ∷ numbers_in n (drop (12 + 4 * (i + 1)) file) =
          ap (λ (x : ℕ). numbers_in x (drop (12 + 4 * i) file)) e ∙ ap₂ (λ (x : ℕ) (ys : List ℕ). x ∷ numbers_in n ys) (sym en) (drop-drop 4 (12 + 4 * i) file ∙ ap (λ (k : ℕ). drop k file) on) in
          record {
            left = n;
            place = omega (arith, e, v.place);
            falls = sym (ap (none_falls offset) is) ∙ v.falls;
            last = sym (ap (last_offset offset) is) ∙ v.last;
            over = sym (ap (λ (os : List ℕ). short && none_over most_bytes (steps_from offset os)) is) ∙ v.over;
          }

  -- an offset below the one before it
  pub fell : next < offset → Err Malformed ≡ offsets_verdict file
  fell l = not-run file (sym step.falls ∙ ap (λ (b : Bool). b && none_falls next (numbers_in step.left (drop (12 + 4 * (i + 1)) file))) (lt-leb offset next l))

  pub turns : offset ≤ next → (short1 : Bool) → short1 ≡ (short && leb (next - offset) most_bytes) → Judging file count next short1 (i + 1)
  turns l short1 es = record {
    left = step.left;
    place = step.place;
    falls = sym (ap (λ (b : Bool). b && none_falls next (numbers_in step.left (drop (12 + 4 * (i + 1)) file))) (le-leb offset next l)) ∙ step.falls;
    last = step.last;
    over =
        ap (λ (b : Bool). b && none_over most_bytes (steps_from next (numbers_in step.left (drop (12 + 4 * (i + 1)) file)))) es
        ∙ sym (and_assoc short (leb (next - offset) most_bytes) (none_over most_bytes (steps_from next (numbers_in step.left (drop (12 + 4 * (i + 1)) file)))))
        ∙ step.over;
  }

-- the end: no offset is left
module _ (file : List ℕ) (count offset : ℕ) (short : Bool) (i : ℕ) (v : Judging file count offset short i) (h : count ≤ i) (first : eqb (offset_at file 0) (header_size (count_in file)) ≡ true) where
  none : v.left ≡ 0
  none = omega (arith, v.place, h)

  run : none_falls (offset_at file 0) (later_offsets file) ≡ true
  unfolding none_falls numbers_in
  run = sym v.falls ∙ ap (λ (n : ℕ). none_falls offset (numbers_in n (drop (12 + 4 * i) file))) none

  last-is : last_offset (offset_at file 0) (later_offsets file) ≡ offset
  unfolding last_offset numbers_in
  last-is = sym v.last ∙ ap (λ (n : ℕ). last_offset offset (numbers_in n (drop (12 + 4 * i) file))) none

  over-is : none_over most_bytes (steps_from (offset_at file 0) (later_offsets file)) ≡ short
  unfolding none_over steps_from numbers_in
  over-is = sym v.over ∙ ap (λ (n : ℕ). short && none_over most_bytes (steps_from offset (numbers_in n (drop (12 + 4 * i) file)))) none ∙ and-true short

  pub ends : offset ≡ length file → check short MessageTooLong (Ok tt) ≡ offsets_verdict file
  ends e = says file true true true short (first, run, ap (λ (x : ℕ). eqb x (length file)) last-is ∙ eq-eqb offset (length file) e, over-is)

  pub ends-early : (offset ≡ length file → ⊥) → Err Malformed ≡ offsets_verdict file
  ends-early e = says file true true false short (first, run, ap (λ (x : ℕ). eqb x (length file)) last-is ∙ ne_eqb offset (length file) e, over-is)

-- ---- where a frame is

module _ (file : List ℕ) (i : ℕ) where
  no-frame : has_frame file i ≡ false → record { at = 0; len = 0 } ≡ place_in file i
  unfolding place_in
  no-frame e = rw e refl

  pub past-count : count_in file ≤ i → record { at = 0; len = 0 } ≡ place_in file i
  unfolding has_frame
  past-count h = no-frame (rw (le-ltb i (count_in file) h) refl)

  module _ (start end : ℕ) (es : start ≡ offset_at file i) (ee : end ≡ number_at file (8 + 4 * i + 4)) where
    end_is : end ≡ offset_at file (i + 1)
    end_is = let k : 8 + 4 * i + 4 ≡ 8 + 4 * (i + 1) = omega arith in ee ∙ ap (number_at file) k

    pub is-there : i < count_in file → 8 + 4 * i + 8 ≤ length file → start ≤ end → end ≤ length file → record { at = start; len = end - start } ≡ place_in file i
    unfolding has_frame place_in
    is-there hc hh hs he =
        rw (lt-ltb i (count_in file) hc, le-leb (header_size (i + 1)) (length file) (omega (arith, hh)), ← es, ← end_is, le-leb start end hs, le-leb end (length file) he) refl

-- ---- the whole file, by the checks before the offsets

module _ (file : List ℕ) where
  module _ (whole : 8 ≤ length file) where
    pub no-form : 17 < form_in file → Err OutOfRange ≡ open_verdict file
    unfolding open_verdict
    no-form h = rw (le-leb 8 (length file) whole, form-numbers.others (form_in file) h) refl

    module _ (form : form_in file ≤ 17) where
      pub too_many : most_frames < count_in file → Err MessageTooLong ≡ open_verdict file
      unfolding open_verdict
      too_many h = rw (le-leb 8 (length file) whole, (form-numbers.number-back (form_in file) form).0, lt-leb (count_in file) most_frames h) refl

      module _ (few : count_in file ≤ most_frames) where
        pub cut-header : length file < header_size (count_in file) → Err Malformed ≡ open_verdict file
        unfolding open_verdict
        cut-header h =
            rw (le-leb 8 (length file) whole, (form-numbers.number-back (form_in file) form).0, le-leb (count_in file) most_frames few, lt-leb (header_size (count_in file)) (length file) h) refl

        pub judged : header_size (count_in file) ≤ length file → offsets_verdict file ≡ open_verdict file
        unfolding open_verdict offsets_verdict
        judged h =
            rw (le-leb 8 (length file) whole, (form-numbers.number-back (form_in file) form).0, le-leb (count_in file) most_frames few, le-leb (header_size (count_in file)) (length file) h) refl

-- ---- the answer

by-verdict : (v : Verdict) (f n : ℕ) (r : Result Opened Refusal) → r ≡ open_by v f n
    → (refusal_number r ≡ refusal_number v) × ((opened_form r ≡ value_by v f) × (opened_count r ≡ value_by v n))
by-verdict (Ok tt) f n r e = (ap refusal_number e, (ap opened_form e, ap opened_count e))
by-verdict (Err why) f n r e = (ap refusal_number e, (ap opened_form e, ap opened_count e))

pub answers : (file : List ℕ) (r : Result Opened Refusal) → r ≡ open_by (open_verdict file) (form_in file) (count_in file)
    → (r ≡ open_of file) × ((refusal_number r ≡ refusal_number (open_verdict file))
    × ((opened_form r ≡ value_by (open_verdict file) (form_in file)) × (opened_count r ≡ value_by (open_verdict file) (count_in file))))
unfolding open_of
answers file r e = (e, by-verdict (open_verdict file) (form_in file) (count_in file) r e)
