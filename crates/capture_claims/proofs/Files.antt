-- Files that open: what their header says, and that a file which was saved is one of them.
-- Assumes nothing.
use mathlib.Core.Path.{◌≡◌, refl, sym, ap, ap₂, ◌∙◌}
use mathlib.Core.Bool.{true, false, ◌&&◌}
use mathlib.Core.List.{List, ◌∷◌, ◌++◌}
use Prim.Native.Nat.{ℕ, ◌+◌, ◌<◌, ◌≤◌}
use native.Mathlib.Decide.{dec_lt}
use native.Mathlib.Omega.{arith}
use lib.Dec.{leb, eqb}
use lib.ListN.{length, drop}
use borrow.Author.Tests.{leb-true, le-leb, eqb-true, eq-eqb}
use Rattle.refusal.specs.declared.Refusal.TheVariants.{OutOfRange, Malformed, MessageTooLong}
use Rattle.refusal.specs.Numbers.{check}
use Rattle.refusal.proofs.Checks.{check_done, both_true}
use Rattle.lists.specs.Frames.{sum}
use Rattle.frame_fields.specs.Rows.{bytes_of}
use Rattle.frame_form.specs.Forms.{form_at, form_valid}
use Rattle.frame_form.proofs.Claims.{form-numbers}
use Rattle.capture.specs.Files.{words, numbers_in, header_size, header_of, file_of, most_frames, most_bytes, none_over}
use Rattle.capture.specs.Opening.{count_in, form_in, offset_at, later_offsets, none_falls, last_offset, steps_from, offsets_run, open_verdict}
use Rattle.capture.proofs.Saving.{file-length}
use Rattle.capture_claims.proofs.Offsets.{later_from, offsets_are, later-count, later-rise, later_last, later-steps, later-over, word_read, words-read}
use Rattle.std.specs.Prelude.{Ok}

-- what the verdict `Ok tt` tells of a file
pub record IsOpen (file : List ℕ) : Type 0 where
  pub form : form_in file ≤ 17
  pub few : count_in file ≤ most_frames
  pub header : header_size (count_in file) ≤ length file
  pub first : offset_at file 0 ≡ header_size (count_in file)
  pub rise : none_falls (offset_at file 0) (later_offsets file) ≡ true
  pub last : last_offset (offset_at file 0) (later_offsets file) ≡ length file
  pub short : none_over most_bytes (steps_from (offset_at file 0) (later_offsets file)) ≡ true

known : (n : ℕ) → form_valid (form_at n) ≡ true → n ≤ 17
known n e = go (dec_lt 17 n)
  where
    go : Dec (17 < n) → n ≤ 17
    go (yes h) = let z : true ≡ false = sym e ∙ form-numbers.others n h in let w : ◌≡◌ {A = ℕ} 0 1 = cc in absurd (omega arith)
    go (no h) = omega (arith, h)

pub open-tells : (file : List ℕ) → open_verdict file ≡ Ok tt → IsOpen file
unfolding open_verdict
open-tells file e =
    let short = none_over most_bytes (steps_from (offset_at file 0) (later_offsets file)) in
    let r4 = check short MessageTooLong (Ok tt) in
    let r3 = check (offsets_run file) Malformed r4 in
    let r2 = check (leb (header_size (count_in file)) (length file)) Malformed r3 in
    let r1 = check (leb (count_in file) most_frames) MessageTooLong r2 in
    let r0 = check (form_valid (form_at (form_in file))) OutOfRange r1 in
    let a = check_done (leb 8 (length file)) Malformed r0 e in
    let b = check_done (form_valid (form_at (form_in file))) OutOfRange r1 a.1 in
    let c = check_done (leb (count_in file) most_frames) MessageTooLong r2 b.1 in
    let d = check_done (leb (header_size (count_in file)) (length file)) Malformed r3 c.1 in
    let f = check_done (offsets_run file) Malformed r4 d.1 in
    let g = check_done short MessageTooLong (Ok tt) f.1 in
    let rise = none_falls (offset_at file 0) (later_offsets file) in
    let last = eqb (last_offset (offset_at file 0) (later_offsets file)) (length file) in
    let t = both_true (eqb (offset_at file 0) (header_size (count_in file))) (rise && last) f.0 in
    let u = both_true rise last t.1 in
    record {
      form = known (form_in file) b.0;
      few = leb-true (count_in file) most_frames c.0;
      header = leb-true (header_size (count_in file)) (length file) d.0;
      first = eqb-true (offset_at file 0) (header_size (count_in file)) t.0;
      rise = u.0;
      last = eqb-true (last_offset (offset_at file 0) (later_offsets file)) (length file) u.1;
      short = g.0;
    }

pub opens : (file : List ℕ) → IsOpen file → open_verdict file ≡ Ok tt
unfolding open_verdict
opens file v =
    rw (
      le-leb 8 (length file) (omega (arith, v.header)),
      (form-numbers.number-back (form_in file) v.form).0,
      le-leb (count_in file) most_frames v.few,
      le-leb (header_size (count_in file)) (length file) v.header,
      eq-eqb (offset_at file 0) (header_size (count_in file)) v.first,
      v.rise,
      eq-eqb (last_offset (offset_at file 0) (later_offsets file)) (length file) v.last,
      v.short,
    ) refl

-- ---- a file that was saved

module _ (form : ℕ) (ls bytes : List ℕ) (valid : form ≤ 17) (few : length ls ≤ most_frames) (small : sum ls ≤ 81920) where
  abbrev size : ℕ
  size = header_size (length ls)

  -- its numbers one by one
  file-is : file_of form ls bytes ≡ bytes_of 4 (length ls) ++ (bytes_of 4 form ++ (bytes_of 4 size ++ (words (later_from size ls) ++ bytes)))
  unfolding file_of header_of words
  file-is = ap (λ (os : List ℕ). words (length ls ∷ form ∷ os) ++ bytes) (offsets_are size ls)

  pub count-is : count_in (file_of form ls bytes) ≡ length ls
  count-is = ap count_in file-is ∙ word_read (length ls) (bytes_of 4 form ++ (bytes_of 4 size ++ (words (later_from size ls) ++ bytes))) (omega (arith, few))

  pub form-is : form_in (file_of form ls bytes) ≡ form
  form-is = ap form_in file-is ∙ word_read form (bytes_of 4 size ++ (words (later_from size ls) ++ bytes)) (omega (arith, valid))

  pub first-is : offset_at (file_of form ls bytes) 0 ≡ size
  first-is = ap (λ (f : List ℕ). offset_at f 0) file-is ∙ word_read size (words (later_from size ls) ++ bytes) (omega (arith, few))

  pub later-is : later_offsets (file_of form ls bytes) ≡ later_from size ls
  later-is =
      ap₂ (λ (n : ℕ) (f : List ℕ). numbers_in n (drop 12 f)) (count-is ∙ sym (later-count size ls)) file-is
      ∙ words-read (later_from size ls) bytes (later-over 4294967295 size ls (omega (arith, few, small)))

  pub saved-opens : sum ls ≡ length bytes → none_over most_bytes ls ≡ true → IsOpen (file_of form ls bytes)
  saved-opens sums short =
      let file = file_of form ls bytes in
      let long : length file ≡ size + length bytes = file-length form ls bytes in
      record {
        form = omega (arith, form-is, valid);
        few = omega (arith, count-is, few);
        header = omega (arith, count-is, long);
        first = first-is ∙ ap header_size (sym count-is);
        rise = ap₂ none_falls first-is later-is ∙ later-rise size ls;
        last = ap₂ last_offset first-is later-is ∙ later_last size ls ∙ omega (arith, sums, long);
        short = ap₂ (λ (a : ℕ) (os : List ℕ). none_over most_bytes (steps_from a os)) first-is later-is ∙ ap (none_over most_bytes) (later-steps size ls) ∙ short;
      }
