-- The claims about captures.
-- Assumes nothing.
use mathlib.Core.Path.{◌≡◌, refl, sym, ap, ap₂, ◌∙◌}
use mathlib.Core.Bool.{true}
use mathlib.Core.List.{List, [], ◌∷◌, ◌++◌}
use mathlib.Core.Logic.{◌≢◌}
use Prim.Native.Nat.{ℕ, zero, suc, ◌+◌, ◌-◌, ◌*◌, ◌≤◌}
use native.Mathlib.Nat.{suc-mul}
use native.Mathlib.Numerals.{add-one}
use native.Mathlib.Omega.{arith}
use lib.ListN.{length, take, drop, replicate, length-append, length-drop, length-replicate, take-append-drop}
use lib.Seq.{drop-drop, drop_at, take-append_seam}
use borrow.Author.Tests.{le-leb, eq-eqb}
use Rattle.refusal.proofs.Numbers.{number-range}
use Rattle.lists.specs.Lists.{over}
use Rattle.lists.specs.Frames.{bytes_in, lengths_of, parts_of, sum}
use Rattle.lists.proofs.Frames.{parts-back, sum-lengths, count-lengths, count-parts, bytes_back, lengths-back}
use Rattle.frame_fields.specs.Rows.{number_in, AreBytes}
use Rattle.frame_form.proofs.Claims.{form-numbers}
use Rattle.capture.specs.declared.Place.{Place}
use Rattle.capture.specs.Files.{words, numbers_in, header_size, offsets_from, header_of, file_of, most_frames, most_bytes, largest_file, none_over}
use Rattle.capture.specs.Saving.{saved_bytes, file_size, save_verdict, save_by, save_of, output_by, save_output}
use Rattle.capture.specs.Opening.{opened_as, opened_form, opened_count, count_in, form_in, offset_at, later_offsets, last_offset, steps_from, open_verdict, open_by, open_of, place_in, part_at, frames_in}
use Rattle.capture.proofs.Saving.{sum-most, small, header-length, file-length, saveable, saved}
use Rattle.capture.proofs.Opening.{past-count}
use Rattle.capture_claims.specs.Claims.{Holds, capture_of, saved_frames, SavedIsOpened, OpenedIsSaved, FramesLie, CaptureClaim, Largest, RefusalsChangeNothing}
use Rattle.capture_claims.proofs.Offsets.{later_from, offsets_are, steps-count, steps_back, numbers-count, later-steps, words_back}
use Rattle.capture_claims.proofs.Files.{IsOpen, open-tells, opens, count-is, form-is, first-is, later-is, saved-opens}
use Rattle.capture_claims.proofs.Frames.{at_place, lies, frames-are}
use Rattle.refusal.specs.Numbers.{Verdict, refusal_number}
use Rattle.std.specs.Prelude.{Ok, Err}

-- ---- a file whose verdict is `Ok tt`

pub answered : (file : List ℕ) → open_verdict file ≡ Ok tt → open_of file ≡ opened_as (form_in file) (count_in file)
unfolding open_of
answered file e = ap (λ (v : Verdict). open_by v (form_in file) (count_in file)) e

number-done : (v : Verdict) (f n : ℕ) → refusal_number (open_by v f n) ≡ 0 → v ≡ Ok tt
number-done (Ok tt) f n e = refl
number-done (Err why) f n e = absurd (omega (arith, e, (number-range why).0))

done : (file : List ℕ) → refusal_number (open_of file) ≡ 0 → open_verdict file ≡ Ok tt
unfolding open_of
done file e = number-done (open_verdict file) (form_in file) (count_in file) e

-- ---- frames that are saved

module _ (form : ℕ) (frames : List (List ℕ)) (valid : form ≤ 17) (holds : Holds frames) where
  abbrev ls : List ℕ
  ls = lengths_of frames

  abbrev data' : List ℕ
  data' = bytes_in frames

  sums : sum ls ≡ length data'
  sums = sum-lengths frames

  few : length ls ≤ most_frames
  few = omega (arith, count-lengths frames, holds.few)

  sum-small : sum ls ≤ 81920
  sum-small = omega (arith, sums, small ls data' sums few holds.short)

  file-opens : IsOpen (capture_of form frames)
  file-opens = saved-opens form ls data' valid few sum-small sums holds.short

  pub opens_as : open_of (capture_of form frames) ≡ opened_as form (length frames)
  opens_as =
      answered (capture_of form frames) (opens (capture_of form frames) file-opens)
      ∙ ap₂ opened_as (form-is form ls data' valid few sum-small) (count-is form ls data' valid few sum-small ∙ count-lengths frames)

  behind : drop (header_size (length ls)) (capture_of form frames) ≡ data'
  unfolding file_of
  behind = drop_at (header_of form ls) data' (header_size (length ls)) (header-length form ls)

  same : frames_in (capture_of form frames) ≡ frames
  same =
      let file = capture_of form frames in
      let first = first-is form ls data' valid few sum-small in
      let later = later-is form ls data' valid few sum-small in
      frames-are file file-opens (count_in file) 0 (omega arith)
      ∙ ap₂ (λ (a : ℕ) (os : List ℕ). parts_of (steps_from a os) (drop a file)) first later
      ∙ ap₂ parts_of (later-steps (header_size (length ls)) ls) behind
      ∙ parts-back frames

  module _ (out : List ℕ) (room : length (capture_of form frames) ≤ length out) where
    verdict : save_verdict form ls data' (length out) ≡ Ok tt
    unfolding save_verdict
    verdict =
        rw (
          (form-numbers.number-back form valid).0,
          eq-eqb (sum ls) (length data') sums,
          le-leb (length ls) most_frames few,
          holds.short,
          le-leb (file_size ls data') (length out) (omega (arith, file-length form ls data', room)),
        ) refl

    pub written : (save_of form ls data' (length out) ≡ Ok (length (capture_of form frames))) × (saved_frames form frames out ≡ over (capture_of form frames) out)
    written =
        let s = saved form ls data' out (over (capture_of form frames) out) (length (capture_of form frames)) verdict (file-length form ls data') refl in
        (sym s.0, sym s.1)

    file-back : take (length (capture_of form frames)) (saved_frames form frames out) ≡ capture_of form frames
    file-back = ap (take (length (capture_of form frames))) written.1 ∙ take-append_seam (capture_of form frames) (drop (length (capture_of form frames)) out)

    pub saved-is-opened : SavedIsOpened form frames out
    saved-is-opened = record { is-saved = written.0; opens = ap open_of file-back ∙ opens_as; same-frames = ap frames_in file-back ∙ same }

-- ---- a file that opens

module _ (file : List ℕ) (v : IsOpen file) where
  abbrev size : ℕ
  size = header_size (count_in file)

  abbrev steps : List ℕ
  steps = steps_from (offset_at file 0) (later_offsets file)

  back : (later_from (offset_at file 0) steps ≡ later_offsets file) × (offset_at file 0 + sum steps ≡ last_offset (offset_at file 0) (later_offsets file))
  back = steps_back (offset_at file 0) (later_offsets file) v.rise

  steps-many : length steps ≡ count_in file
  steps-many = steps-count (offset_at file 0) (later_offsets file) ∙ numbers-count (count_in file) (drop 12 file)

  steps-sum : sum steps ≡ length (drop size file)
  steps-sum = omega (arith, back.1, v.last, v.first, length-drop size file)

  frames-of : frames_in file ≡ parts_of steps (drop size file)
  frames-of = frames-are file v (count_in file) 0 (omega arith) ∙ ap (λ (a : ℕ). parts_of steps (drop a file)) v.first

  lengths-of : lengths_of (frames_in file) ≡ steps
  lengths-of = ap lengths_of frames-of ∙ lengths-back steps (drop size file) steps-sum

  bytes_of : bytes_in (frames_in file) ≡ drop size file
  bytes_of = ap bytes_in frames-of ∙ bytes_back steps (drop size file) steps-sum

  pub frames-many : length (frames_in file) ≡ count_in file
  frames-many = ap length frames-of ∙ count-parts steps (drop size file) ∙ steps-many

  pub frames-hold : Holds (frames_in file)
  frames-hold = record { few = omega (arith, frames-many, v.few); short = ap (none_over most_bytes) lengths-of ∙ v.short }

  -- the header's numbers are those of the file
  numbers-are : AreBytes file → header_of (form_in file) steps ≡ take size file
  unfolding header_of numbers_in
  numbers-are b =
      let all : offsets_from (header_size (length steps)) steps ≡ offset_at file 0 ∷ later_offsets file =
      ap (λ (a : ℕ). offsets_from a steps) (ap header_size steps-many ∙ sym v.first) ∙ offsets_are (offset_at file 0) steps ∙ ap (λ (os : List ℕ). offset_at file 0 ∷ os) back.0 in
      let eight : drop 4 (drop 4 file) ≡ drop 8 file = drop-drop 4 4 file in
      let twelve : drop 4 (drop 4 (drop 4 file)) ≡ drop 12 file = ap (drop 4) eight ∙ drop-drop 4 8 file in
      let n : 4 * suc (suc (suc (count_in file))) ≡ size = omega arith in
      ap₂ (λ (k : ℕ) (os : List ℕ). words (k ∷ form_in file ∷ os)) steps-many all
      ∙ ap₂ (λ (e t : List ℕ). words (count_in file ∷ form_in file ∷ number_in 4 e ∷ numbers_in (count_in file) t)) (sym eight) (sym twelve)
      ∙ words_back (suc (suc (suc (count_in file)))) file (omega (arith, v.header)) b
      ∙ ap (λ (k : ℕ). take k file) n

  pub file-again : AreBytes file → capture_of (form_in file) (frames_in file) ≡ file
  unfolding file_of
  file-again b = ap₂ (file_of (form_in file)) lengths-of bytes_of ∙ ap (λ (h : List ℕ). h ++ drop size file) (numbers-are b) ∙ take-append-drop size file

  pub file-most : length file ≤ largest_file
  file-most = omega (arith, back.1, v.last, v.first, sum-most most_bytes steps v.short, steps-many, v.few)

module _ (file out : List ℕ) (b : AreBytes file) (e : refusal_number (open_of file) ≡ 0) where
  form-known : opened_form (open_of file) ≡ form_in file
  form-known = ap opened_form (answered file (done file e))

  pub no-others : file ≡ capture_of (opened_form (open_of file)) (frames_in file)
  no-others = sym (ap (λ (f : ℕ). capture_of f (frames_in file)) form-known ∙ file-again file (open-tells file (done file e)) b)

  pub opened-is-saved : length file ≤ length out → OpenedIsSaved file out
  opened-is-saved room =
      let v = open-tells file (done file e) in
      let form = opened_form (open_of file) in
      let valid : form ≤ 17 = omega (arith, form-known, v.form) in
      let fits : length (capture_of form (frames_in file)) ≤ length out = omega (arith, ap length no-others, room) in
      let w = written form (frames_in file) valid (frames-hold file v) out fits in
      record {
        count = ap opened_count (answered file (done file e)) ∙ sym (frames-many file v);
        holds = frames-hold file v;
        is-saved = w.0 ∙ ap (λ (f : List ℕ). Ok (length f)) (sym no-others);
        same-file = w.1 ∙ ap (λ (f : List ℕ). over f out) (sym no-others);
      }

pub frames-lie : (file : List ℕ) → refusal_number (open_of file) ≡ 0 → FramesLie file
unfolding last_offset numbers_in
frames-lie file e =
    let v = open-tells file (done file e) in
    let count : opened_count (open_of file) ≡ count_in file = ap opened_count (answered file (done file e)) in
    record {
      first = λ h. ap (λ (p : Place). p.at) (lies file v 0 (count_in file - 1) (omega (arith, count, h))).is ∙ v.first ∙ ap header_size (sym count);
      next = λ i h.
          let l = lies file v i (count_in file - (i + 1)) (omega (arith, count, h)) in
          let m = lies file v (suc i) (count_in file - (i + 2)) (omega (arith, count, h)) in
          let here : (place_in file i).at + (place_in file i).len ≡ offset_at file (suc i) = ap (λ (p : Place). p.at + p.len) l.is ∙ omega (arith, l.rises) in
          ap (λ (k : ℕ). (place_in file k).at) (add-one i) ∙ ap (λ (p : Place). p.at) m.is ∙ sym here;
      last = λ i h.
          let l = lies file v i 0 (omega (arith, count, h)) in
          ap (λ (p : Place). p.at + p.len) l.is ∙ omega (arith, l.rises) ∙ (at_place file v (suc i) 0 (omega (arith, count, h))).last;
      no_more = λ i h. ap (part_at file) (sym (past-count file i (omega (arith, count, h))));
    }

pub capture-claim : CaptureClaim
capture-claim = record {
  saved-is-opened = λ form frames out valid holds room. saved-is-opened form frames valid holds out room;
  opened-is-saved = λ file out b e room. opened-is-saved file out b e room;
  no-others = λ file b e. no-others file [] b e;
  frames-lie = frames-lie;
}

-- ---- the largest

lengths-alike : (n : ℕ) (f : List ℕ) → lengths_of (replicate n f) ≡ replicate n (length f)
lengths-alike zero f = refl
lengths-alike (suc n) f = ap (λ (xs : List ℕ). length f ∷ xs) (lengths-alike n f)

none_over_lem : (n k most : ℕ) → k ≤ most → none_over most (replicate n k) ≡ true
unfolding none_over
none_over_lem zero k most h = refl
none_over_lem (suc n) k most h = rw (le-leb k most h) (none_over_lem n k most h)

bytes-alike : (n : ℕ) (f : List ℕ) → length (bytes_in (replicate n f)) ≡ n * length f
bytes-alike zero f = omega arith
bytes-alike (suc n) f = length-append f (bytes_in (replicate n f)) ∙ omega (arith, bytes-alike n f, suc-mul n (length f))

-- n frames of k zero bytes, for any n and k, so that nothing of the size of the largest is computed
module _ (n k : ℕ) (few : n ≤ most_frames) (short : k ≤ most_bytes) where
  alike : Holds (replicate n (replicate k 0))
  alike = record {
    few = omega (arith, length-replicate n (replicate {A = ℕ} k 0), few);
    short = ap (none_over most_bytes) (lengths-alike n (replicate k 0)) ∙ ap (λ (x : ℕ). none_over most_bytes (replicate n x)) (length-replicate k 0) ∙ none_over_lem n k most_bytes short;
  }

  alike-length : (form : ℕ) → length (capture_of form (replicate n (replicate k 0))) ≡ header_size n + n * k
  alike-length form =
      file-length form (lengths_of (replicate n (replicate k 0))) (bytes_in (replicate n (replicate k 0)))
      ∙ ap₂ (λ (c d : ℕ). header_size c + d) (count-lengths (replicate n (replicate k 0)) ∙ length-replicate n (replicate k 0)) (bytes-alike n (replicate k 0) ∙ ap (λ (x : ℕ). n * x) (length-replicate k 0))

  alike-opens : (form : ℕ) → form ≤ 17 → open_of (capture_of form (replicate n (replicate k 0))) ≡ opened_as form n
  alike-opens form valid = opens_as form (replicate n (replicate k 0)) valid alike ∙ ap (opened_as form) (length-replicate n (replicate k 0))

saved-most : (form : ℕ) (ls frames : List ℕ) (room : ℕ) (v : Verdict) → save_verdict form ls frames room ≡ v → saved_bytes (save_by v (file_size ls frames)) ≤ largest_file
saved-most form ls frames room (Ok tt) e = let s = saveable form ls frames room e in omega (arith, s.few, s.small)
saved-most form ls frames room (Err why) e = omega arith

pub largest : Largest
unfolding save_of
largest = record {
  opened = λ file e. file-most file (open-tells file (done file e));
  saved = λ form ls frames room. saved-most form ls frames room (save_verdict form ls frames room) refl;
  reached = λ form valid. (alike-length 512 160 (omega arith) (omega arith) form, alike-opens 512 160 (omega arith) (omega arith) form valid);
}

-- ---- refusals

refused-save : (v : Verdict) (n : ℕ) (file out : List ℕ) → refusal_number (save_by v n) ≢ 0 → (saved_bytes (save_by v n) ≡ 0) × (output_by v file out ≡ out)
refused-save (Ok tt) n file out h = absurd (h refl)
refused-save (Err why) n file out h = (refl, refl)

refused-open : (v : Verdict) (f n : ℕ) → refusal_number (open_by v f n) ≢ 0 → (opened_form (open_by v f n) ≡ 0) × (opened_count (open_by v f n) ≡ 0)
refused-open (Ok tt) f n h = absurd (h refl)
refused-open (Err why) f n h = (refl, refl)

pub refusals-change-nothing : RefusalsChangeNothing
unfolding save_of save_output open_of
refusals-change-nothing = record {
  save = λ form ls frames out h. refused-save (save_verdict form ls frames (length out)) (file_size ls frames) (file_of form ls frames) out h;
  opened = λ file h. refused-open (open_verdict file) (form_in file) (count_in file) h;
}
