-- A capture is so small, and its offsets have so few bits, that an answer fits one 64-bit number.
-- Assumes nothing.
use mathlib.Core.Path.{◌≡◌, refl, ap}
use mathlib.Core.Bool.{Bool, true, false}
use mathlib.Core.List.{List, [], ◌∷◌}
use Prim.Native.Nat.{ℕ, zero, suc, ◌+◌, ◌*◌, ◌<◌, ◌≤◌}
use native.Mathlib.Omega.{arith}
use lib.Dec.{leb}
use lib.ListN.{length, drop, get_or}
use borrow.Author.Tests.{leb-true, leb-false}
use Rattle.refusal.specs.declared.Refusal.TheVariants.{OutOfRange, Malformed, MessageTooLong}
use Rattle.refusal.specs.Numbers.{check, Verdict}
use Rattle.refusal.proofs.Checks.{check_done}
use Rattle.frame_fields.specs.Rows.{AreBytes, number_in}
use Rattle.frame_form.specs.Forms.{form_at, form_valid}
use Rattle.frame_form.proofs.Claims.{form-numbers}
use Rattle.capture.specs.Files.{header_size, most_frames, most_bytes, largest_file, none_over}
use Rattle.capture.specs.Saving.{file_size, save_verdict, save_by, save_of}
use Rattle.capture.specs.Opening.{opened_as, opened_form, opened_count, count_in, form_in, offset_at, later_offsets, steps_from, offsets_run, open_verdict, open_by, open_of, has_frame, place_in}
use Rattle.capture.proofs.Saving.{saveable}
use Rattle.std.specs.Prelude.{Ok, Err}

-- ---- saving

by_bytes : (v : Verdict) (n m : ℕ) → save_by v n ≡ Ok m → (v ≡ Ok tt) × (n ≡ m)
by_bytes (Ok tt) n m e = (refl, cc)
by_bytes (Err why) n m e = let z : ◌≡◌ {A = ℕ} 0 1 = cc in absurd (omega arith)

pub save-few : (form : ℕ) (ls frames : List ℕ) (room n : ℕ) → save_of form ls frames room ≡ Ok n → n ≤ largest_file
unfolding save_of
save-few form ls frames room n e =
    let d = by_bytes (save_verdict form ls frames room) (file_size ls frames) n e in
    let s = saveable form ls frames room d.0 in
    omega (arith, d.1, s.few, s.small)

-- ---- opening

by-capture : (v : Verdict) (f n form count : ℕ) → open_by v f n ≡ opened_as form count → (v ≡ Ok tt) × (f ≡ form) × (n ≡ count)
by-capture (Ok tt) f n form count e = (refl, ap opened_form e, ap opened_count e)
by-capture (Err why) f n form count e = let z : ◌≡◌ {A = ℕ} 0 1 = cc in absurd (omega arith)

-- a number that is a form's is at most 17
form-low : (n : ℕ) → form_valid (form_at n) ≡ true → n ≤ 17
form-low n e = go (leb n 17) refl
  where
    go : (b : Bool) → leb n 17 ≡ b → n ≤ 17
    go true t = leb-true n 17 t
    go false t =
        let no = form-numbers.others n (leb-false n 17 t) in
        let z : ◌≡◌ {A = ℕ} 0 1 = cc in
        absurd (omega arith)

passes : (file : List ℕ) → open_verdict file ≡ Ok tt → (form_in file ≤ 17) × (count_in file ≤ most_frames)
unfolding open_verdict
passes file e =
    let r4 = check (none_over most_bytes (steps_from (offset_at file 0) (later_offsets file))) MessageTooLong (Ok tt) in
    let r3 = check (offsets_run file) Malformed r4 in
    let r2 = check (leb (header_size (count_in file)) (length file)) Malformed r3 in
    let r1 = check (leb (count_in file) most_frames) MessageTooLong r2 in
    let r0 = check (form_valid (form_at (form_in file))) OutOfRange r1 in
    let a = check_done (leb 8 (length file)) Malformed r0 e in
    let b = check_done (form_valid (form_at (form_in file))) OutOfRange r1 a.1 in
    let c = check_done (leb (count_in file) most_frames) MessageTooLong r2 b.1 in
    (form-low (form_in file) b.0, leb-true (count_in file) most_frames c.0)

pub open-few : (file : List ℕ) (form count : ℕ) → open_of file ≡ opened_as form count → (form ≤ 17) × (count ≤ most_frames)
unfolding open_of
open-few file form count e =
    let d = by-capture (open_verdict file) (form_in file) (count_in file) form count e in
    let p = passes file d.0 in
    (omega (arith, d.1, p.0), omega (arith, d.2, p.1))

-- ---- the place of a frame

-- every byte of a list is one
pub bytes-all : (s : List ℕ) → ((i : ℕ) → get_or s i 0 < 256) → AreBytes s
bytes-all [] h = tt
bytes-all (b ∷ bs) h = (h 0, bytes-all bs (λ i. h (suc i)))

bytes_drop : (n : ℕ) (s : List ℕ) → AreBytes s → AreBytes (drop n s)
bytes_drop zero s h = h
bytes_drop (suc n) [] h = tt
bytes_drop (suc n) (b ∷ bs) h = bytes_drop n bs h.1

-- four bytes, or fewer, encode a number of 32 bits
number-low : (s : List ℕ) → AreBytes s → number_in 4 s < 4294967296
number-low [] h = omega arith
number-low (a ∷ []) h = omega (arith, h.0)
number-low (a ∷ b ∷ []) h = omega (arith, h.0, h.1.0)
number-low (a ∷ b ∷ c ∷ []) h = omega (arith, h.0, h.1.0, h.1.1.0)
number-low (a ∷ b ∷ c ∷ d ∷ s) h = omega (arith, h.0, h.1.0, h.1.1.0, h.1.1.1.0)

offset-low : (file : List ℕ) (i : ℕ) → AreBytes file → offset_at file i < 4294967296
offset-low file i h = number-low (drop (8 + 4 * i) file) (bytes_drop (8 + 4 * i) file h)

pub place-low : (file : List ℕ) (i : ℕ) → AreBytes file → ((place_in file i).at < 4294967296) × ((place_in file i).len < 4294967296)
unfolding place_in
place-low file i h = go (has_frame file i) refl
  where
    go : (b : Bool) → has_frame file i ≡ b → ((place_in file i).at < 4294967296) × ((place_in file i).len < 4294967296)
    go true e = rw e (offset-low file i h, omega (arith, offset-low file (i + 1) h))
    go false e = rw e (omega arith, omega arith)
