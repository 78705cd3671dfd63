-- Offsets and the lengths between them; numbers of four bytes, written and read.
-- Assumes nothing.
use mathlib.Core.Path.{◌≡◌, refl, sym, ap, ap₂, ◌∙◌}
use mathlib.Core.Bool.{true}
use mathlib.Core.List.{List, [], ◌∷◌, ◌++◌}
use Prim.Native.Nat.{ℕ, zero, suc, ◌+◌, ◌-◌, ◌*◌, ◌≤◌}
use native.Mathlib.Omega.{arith}
use lib.Dec.{leb}
use lib.ListN.{length, take, drop, length-drop}
use lib.Seq.{take-add}
use borrow.Author.Tests.{leb-true, le-leb}
use Rattle.refusal.proofs.Checks.{both_true}
use Rattle.lists.specs.Frames.{sum}
use Rattle.frame_fields.specs.Rows.{eights, bytes_of, number_in, AreBytes}
use Rattle.frame_fields.proofs.Rows.{unpack-pack, pack-back, number-take, bytes-range}
use Rattle.capture.specs.Files.{words, numbers_in, offsets_from, none_over}
use Rattle.capture.specs.Opening.{none_falls, last_offset, steps_from}

-- ---- the offsets after the first

unfoldable pub later_from : ℕ → List ℕ → List ℕ
later_from start [] = []
later_from start (l ∷ ls) = (start + l) ∷ later_from (start + l) ls

pub offsets_are : (start : ℕ) (ls : List ℕ) → offsets_from start ls ≡ start ∷ later_from start ls
unfolding offsets_from later_from
offsets_are start [] = refl
offsets_are start (l ∷ ls) = ap (λ (x : List ℕ). start ∷ x) (offsets_are (start + l) ls)

pub later-count : (start : ℕ) (ls : List ℕ) → length (later_from start ls) ≡ length ls
unfolding later_from
later-count start [] = refl
later-count start (l ∷ ls) = ap suc (later-count (start + l) ls)

pub later-rise : (start : ℕ) (ls : List ℕ) → none_falls start (later_from start ls) ≡ true
unfolding later_from none_falls
later-rise start [] = refl
later-rise start (l ∷ ls) = rw (le-leb start (start + l) (omega arith)) (later-rise (start + l) ls)

pub later_last : (start : ℕ) (ls : List ℕ) → last_offset start (later_from start ls) ≡ start + sum ls
unfolding later_from last_offset
later_last start [] = omega arith
later_last start (l ∷ ls) = later_last (start + l) ls ∙ omega arith

pub later-steps : (start : ℕ) (ls : List ℕ) → steps_from start (later_from start ls) ≡ ls
unfolding later_from steps_from
later-steps start [] = refl
later-steps start (l ∷ ls) = let e : start + l - start ≡ l = omega arith in ap₂ (λ (x : ℕ) (xs : List ℕ). x ∷ xs) e (later-steps (start + l) ls)

pub later-over : (most start : ℕ) (ls : List ℕ) → start + sum ls ≤ most → none_over most (later_from start ls) ≡ true
unfolding later_from none_over
later-over most start [] h = refl
later-over most start (l ∷ ls) h = rw (le-leb (start + l) most (omega (arith, h))) (later-over most (start + l) ls (omega (arith, h)))

-- ---- and back: offsets that do not fall are those of the lengths between them

pub steps-count : (a : ℕ) (os : List ℕ) → length (steps_from a os) ≡ length os
unfolding steps_from
steps-count a [] = refl
steps-count a (o ∷ os) = ap suc (steps-count o os)

pub steps_back : (a : ℕ) (os : List ℕ) → none_falls a os ≡ true → (later_from a (steps_from a os) ≡ os) × (a + sum (steps_from a os) ≡ last_offset a os)
unfolding later_from steps_from none_falls last_offset
steps_back a [] e = (refl, omega arith)
steps_back a (o ∷ os) e =
    let t = both_true (leb a o) (none_falls o os) e in
    let h : a ≤ o = leb-true a o t.0 in
    let s : a + (o - a) ≡ o = omega (arith, h) in
    let r = steps_back o os t.1 in
    (ap₂ (λ (x : ℕ) (xs : List ℕ). x ∷ xs) s (ap (λ (x : ℕ). later_from x (steps_from o os)) s ∙ r.0), omega (arith, h, r.1))

-- the first is at most the last
pub first-most : (a : ℕ) (os : List ℕ) → none_falls a os ≡ true → a ≤ last_offset a os
first-most a os e = omega (arith, (steps_back a os e).1)

-- ---- numbers of four bytes

pub numbers-count : (n : ℕ) (bytes : List ℕ) → length (numbers_in n bytes) ≡ n
unfolding numbers_in
numbers-count zero bytes = refl
numbers-count (suc n) bytes = ap suc (numbers-count n (drop 4 bytes))

-- a number that is written is read
pub word_read : (n : ℕ) (rest : List ℕ) → n ≤ 4294967295 → number_in 4 (bytes_of 4 n ++ rest) ≡ n
word_read n rest h = pack-back (eights 4) n (omega (arith, h))

pub words-read : (ns rest : List ℕ) → none_over 4294967295 ns ≡ true → numbers_in (length ns) (words ns ++ rest) ≡ ns
unfolding numbers_in words none_over
words-read [] rest e = refl
words-read (n ∷ ns) rest e =
    let t = both_true (leb n 4294967295) (none_over 4294967295 ns) e in
    ap₂ (λ (x : ℕ) (xs : List ℕ). x ∷ xs) (word_read n (words ns ++ rest) (leb-true n 4294967295 t.0)) (words-read ns rest t.1)

-- bytes that are read are written
are-rest : (k : ℕ) (bs : List ℕ) → AreBytes bs → AreBytes (drop k bs)
are-rest zero bs b = b
are-rest (suc k) [] b = b
are-rest (suc k) (x ∷ bs) b = are-rest k bs b.1

pub word_back : (bs : List ℕ) → 4 ≤ length bs → AreBytes bs → bytes_of 4 (number_in 4 bs) ≡ take 4 bs
word_back bs h b = ap (bytes_of 4) (sym (number-take 0 4 bs)) ∙ unpack-pack 0 (eights 4) (take 4 bs) (bytes-range 4 bs h b)

pub words_back : (n : ℕ) (bs : List ℕ) → 4 * n ≤ length bs → AreBytes bs → words (numbers_in n bs) ≡ take (4 * n) bs
unfolding numbers_in words
words_back zero bs h b = refl
words_back (suc n) bs h b =
    let e : 4 + 4 * n ≡ 4 * suc n = omega arith in
    let rest : 4 * n ≤ length (drop 4 bs) = omega (arith, h, length-drop 4 bs) in
    ap₂ (λ (x y : List ℕ). x ++ y) (word_back bs (omega (arith, h)) b) (words_back n (drop 4 bs) rest (are-rest 4 bs b))
    ∙ sym (take-add 4 (4 * n) bs)
    ∙ ap (λ (k : ℕ). take k bs) e
