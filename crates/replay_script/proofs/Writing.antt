-- Writing the tickets one after another, and a count within an array.
-- Assumes nothing.
use mathlib.Core.Path.{◌≡◌, sym, ap, ◌∙◌}
use mathlib.Core.List.{List, [], ◌∷◌, ◌++◌, append_assoc, append-nil}
use Prim.Native.Nat.{ℕ, ◌+◌, ◌*◌, ◌≤◌, ◌<◌}
use native.Mathlib.Numerals.{add-one}
use native.Mathlib.Decide.{dec_le}
use native.Mathlib.Omega.{arith}
use lib.ListN.{length, get_or, take}
use lib.Seq.{take_all, take-suc}
use borrow.Author.Tests.{le-leb, lt-leb}
use Rattle.text.specs.Decimal.{spaced}
use Rattle.text.specs.Writing.{Wrote, Puts}
use Rattle.text.proofs.Writing.{none, meant, put_then}
use Rattle.replay_script.specs.Text.{all_spaced}
use Rattle.replay_script.specs.Writing.{least}

-- ---- one element more

-- the first i elements and the next one are the first i + 1
pub grown : (l : List ℕ) (i : ℕ) → i < length l → take i l ++ (get_or l i 0 ∷ []) ≡ take (i + 1) l
grown l i h = sym (ap (λ k. take k l) (add-one i) ∙ take-suc l i 0 h)

-- ---- tickets

spaced-more : (xs : List ℕ) (y : ℕ) → all_spaced xs ++ spaced y ≡ all_spaced (xs ++ (y ∷ []))
unfolding all_spaced
spaced-more [] y = sym (append-nil (spaced y))
spaced-more (x ∷ xs) y = append_assoc (spaced x) (all_spaced xs) (spaced y) ∙ ap (λ l. spaced x ++ l) (spaced-more xs y)

pub tickets-none : (o ts : List ℕ) (from : ℕ) → Wrote o o from from (6 * 0) (all_spaced (take 0 ts))
unfolding all_spaced
tickets-none o ts from = none o from (6 * 0)

pub tickets-turn : (o out out' ts : List ℕ) (from w w' i : ℕ) → i < length ts → i < 32 → from + 192 ≤ length o
    → Wrote o out from w (6 * i) (all_spaced (take i ts)) → Puts out out' w w' 6 (spaced (get_or ts i 0))
    → Wrote o out' from w' (6 * (i + 1)) (all_spaced (take (i + 1) ts))
tickets-turn o out out' ts from w w' i h few room a b =
    meant (put_then a b (omega arith)) (spaced-more (take i ts) (get_or ts i 0) ∙ ap all_spaced (grown ts i h)) (omega arith)

-- ---- a count within an array

pub least-low : (n most : ℕ) → n ≤ most → n ≡ least n most
unfolding least
least-low n most h = rw (le-leb n most h)

pub least-high : (n most : ℕ) → most < n → most ≡ least n most
unfolding least
least-high n most h = rw (lt-leb n most h)

pub take-least : (n most : ℕ) (xs : List ℕ) → length xs ≡ most → take (least n most) xs ≡ take n xs
take-least n most xs e = elim (dec_le n most) [
  | yes h ↦ ap (λ k. take k xs) (sym (least-low n most h))
  | no h ↦
      let m : most < n = omega arith in
      ap (λ k. take k xs) (sym (least-high n most m)) ∙ take_all most xs (omega arith) ∙ sym (take_all n xs (omega arith))
]
