-- The law of numbers in bytes: the first byte is the remainder by 256, and the bytes after it
-- encode the quotient.
-- Assumes nothing.
use mathlib.Core.Path.{◌≡◌, refl, sym, ap, ap₂, ◌∙◌, subst}
use mathlib.Core.List.{List, [], ◌∷◌, ◌++◌}
use Prim.Native.Nat.{ℕ, zero, suc, ◌+◌, ◌-◌, ◌*◌, ◌/◌, ◌%◌, ◌^◌, ◌≤◌, ◌<◌}
use native.Mathlib.Omega.{arith}
use lib.ListN.{length, take, drop, length-append, length-drop, take-append-drop}
use lib.Seq.{take_at, drop_at, length-take-le, get_or-take, get_or-drop}
use Rattle.little.specs.Little.{little_of, little_bytes, little_list, list_bytes}
use Rattle.little.specs.Law.{Below, LittleLaw}

pub length-bytes : (k n : ℕ) → length (little_bytes k n) ≡ k
unfolding little_bytes
length-bytes zero n = refl
length-bytes (suc k) n = ap suc (length-bytes k (n / 256))

pub length-list : (k n : ℕ) (bs : List ℕ) → length (little_list k n bs) ≡ n
unfolding little_list
length-list k zero bs = refl
length-list k (suc n) bs = ap suc (length-list k n (drop k bs))

pub length-list_bytes : (k : ℕ) (xs : List ℕ) → length (list_bytes k xs) ≡ length xs * k
unfolding list_bytes
length-list_bytes k [] = omega arith
length-list_bytes k (x ∷ xs) =
    omega (arith, length-append (little_bytes k x) (list_bytes k xs), length-bytes k x, length-list_bytes k xs)

-- ---- one number

pub read_back : (k n : ℕ) → n < 256 ^ k → little_of (little_bytes k n) ≡ n
unfolding little_of little_bytes
read_back zero n h = omega arith
read_back (suc k) n h =
    let q : n / 256 < 256 ^ k = omega arith in
    let ih = read_back k (n / 256) q in
    omega arith

pub written_back : (bs : List ℕ) → Below 256 bs → little_bytes (length bs) (little_of bs) ≡ bs
unfolding little_of little_bytes
written_back [] h = refl
written_back (b ∷ bs) h =
    let low : b < 256 = h 0 (omega arith) in
    let r : (b + 256 * little_of bs) % 256 ≡ b = omega arith in
    let q : (b + 256 * little_of bs) / 256 ≡ little_of bs = omega arith in
    ap₂ (λ (x : ℕ) (y : List ℕ). x ∷ y) r
    (ap (little_bytes (length bs)) q ∙ written_back bs (λ i l. h (suc i) (omega arith)))

pub below-take : (m n : ℕ) (bs : List ℕ) → n ≤ length bs → Below m bs → Below m (take n bs)
below-take m n bs l h i j =
    let e : length (take n bs) ≡ n = length-take-le n bs l in
    subst (λ (x : ℕ). x < m) (sym (get_or-take n bs i 0 (omega arith))) (h i (omega arith))

pub below-drop : (m n : ℕ) (bs : List ℕ) → Below m bs → Below m (drop n bs)
below-drop m n bs h i j =
    let e : length (drop n bs) ≡ length bs - n = length-drop n bs in
    subst (λ (x : ℕ). x < m) (sym (get_or-drop n bs i 0)) (h (n + i) (omega arith))

-- ---- a list of numbers

pub list-read-back : (k : ℕ) (xs : List ℕ) → Below (256 ^ k) xs → little_list k (length xs) (list_bytes k xs) ≡ xs
unfolding little_list list_bytes
list-read-back k [] h = refl
list-read-back k (x ∷ xs) h =
    ap₂ (λ (y : ℕ) (ys : List ℕ). y ∷ ys)
    (ap little_of (take_at (little_bytes k x) (list_bytes k xs) k (length-bytes k x)) ∙ read_back k x (h 0 (omega arith)))
    (ap (little_list k (length xs)) (drop_at (little_bytes k x) (list_bytes k xs) k (length-bytes k x))
    ∙ list-read-back k xs (λ i l. h (suc i) (omega arith)))

pub list-written-back : (k n : ℕ) (bs : List ℕ) → length bs ≡ n * k → Below 256 bs → list_bytes k (little_list k n bs) ≡ bs
unfolding little_list list_bytes
list-written-back k zero [] e h = refl
list-written-back k zero (b ∷ bs) e h = absurd (omega arith)
list-written-back k (suc n) bs e h =
    let l : k ≤ length bs = omega arith in
    let t : length (take k bs) ≡ k = length-take-le k bs l in
    ap₂ (λ (x y : List ℕ). x ++ y)
    (ap (λ (m : ℕ). little_bytes m (little_of (take k bs))) (sym t) ∙ written_back (take k bs) (below-take 256 k bs l h))
    (list-written-back k n (drop k bs) (omega (arith, length-drop k bs)) (below-drop 256 k bs h))
    ∙ take-append-drop k bs

pub little-law : LittleLaw
little-law = record {
  read_back = read_back;
  written_back = written_back;
  list-read-back = list-read-back;
  list-written-back = list-written-back;
}
