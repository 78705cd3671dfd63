-- Frames in a buffer: cut out by their lengths, they are the same frames again; and the sum of the
-- lengths from one place on.
-- Assumes nothing.
use mathlib.Core.Path.{◌≡◌, refl, sym, ap, ap₂, ◌∙◌}
use mathlib.Core.Bool.{Bool, true, false}
use mathlib.Core.List.{List, [], ◌∷◌, ◌++◌, append_assoc}
use Prim.Native.Nat.{ℕ, suc, ◌+◌, ◌≤◌, ◌<◌}
use native.Mathlib.Numerals.{add-one}
use native.Mathlib.Omega.{arith}
use lib.Dec.{eqb}
use lib.ListN.{length, take, drop, get_or, length-append, length-drop, take-append-drop, drop_of_length-le}
use lib.Seq.{take_at, drop_at, drop-cons, length-take-le}
use borrow.Author.Tests.{eq-eqb, ne_eqb, eqb-true, eqb-false}
use Rattle.lists.specs.Frames.{bytes_in, lengths_of, parts_of, sum}

pub parts-back : (fs : List (List ℕ)) → parts_of (lengths_of fs) (bytes_in fs) ≡ fs
parts-back [] = refl
parts-back (f ∷ fs) =
    ap₂ (λ (x : List ℕ) (y : List (List ℕ)). x ∷ y) (take_at f (bytes_in fs) (length f) refl)
    (ap (parts_of (lengths_of fs)) (drop_at f (bytes_in fs) (length f) refl) ∙ parts-back fs)

pub sum-lengths : (fs : List (List ℕ)) → sum (lengths_of fs) ≡ length (bytes_in fs)
sum-lengths [] = refl
sum-lengths (f ∷ fs) = ap (λ (x : ℕ). length f + x) (sum-lengths fs) ∙ sym (length-append f (bytes_in fs))

pub count-lengths : (fs : List (List ℕ)) → length (lengths_of fs) ≡ length fs
count-lengths [] = refl
count-lengths (f ∷ fs) = ap suc (count-lengths fs)

pub count-parts : (ls bytes : List ℕ) → length (parts_of ls bytes) ≡ length ls
count-parts [] bytes = refl
count-parts (l ∷ ls) bytes = ap suc (count-parts ls (drop l bytes))

-- if the lengths sum to the number of bytes, the frames' bytes are all the bytes
pub bytes_back : (ls bytes : List ℕ) → sum ls ≡ length bytes → bytes_in (parts_of ls bytes) ≡ bytes
bytes_back [] [] e = refl
bytes_back [] (b ∷ bs) e = absurd (omega arith)
bytes_back (l ∷ ls) bytes e =
    ap (λ (x : List ℕ). take l bytes ++ x) (bytes_back ls (drop l bytes) (omega (arith, length-drop l bytes))) ∙ take-append-drop l bytes

pub lengths-back : (ls bytes : List ℕ) → sum ls ≡ length bytes → lengths_of (parts_of ls bytes) ≡ ls
lengths-back [] bytes e = refl
lengths-back (l ∷ ls) bytes e =
    ap₂ (λ (x : ℕ) (y : List ℕ). x ∷ y) (length-take-le l bytes (omega arith)) (lengths-back ls (drop l bytes) (omega (arith, length-drop l bytes)))

-- ---- one after the other

pub bytes-append : (fs gs : List (List ℕ)) → bytes_in (fs ++ gs) ≡ bytes_in fs ++ bytes_in gs
bytes-append [] gs = refl
bytes-append (f ∷ fs) gs = ap (λ (x : List ℕ). f ++ x) (bytes-append fs gs) ∙ sym (append_assoc f (bytes_in fs) (bytes_in gs))

pub lengths-append : (fs gs : List (List ℕ)) → lengths_of (fs ++ gs) ≡ lengths_of fs ++ lengths_of gs
lengths-append [] gs = refl
lengths-append (f ∷ fs) gs = ap (λ (x : List ℕ). length f ∷ x) (lengths-append fs gs)

-- ---- the sum of the lengths

pub sum-here : (ls : List ℕ) (i : ℕ) → i < length ls → sum (drop i ls) ≡ get_or ls i 0 + sum (drop (i + 1) ls)
sum-here ls i h = rw (add-one, drop-cons ls i 0 h)

pub sum-end : (ls : List ℕ) (i : ℕ) → length ls ≤ i → sum (drop i ls) ≡ 0
sum-end ls i h = ap sum (drop_of_length-le ls {i = i} h)

-- what is left of n when s is taken from it
pub left-none : (rest s n : ℕ) → rest + s ≡ n → eqb rest 0 ≡ eqb s n
left-none rest s n e = go (eqb rest 0) refl
  where
    go : (b : Bool) → eqb rest 0 ≡ b → b ≡ eqb s n
    go true t = sym (eq-eqb s n (omega (arith, eqb-true rest 0 t)))
    go false t = let z : rest ≡ 0 → ⊥ = eqb-false rest 0 t in sym (ne_eqb s n (λ q. z (omega arith)))
