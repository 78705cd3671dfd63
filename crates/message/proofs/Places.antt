-- Frames in a buffer, by the place of one: the frame there, and the rest.
-- Assumes nothing.
use mathlib.Core.Path.{◌≡◌, refl, sym, ap, ◌∙◌}
use mathlib.Core.List.{List, [], ◌∷◌}
use Prim.Native.Nat.{ℕ, ◌+◌, ◌-◌, ◌≤◌, ◌<◌}
use native.Mathlib.Numerals.{add-one}
use native.Mathlib.Omega.{arith}
use lib.Dec.{eqb, eqb-suc-zero}
use lib.ListN.{length, take, drop, get_or, length-drop, drop_of_length-le}
use lib.Seq.{drop-drop, drop-cons, length-take-le}
use Rattle.lists.specs.Frames.{parts_of, sum, is_none}
use Rattle.lists.proofs.Frames.{sum-here}

-- ---- lengths

pub none-length : {A : Type 0} (xs : List A) → is_none xs ≡ eqb (length xs) 0
none-length [] = refl
none-length (x ∷ xs) = sym (eqb-suc-zero (length xs))

-- what is left of n when s is taken from it
pub left-none : (rest s n : ℕ) → rest + s ≡ n → eqb rest 0 ≡ eqb s n
left-none rest s n e = grind arith

-- no length comes from place j on
pub last-is : (ls : List ℕ) (j : ℕ) → j ≤ length ls → is_none (drop j ls) ≡ eqb j (length ls)
last-is ls j h = none-length (drop j ls) ∙ ap (λ (x : ℕ). eqb x 0) (length-drop j ls) ∙ left-none (length ls - j) j (length ls) (omega arith)

-- ---- frames

-- the frames from place i on, which begin at byte p
abbrev pub from : List ℕ → List ℕ → ℕ → ℕ → List (List ℕ)
from ls bytes p i = parts_of (drop i ls) (drop p bytes)

-- as many frames as lengths
pub none-parts : (ls bytes : List ℕ) → is_none (parts_of ls bytes) ≡ is_none ls
none-parts [] bytes = refl
none-parts (l ∷ ls) bytes = refl

pub from-here : (ls bytes : List ℕ) (p i : ℕ) → i < length ls
    → from ls bytes p i ≡ take (get_or ls i 0) (drop p bytes) ∷ from ls bytes (p + get_or ls i 0) (i + 1)
from-here ls bytes p i h = rw (add-one, drop-cons ls i 0 h, ← drop-drop (get_or ls i 0) p bytes)

pub from_end : (ls bytes : List ℕ) (p i : ℕ) → length ls ≤ i → from ls bytes p i ≡ []
from_end ls bytes p i h = ap (λ (x : List ℕ). parts_of x (drop p bytes)) (drop_of_length-le ls {i = i} h)

-- place i begins at byte p
pub record At (ls bytes : List ℕ) (p i : ℕ) : Type 0 where
  pub index : i ≤ length ls
  pub place : p + sum (drop i ls) ≡ length bytes

pub at-start : (ls bytes : List ℕ) → sum ls ≡ length bytes → At ls bytes 0 0
at-start ls bytes e = record { index = omega arith; place = omega (arith, e) }

module _ (ls bytes : List ℕ) (p i : ℕ) (v : At ls bytes p i) (h : i < length ls) where
  -- the frame lies inside the buffer, and has its length
  pub frame_in : (p + get_or ls i 0 ≤ length bytes) × (length (take (get_or ls i 0) (drop p bytes)) ≡ get_or ls i 0)
  frame_in =
      let inside : p + get_or ls i 0 ≤ length bytes = omega (arith, sum-here ls i h, v.place) in
      (inside, length-take-le (get_or ls i 0) (drop p bytes) (simp length-drop (omega arith)))

  pub at_next : At ls bytes (p + get_or ls i 0) (i + 1)
  at_next = record { index = omega arith; place = omega (arith, sum-here ls i h, v.place) }

-- a part from p to p + l, as code lends it
pub part-is : (bytes : List ℕ) (p l : ℕ) → take (p + l - p) (drop p bytes) ≡ take l (drop p bytes)
part-is bytes p l = let n : p + l - p ≡ l = omega arith in ap (λ (x : ℕ). take x (drop p bytes)) n
