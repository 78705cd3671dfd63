-- A buffer that carries several frames: the frames' bytes one after the other, and beside it the
-- list of the frames' lengths (document 01, "Cutting and joining": "Frame lengths go in a second
-- lent list"). A frame is a list of bytes, given as numbers.
-- Assumes nothing.
use Rattle.std.specs.Prelude.{Bool, true, false, List, [], ◌∷◌, ◌++◌, ℕ, ◌+◌, length, take, drop}

-- the buffer's bytes: those of the first frame, then those of the second, and so on
abbrev pub bytes_in : List (List ℕ) → List ℕ
bytes_in [] = []
bytes_in (f ∷ fs) = f ++ bytes_in fs

-- the frames' lengths in bytes, in the same order
abbrev pub lengths_of : List (List ℕ) → List ℕ
lengths_of [] = []
lengths_of (f ∷ fs) = length f ∷ lengths_of fs

-- the frames in a buffer, given their lengths and the bytes: the first frame is the first `l`
-- bytes, the next one begins where it ends. Lengths that do not sum to the number of bytes are
-- refused elsewhere (refusal 2); here a part past the end is cut short
abbrev pub parts_of : List ℕ → List ℕ → List (List ℕ)
parts_of [] bytes = []
parts_of (l ∷ ls) bytes = take l bytes ∷ parts_of ls (drop l bytes)

-- the sum of the lengths
abbrev pub sum : List ℕ → ℕ
sum [] = 0
sum (n ∷ ns) = n + sum ns

-- whether a list is empty
abbrev pub is_none : {A : Type 0} → List A → Bool
is_none [] = true
is_none (x ∷ xs) = false
