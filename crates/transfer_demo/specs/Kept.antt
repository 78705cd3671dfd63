-- How the program stores the frames that are handed on: one after the other in a lent list of
-- bytes, their lengths in a second lent list, as far as there is room. Document 01 says nothing of
-- this: it is the program's own.
-- Assumes nothing.
use Rattle.std.specs.Prelude.{◌≡◌, cond, ◌&&◌, List, [], ◌∷◌, ◌++◌, ℕ, ◌+◌, ◌≤◌, leb, ltb, length, take}
use Rattle.lists.specs.Frames.{bytes_in, lengths_of}
use Rattle.transfer_demo.specs.declared.Handed.{Handed}

-- the frames stored after one more comes: it is added if its bytes fit `room` bytes with those
-- before it, and there is one of `places` places for its length; else it is left out
unfoldable pub keep_one : ℕ → ℕ → List (List ℕ) → List ℕ → List (List ℕ)
keep_one room places kept frame = cond (leb (length (bytes_in kept) + length frame) room && ltb (length kept) places) (kept ++ (frame ∷ [])) kept

-- the frames stored after several more come, in order
unfoldable pub keep_all : ℕ → ℕ → List (List ℕ) → List (List ℕ) → List (List ℕ)
keep_all room places kept [] = kept
keep_all room places kept (f ∷ fs) = keep_all room places (keep_one room places kept f) fs

-- the two lent lists hold the frames `kept` at their front, and `handed` has their number and the
-- sum of their bytes
pub record Holds (received sizes : List ℕ) (handed : Handed) (kept : List (List ℕ)) : Type 0 where
  pub count : handed.frames ≡ length kept
  pub total : handed.bytes ≡ length (bytes_in kept)
  pub count_fits : handed.frames ≤ length sizes
  pub total-fits : handed.bytes ≤ length received
  pub lengths : take handed.frames sizes ≡ lengths_of kept
  pub bytes : take handed.bytes received ≡ bytes_in kept
