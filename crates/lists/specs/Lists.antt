-- Two operations on lists that several crates use: a list given by a function of the index, and a
-- result written over the front of lent memory (document 01, "Cutting and joining").
-- Assumes nothing.
use Rattle.std.specs.Prelude.{List, [], ◌∷◌, ◌++◌, ℕ, zero, suc, length, drop}

-- the list of n numbers f k, f (k + 1), .., f (k + n - 1)
unfoldable pub list_from : ℕ → ℕ → (ℕ → ℕ) → List ℕ
list_from k zero f = []
list_from k (suc n) f = f k ∷ list_from (suc k) n f

-- lent memory `out` after `result` was written to its front: "places past the result keep what they
-- held"
abbrev pub over : List ℕ → List ℕ → List ℕ
over result out = result ++ drop (length result) out
