-- Text written into lent bytes at an index.
-- Assumes nothing.
use Rattle.std.specs.Prelude.{◌≡◌, List, [], ◌∷◌, ℕ, suc, ◌+◌, ◌≤◌, ◌<◌, length, set}

-- the bytes o with the text written over them starting at index `from`
unfoldable pub put : List ℕ → ℕ → List ℕ → List ℕ
put o from [] = o
put o from (b ∷ bs) = put (set o from b) (suc from) bs

-- the text was written to the bytes o starting at index `from`, and they are o' afterwards; r is
-- the index after the text, which has at most `most` bytes
pub record Wrote (o o' : List ℕ) (from r most : ℕ) (text : List ℕ) : Type 0 where
  pub end : r ≡ from + length text
  pub within : r ≤ from + most
  pub size : length o' ≡ length o
  pub bytes : o' ≡ put o from text

-- what a call that writes a text of at most `most` bytes does: the text is written if there are
-- that many bytes from `from` on; else nothing is, and r is `from`
pub record Puts (o o' : List ℕ) (from r most : ℕ) (text : List ℕ) : Type 0 where
  pub written : from + most ≤ length o → Wrote o o' from r most text
  pub no_room : length o < from + most → (r ≡ from) × (o' ≡ o)
