-- Numbers in decimal, as the programs print them. A text is a list of bytes; 48 to 57 are the
-- digits 0 to 9, and 32 is the blank.
-- Assumes nothing.
use Rattle.std.specs.Prelude.{cond, List, [], ◌∷◌, ◌++◌, ℕ, ◌+◌, ◌/◌, ◌%◌, leb}

-- the digit of n at p, a power of ten, if n is at least p; else nothing
unfoldable pub digit_at : ℕ → ℕ → List ℕ
digit_at p n = cond (leb p n) ((48 + n / p % 10) ∷ []) []

-- n, which is below 100,000, in decimal with no zeros in front
unfoldable pub decimal : ℕ → List ℕ
decimal n = digit_at 10000 n ++ (digit_at 1000 n ++ (digit_at 100 n ++ (digit_at 10 n ++ ((48 + n % 10) ∷ []))))

-- a blank, and n in decimal
unfoldable pub spaced : ℕ → List ℕ
spaced n = 32 ∷ decimal n
