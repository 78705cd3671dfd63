-- Decimal numbers, read and written: document 01, "The replay program", "decimal, one to five
-- digits, single blanks; a value over 65,535 is malformed". A text is a list of bytes; 48 to 57 are
-- the digits 0 to 9, and 32 is the blank. One number is written as the crate `text` writes it.
-- Assumes nothing.
use Rattle.std.specs.Prelude.{Bool, true, cond, ◌&&◌, List, [], ◌∷◌, ◌++◌, ℕ, ◌+◌, ◌-◌, ◌*◌, leb, eqb, length, Option, Some, None}
use Rattle.text.specs.Decimal.{spaced}

-- the byte is a blank
abbrev pub is_blank : ℕ → Bool
is_blank b = eqb b 32

-- ---- reading a number

-- the byte is a digit
unfoldable pub is_digit : ℕ → Bool
is_digit b = leb 48 b && leb b 57

-- every byte is a digit
unfoldable pub all_digits : List ℕ → Bool
all_digits [] = true
all_digits (b ∷ bs) = is_digit b && all_digits bs

-- the value of the digits, where v is the value of the digits before them
unfoldable pub value_from : ℕ → List ℕ → ℕ
value_from v [] = v
value_from v (b ∷ bs) = value_from (v * 10 + (b - 48)) bs

-- the text is a number: one to five digits, with a value of at most 65,535
unfoldable pub is_number : List ℕ → Bool
is_number text = leb 1 (length text) && (leb (length text) 5 && (all_digits text && leb (value_from 0 text) 65535))

-- the value of a text that is a number, none for any other text
unfoldable pub decimal_in : List ℕ → Option ℕ
decimal_in text = cond (is_number text) (Some (value_from 0 text)) None

-- ---- writing numbers

-- the numbers in decimal, each with a blank in front
unfoldable pub all_spaced : List ℕ → List ℕ
all_spaced [] = []
all_spaced (n ∷ ns) = spaced n ++ all_spaced ns
