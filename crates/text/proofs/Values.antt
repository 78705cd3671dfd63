-- Some numbers in decimal, by computation.
-- Assumes nothing.
use mathlib.Core.Path.{◌≡◌, refl}
use mathlib.Core.List.{[], ◌∷◌}
use Rattle.text.specs.Decimal.{digit_at, decimal, spaced}

-- `0`, `65535`, and ` 10203`, in which zeros stand between other digits
pub none-printed : decimal 0 ≡ 48 ∷ []
unfolding decimal digit_at
none-printed = refl

pub most-printed : decimal 65535 ≡ 54 ∷ 53 ∷ 53 ∷ 51 ∷ 53 ∷ []
unfolding decimal digit_at
most-printed = refl

pub zeros-printed : spaced 10203 ≡ 32 ∷ 49 ∷ 48 ∷ 50 ∷ 48 ∷ 51 ∷ []
unfolding spaced decimal digit_at
zeros-printed = refl

-- a number over 99,999 loses its first digits: of 1,000,020 `00020` is printed
pub last-five : decimal 1000020 ≡ 48 ∷ 48 ∷ 48 ∷ 50 ∷ 48 ∷ []
unfolding decimal digit_at
last-five = refl
