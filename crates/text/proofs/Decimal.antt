-- Numbers written in decimal, digit by digit.
-- Assumes nothing.
use mathlib.Core.Path.{◌≡◌}
use mathlib.Core.List.{List, [], ◌∷◌}
use Prim.Native.Nat.{ℕ, ◌+◌, ◌/◌, ◌%◌, ◌≤◌, ◌<◌}
use native.Mathlib.Omega.{arith}
use borrow.Author.Tests.{le-leb, lt-leb}
use Rattle.text.specs.Decimal.{digit_at, decimal, spaced}
use Rattle.text.specs.Writing.{Wrote}
use Rattle.text.proofs.Writing.{none, then, meant}

digit-there : (p n : ℕ) → p ≤ n → (48 + n / p % 10) ∷ [] ≡ digit_at p n
unfolding digit_at
digit-there p n h = rw (le-leb p n h)

digit_not : (p n : ℕ) → n < p → [] ≡ digit_at p n
unfolding digit_at
digit_not p n h = rw (lt-leb p n h)

pub digit-written : {o o' : List ℕ} {from r p n : ℕ} → p ≤ n → Wrote o o' from r 1 ((48 + n / p % 10) ∷ []) → Wrote o o' from r 1 (digit_at p n)
digit-written {p = p} {n = n} h w = meant w (digit-there p n h) (omega arith)

pub no_digit : (o : List ℕ) (from p n : ℕ) → n < p → Wrote o o from from 1 (digit_at p n)
no_digit o from p n h = meant (none o from 1) (digit_not p n h) (omega arith)

pub number-written : {o o₁ o₂ o₃ o₄ o₅ : List ℕ} {from r₁ r₂ r₃ r₄ r₅ : ℕ} (n : ℕ)
    → Wrote o o₁ from r₁ 1 (digit_at 10000 n) → Wrote o₁ o₂ r₁ r₂ 1 (digit_at 1000 n)
    → Wrote o₂ o₃ r₂ r₃ 1 (digit_at 100 n) → Wrote o₃ o₄ r₃ r₄ 1 (digit_at 10 n)
    → Wrote o₄ o₅ r₄ r₅ 1 ((48 + n % 10) ∷ []) → Wrote o o₅ from r₅ 5 (decimal n)
unfolding decimal
number-written n a b c d e = then a (then b (then c (then d e)))

pub spaced-written : {o o₁ o₂ : List ℕ} {from r₁ r₂ : ℕ} (n : ℕ) → Wrote o o₁ from r₁ 1 (32 ∷ []) → Wrote o₁ o₂ r₁ r₂ 5 (decimal n)
    → Wrote o o₂ from r₂ 6 (spaced n)
unfolding spaced
spaced-written n a b = then a b
