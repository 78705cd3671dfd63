-- Distance and next number modulo m: document 01, "The two counters", first paragraph. The
-- definitions hold for any modulus; the link uses 64 for SN, and 16 for PS and PR.
-- Assumes nothing.
use Rattle.std.specs.Prelude.{◌≡◌, ℕ, ◌+◌, ◌-◌, ◌%◌, ◌<◌}

-- the distance from a to b modulo m: "Distance from a to b is (b - a) modulo 64, or modulo 16". As
-- b - a may be negative, which no natural number is, m - a % m is added instead of subtracting a:
-- both have the same remainder.
unfoldable pub distance : ℕ → ℕ → ℕ → ℕ
distance m a b = (b + (m - a % m)) % m

-- the number after a, modulo m
abbrev pub next : ℕ → ℕ → ℕ
next m a = (a + 1) % m

-- d is the distance from a to b: the only number below m with a + d equal to b modulo m
pub record IsDistance (m a b d : ℕ) : Type 0 where
  pub below : d < m
  pub reaches : (a + d) % m ≡ b % m
  pub only : (e : ℕ) → e < m → (a + e) % m ≡ b % m → e ≡ d

-- The law of distance for the modulus m: `distance` is the distance as `IsDistance` defines it
-- (`meaning`); and "subtraction that wraps at 256 gives both, as 64 and 16 divide 256": if w is b -
-- a in a byte, that is (w + a) % 256 is b, then w's remainder is the distance (`wrapping`). It
-- holds for every m that divides 256: `distance-law` in proofs/Modular.antt.
pub record DistanceLaw (m : ℕ) : Type 0 where
  pub meaning : (a b : ℕ) → IsDistance m a b (distance m a b)
  pub wrapping : (a b w : ℕ) → (w + a) % 256 ≡ b → w % m ≡ distance m a b
