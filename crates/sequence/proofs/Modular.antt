-- The law of distance, proved once over the modulus.
-- Assumes nothing.
use Rattle.std.proofs.Common.{◌≡◌, ℕ, ◌+◌, ◌-◌, ◌*◌, ◌/◌, ◌%◌, ◌<◌, sym, ap, ◌∙◌, mod-lt, mod-eq_of_lt, div-add-mod', arith}
use native.Mathlib.Nat.{mod-mod, mod-add-mod, add-mod-mod, add-mod_right, mul-add-mod_self_right, mod-mod_of_dvd, dvd_of_mod-eq-zero}
use Rattle.sequence.specs.Modular.{distance, DistanceLaw}

module _ (m : ℕ) (pos : 0 < m) where
  -- a + (m - a % m) is a multiple of m, so that adding it leaves d's remainder
  round : (a d : ℕ) → (a + d + (m - a % m)) % m ≡ d % m
  round a d =
      let sum : a + d + (m - a % m) ≡ a / m * m + (d + m) = omega (arith, div-add-mod' a m, mod-lt a pos) in
      ap (λ (x : ℕ). x % m) sum ∙ mul-add-mod_self_right (a / m) m (d + m) ∙ add-mod_right d m

  pub distance-lt : (a b : ℕ) → distance m a b < m
  unfolding distance
  distance-lt a b = mod-lt _ pos

  pub distance-reaches : (a b : ℕ) → (a + distance m a b) % m ≡ b % m
  unfolding distance
  distance-reaches a b =
      add-mod-mod a (b + (m - a % m)) m
      ∙ ap (λ (x : ℕ). x % m) (omega arith)
      ∙ round a b

  pub distance-only : (a b d : ℕ) → d < m → (a + d) % m ≡ b % m → d ≡ distance m a b
  unfolding distance
  distance-only a b d h e =
      sym (mod-eq_of_lt h) ∙ sym (round a d) ∙ sym (mod-add-mod (a + d) m (m - a % m))
      ∙ ap (λ (x : ℕ). (x + (m - a % m)) % m) e ∙ mod-add-mod b m (m - a % m)

  -- the distance from a's remainder is the distance from a
  pub distance-remainder : (a b : ℕ) → distance m (a % m) b ≡ distance m a b
  unfolding distance
  distance-remainder a b = ap (λ (x : ℕ). (b + (m - x)) % m) (mod-mod a m)

  -- the distance from a to a + d is d
  pub distance-at : (a d : ℕ) → d < m → distance m a ((a + d) % m) ≡ d
  distance-at a d h = sym (distance-only a ((a + d) % m) d h (sym (mod-mod (a + d) m)))

  -- the same of the remainders of both numbers
  pub distance-apart : (a d : ℕ) → d < m → distance m (a % m) ((a + d) % m) ≡ d
  distance-apart a d h = distance-remainder a ((a + d) % m) ∙ distance-at a d h

  -- b is the number at b's distance from a
  pub at-distance : (a b : ℕ) → b < m → (a + distance m a b) % m ≡ b
  at-distance a b h = distance-reaches a b ∙ mod-eq_of_lt h

  pub distance-law : 256 % m ≡ 0 → DistanceLaw m
  distance-law div = record {
    meaning = λ a b. record { below = distance-lt a b; reaches = distance-reaches a b; only = distance-only a b };
    wrapping = λ a b w e.
        distance-only a b (w % m) (mod-lt w pos)
        (add-mod-mod a w m ∙ ap (λ (x : ℕ). x % m) (omega arith) ∙ sym (mod-mod_of_dvd m (w + a) (dvd_of_mod-eq-zero m div)) ∙ ap (λ (x : ℕ). x % m) e);
  }
