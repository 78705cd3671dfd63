-- Numbers modulo k: the rotated word and the run as the code computes them, for any width k.
-- Assumes nothing.
use Rattle.std.proofs.Common.{◌≡◌, ℕ, zero, suc, ◌+◌, ◌-◌, ◌*◌, ◌/◌, ◌%◌, ◌^◌, ◌<◌, ◌≤◌, max, Bool, true, false, not, eqb, sym, refl, ap, ◌∙◌, ap₂, lt_of_lt_of_le, mod-lt, mod-eq_of_lt, arith, pow_mono}
use native.Mathlib.Nat.{mod-add-mod, add-mod_right, mod_self}
use native.Mathlib.Decide.{dec_lt}
use lib.Bits.{bit_or}
use lib.Count.{count_trailing_zeros}
use Rattle.wordset.specs.Sets.{bit, member, digit, rotate, run, ahead}
use Rattle.wordset.proofs.Digits.{bit_past, bit-or, bit_not, bit-shr, bit-shl-low, bit-shl-high, bit-mod}
use Rattle.wordset.proofs.Sets.{bit-member, member-bit, set_of-lt, member-set_of, member-past, first-le, first-picked, first-least, first-only, first-same, lowest-zeros}
use Rattle.wordset.proofs.Words.{cut-set}

pub same_bit : (v w i j : ℕ) → bit v i ≡ bit w j → member v i ≡ member w j
unfolding member
same_bit v w i j e = ap (λ (d : ℕ). eqb d 1) e

-- the complement in k bits
not_digit : (b : Bool) → eqb (1 - digit b) 1 ≡ not b
not_digit true = refl
not_digit false = refl

pub member-not : (k w j : ℕ) → w < 2 ^ k → j < k → member (2 ^ k - 1 - w) j ≡ not (member w j)
member-not k w j h l =
    member-bit (2 ^ k - 1 - w) j _ (bit_not k w j h l ∙ ap (λ (d : ℕ). 1 - d) (bit-member w j)) ∙ not_digit (member w j)

max-same : (x y : ℕ) → x ≡ y → max x y ≡ y
max-same x y e = omega arith

max-zero-l : (x : ℕ) → max 0 x ≡ x
max-zero-l x = omega arith

max-zero-r : (x : ℕ) → max x 0 ≡ x
max-zero-r x = omega arith

module _ (k : ℕ) where
  pub member-rotate : (w s j : ℕ) → j < k → member (rotate k w s) j ≡ member w ((s + j) % k)
  member-rotate w s = member-set_of k (λ j. member w ((s + j) % k))

  pub rotate-lt : (w s : ℕ) → rotate k w s < 2 ^ k
  rotate-lt w s = set_of-lt k (λ j. member w ((s + j) % k))

  -- ---- the number of trailing zeros of the rotated word's complement is the length of the run; the
  -- complement may be one in m bits, where m is more than k

  pub zeros-run : (m w s : ℕ) → k ≤ m → count_trailing_zeros m (2 ^ m - 1 - rotate k w s) ≡ run k w s
  zeros-run m w s h =
      lowest-zeros m c
      ∙ sym (first-only m (member c) (run k w s) (omega (arith, first-le k gap))
      (λ j l. at j (omega (arith, first-le k gap)) ∙ first-least k gap j l)
      (λ l. elim (dec_lt (run k w s) k) [
        | yes b ↦ at (run k w s) b ∙ first-picked k gap b
        | no b ↦ past (run k w s) l (omega arith)
      ]))
    where
      c : ℕ
      c = 2 ^ m - 1 - rotate k w s

      gap : ℕ → Bool
      gap j = not (member w ((s + j) % k))

      fits : rotate k w s < 2 ^ m
      fits = lt_of_lt_of_le (rotate-lt w s) (pow_mono h)

      at : (j : ℕ) → j < k → member c j ≡ gap j
      at j l = member-not m (rotate k w s) j fits (omega arith) ∙ ap not (member-rotate w s j l)

      past : (j : ℕ) → j < m → k ≤ j → member c j ≡ true
      past j l b = member-not m (rotate k w s) j fits l ∙ ap not (member-past k (rotate k w s) j (rotate-lt w s) b)

  -- ---- the number of its own trailing zeros is how far ahead the first member is

  pub zeros-ahead : (w s : ℕ) → count_trailing_zeros k (rotate k w s) ≡ ahead k w s
  zeros-ahead w s = lowest-zeros k (rotate k w s) ∙ first-same k (member (rotate k w s)) (λ j. member w ((s + j) % k)) (member-rotate w s)

module _ (k m : ℕ) (pos : 0 < k) (room : k ≤ m) where
  -- ---- the word shifted down, with the bits that fall out put in at the top, in m bits

  abbrev shifts : ℕ → ℕ → ℕ
  shifts w s = bit_or (w / 2 ^ s) (w * 2 ^ ((k - s) % k) % 2 ^ m)

  bit-shifts : (w s : ℕ) → w < 2 ^ k → s < k → (j : ℕ) → j < k → bit (shifts w s) j ≡ bit w ((s + j) % k)
  bit-shifts w zero h l j b =
      bit-or (w / 2 ^ 0) (w * 2 ^ ((k - 0) % k) % 2 ^ m) j
      ∙ max-same (bit (w / 2 ^ 0) j) _ (bit-shr w 0 j ∙ sym (upper ∙ ap (bit w) (omega arith)))
      ∙ upper ∙ ap (bit w) (sym (ap (λ (x : ℕ). x % k) (omega arith) ∙ mod-eq_of_lt b))
    where
      none : (k - 0) % k ≡ 0
      none = ap (λ (x : ℕ). x % k) (omega arith) ∙ mod_self k

      upper : bit (w * 2 ^ ((k - 0) % k) % 2 ^ m) j ≡ bit w j
      upper =
          bit-mod (w * 2 ^ ((k - 0) % k)) m j (omega arith)
          ∙ ap (λ (x : ℕ). bit (w * 2 ^ x) j) none
          ∙ ap (bit (w * 2 ^ 0)) (omega arith) ∙ bit-shl-high w 0 j
  bit-shifts w (suc s) h l j b =
      bit-or (w / 2 ^ suc s) (w * 2 ^ ((k - suc s) % k) % 2 ^ m) j
      ∙ ap₂ max (bit-shr w (suc s) j) (bit-mod (w * 2 ^ ((k - suc s) % k)) m j (omega arith) ∙ ap (λ (x : ℕ). bit (w * 2 ^ x) j) (mod-eq_of_lt (omega arith)))
      ∙ elim (dec_lt (suc s + j) k) [
        | yes c ↦
            ap (max (bit w (suc s + j))) (bit-shl-low w (k - suc s) j (omega arith))
            ∙ max-zero-r (bit w (suc s + j)) ∙ ap (bit w) (sym (mod-eq_of_lt c))
        | no c ↦
            let i : ℕ = suc s + j - k in
            let e : j ≡ (k - suc s) + i = omega arith in
            let f : suc s + j ≡ i + k = omega arith in
            ap₂ max (bit_past w k (suc s + j) h (omega arith)) (ap (bit (w * 2 ^ (k - suc s))) e ∙ bit-shl-high w (k - suc s) i)
            ∙ max-zero-l (bit w i) ∙ ap (bit w) (sym (ap (λ (x : ℕ). x % k) f ∙ add-mod_right i k ∙ mod-eq_of_lt (omega arith)))
      ]

  -- cut to k bits this is the rotated set, for any s
  pub shifts-rotate : (w s : ℕ) → w < 2 ^ k → bit_or (w / 2 ^ (s % k)) (w * 2 ^ ((k - s % k) % k) % 2 ^ m) % 2 ^ k ≡ rotate k w s
  shifts-rotate w s h =
      cut-set k (shifts w (s % k)) _ (λ j b.
      same_bit (shifts w (s % k)) w j ((s % k + j) % k) (bit-shifts w (s % k) h (mod-lt s pos) j b)
      ∙ ap (member w) (mod-add-mod s k j))
