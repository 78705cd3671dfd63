-- What the word operations do, bit by bit, for any width k.
-- Assumes nothing.
use Rattle.std.proofs.Common.{◌≡◌, ℕ, zero, suc, ◌+◌, ◌-◌, ◌*◌, ◌/◌, ◌%◌, ◌^◌, ◌<◌, ◌≤◌, min, max, sym, ap, ◌∙◌, lt_of_lt_of_le, not-suc-le-zero, mod-lt, mul_comm, pow-suc, div-one, arith, lit<, pow_mono, shr-shr}
use native.Mathlib.Nat.{div-div-eq-div-mul, div-eq_of_lt}
use lib.Arith.{lt-one, digits_mod}
use lib.Pow.{shl-shr, field, mod-mod-pow}
use lib.Bits.{bit_and, bit_or, and_step, or_step, and_shr, or_shr, shifted_half, shifted_even}
use Rattle.wordset.specs.Sets.{bit}

pub bit-lt : (w j : ℕ) → bit w j < 2
unfolding bit
bit-lt w j = mod-lt (w / 2 ^ j) (lit< tt)

pub bit-zero : (w : ℕ) → bit w 0 ≡ w % 2
unfolding bit
bit-zero w = ap (λ (x : ℕ). x % 2) (div-one w)

pub bit-half : (w j : ℕ) → bit (w / 2) j ≡ bit w (suc j)
unfolding bit
bit-half w j = ap (λ (x : ℕ). x % 2) (div-div-eq-div-mul w 2 (2 ^ j) ∙ ap (λ (x : ℕ). w / x) (mul_comm 2 (2 ^ j) ∙ sym (pow-suc 2 j)))

-- in a word of k bits every bit from k on is 0
pub bit_past : (w k j : ℕ) → w < 2 ^ k → k ≤ j → bit w j ≡ 0
unfolding bit
bit_past w k j h l = ap (λ (x : ℕ). x % 2) (div-eq_of_lt (lt_of_lt_of_le h (pow_mono l)))

-- ---- or, and, not

or-odd : (a b : ℕ) → bit_or a b % 2 ≡ max (a % 2) (b % 2)
or-odd a b = ap (λ (x : ℕ). x % 2) (or_step a b) ∙ digits_mod (bit_or (a / 2) (b / 2)) (omega arith)

and-odd : (a b : ℕ) → bit_and a b % 2 ≡ min (a % 2) (b % 2)
and-odd a b = ap (λ (x : ℕ). x % 2) (and_step a b) ∙ digits_mod (bit_and (a / 2) (b / 2)) (omega arith)

pub bit-or : (a b j : ℕ) → bit (bit_or a b) j ≡ max (bit a j) (bit b j)
unfolding bit
bit-or a b j = ap (λ (x : ℕ). x % 2) (or_shr a b j) ∙ or-odd (a / 2 ^ j) (b / 2 ^ j)

pub bit-and : (a b j : ℕ) → bit (bit_and a b) j ≡ min (bit a j) (bit b j)
unfolding bit
bit-and a b j = ap (λ (x : ℕ). x % 2) (and_shr a b j) ∙ and-odd (a / 2 ^ j) (b / 2 ^ j)

pub half_lt : (k w : ℕ) → w < 2 ^ suc k → w / 2 < 2 ^ k
half_lt k w h = omega (arith, pow-suc 2 k)

-- the complement in k bits
not-half : (k w : ℕ) → w < 2 ^ suc k → ((2 ^ suc k - 1) - w) / 2 ≡ (2 ^ k - 1) - w / 2
not-half k w h = omega (arith, pow-suc 2 k)

not-odd : (k w : ℕ) → w < 2 ^ suc k → ((2 ^ suc k - 1) - w) % 2 ≡ 1 - w % 2
not-odd k w h = omega (arith, pow-suc 2 k)

pub bit_not : (k w j : ℕ) → w < 2 ^ k → j < k → bit ((2 ^ k - 1) - w) j ≡ 1 - bit w j
bit_not zero w j h l = absurd (not-suc-le-zero l)
bit_not (suc k) w zero h l = bit-zero ((2 ^ suc k - 1) - w) ∙ not-odd k w h ∙ ap (λ (x : ℕ). 1 - x) (sym (bit-zero w))
bit_not (suc k) w (suc j) h l =
    sym (bit-half ((2 ^ suc k - 1) - w) j) ∙ ap (λ (x : ℕ). bit x j) (not-half k w h) ∙ bit_not k (w / 2) j (half_lt k w h) (omega arith)
    ∙ ap (λ (x : ℕ). 1 - x) (bit-half w j)

-- ---- shifts

pub bit-shr : (w s j : ℕ) → bit (w / 2 ^ s) j ≡ bit w (s + j)
unfolding bit
bit-shr w s j = ap (λ (x : ℕ). x % 2) (shr-shr w s j)

-- a shift up by s makes the lowest s bits 0
pub bit-shl-low : (w s j : ℕ) → j < s → bit (w * 2 ^ s) j ≡ 0
bit-shl-low w zero j h = absurd (not-suc-le-zero h)
bit-shl-low w (suc s) zero h = bit-zero (w * 2 ^ suc s) ∙ shifted_even w s
bit-shl-low w (suc s) (suc j) h =
    sym (bit-half (w * 2 ^ suc s) j) ∙ ap (λ (x : ℕ). bit x j) (shifted_half w s) ∙ bit-shl-low w s j (omega arith)

pub bit-shl-high : (w s j : ℕ) → bit (w * 2 ^ s) (s + j) ≡ bit w j
bit-shl-high w s j = sym (bit-shr (w * 2 ^ s) s j) ∙ ap (λ (x : ℕ). bit x j) (shl-shr w s)

-- cutting a word to k bits leaves the bits below k
pub bit-mod : (w k j : ℕ) → j < k → bit (w % 2 ^ k) j ≡ bit w j
unfolding bit
bit-mod w k j h =
    let e : k ≡ (k - j - 1) + 1 + j = omega arith in
    ap (λ (x : ℕ). w % 2 ^ x / 2 ^ j % 2) e ∙ ap (λ (x : ℕ). x % 2) (field w ((k - j - 1) + 1) j) ∙ mod-mod-pow (w / 2 ^ j) (k - j - 1) 1

-- two words of k bits are equal if all their bits are
pub same_bits : (k a b : ℕ) → a < 2 ^ k → b < 2 ^ k → ((j : ℕ) → j < k → bit a j ≡ bit b j) → a ≡ b
same_bits zero a b ha hb e = lt-one ha ∙ sym (lt-one hb)
same_bits (suc k) a b ha hb e =
    let high : a / 2 ≡ b / 2 = same_bits k (a / 2) (b / 2) (half_lt k a ha) (half_lt k b hb) (λ j l. bit-half a j ∙ e (suc j) (omega arith) ∙ sym (bit-half b j)) in
    let low : a % 2 ≡ b % 2 = sym (bit-zero a) ∙ e 0 (omega arith) ∙ bit-zero b in
    omega arith
