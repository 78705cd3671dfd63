-- Each word operation of the code is the operation on sets that its contract names, for any width
-- k.
-- Assumes nothing.
use Rattle.std.proofs.Common.{◌≡◌, ℕ, zero, suc, ◌+◌, ◌-◌, ◌*◌, ◌/◌, ◌%◌, ◌^◌, ◌<◌, ◌≤◌, min, max, Bool, true, false, not, ◌&&◌, ◌||◌, eqb, sym, refl, ap, ◌∙◌, ap₂, lt_of_le_of_lt, mod-lt, mod-eq_of_lt, one-mul, arith, lit<, pow_pos, shl_exact, eq-eqb, ne_eqb}
use mathlib.Core.Bool.{or-false}
use native.Mathlib.Decide.{dec_lt}
use lib.Pow.{shr_le}
use lib.Bits.{bit_and, bit_or, and_mask}
use Rattle.wordset.specs.Sets.{bit, member, digit, set_of, with, union, difference}
use Rattle.wordset.proofs.Digits.{bit-zero, bit_past, bit-or, bit-and, bit_not, bit-shl-low, bit-shl-high, bit-mod}
use Rattle.wordset.proofs.Sets.{bit-member, member-bit, set_of-lt, member-set_of, same-members}

-- ---- or, and, and not, bit by bit

or-digit : (x y : Bool) → eqb (max (digit x) (digit y)) 1 ≡ (x || y)
or-digit true true = refl
or-digit true false = refl
or-digit false true = refl
or-digit false false = refl

less-digit : (x y : Bool) → eqb (min (digit x) (1 - digit y)) 1 ≡ (x && not y)
less-digit true true = refl
less-digit true false = refl
less-digit false true = refl
less-digit false false = refl

pub member-or : (a b j : ℕ) → member (bit_or a b) j ≡ (member a j || member b j)
member-or a b j =
    member-bit (bit_or a b) j _ (bit-or a b j ∙ ap₂ max (bit-member a j) (bit-member b j)) ∙ or-digit (member a j) (member b j)

pub member-less : (k a b j : ℕ) → b < 2 ^ k → j < k → member (bit_and a (2 ^ k - 1 - b)) j ≡ (member a j && not (member b j))
member-less k a b j h l =
    member-bit (bit_and a (2 ^ k - 1 - b)) j _
    (bit-and a (2 ^ k - 1 - b) j ∙ ap₂ min (bit-member a j) (bit_not k b j h l ∙ ap (λ (d : ℕ). 1 - d) (bit-member b j)))
    ∙ less-digit (member a j) (member b j)

-- the set that has only n as a member
member-only : (n j : ℕ) → member (2 ^ n) j ≡ eqb j n
member-only n j = elim (dec_lt j n) [
  | yes h ↦ member-bit (2 ^ n) j 0 (shifted ∙ bit-shl-low 1 n j h) ∙ sym (ne_eqb j n (λ e. omega arith))
  | no h ↦
      let e : j ≡ n + (j - n) = omega arith in
      member-bit (2 ^ n) j (bit 1 (j - n)) (shifted ∙ ap (bit (1 * 2 ^ n)) e ∙ bit-shl-high 1 n (j - n)) ∙ alone (j - n) e
]
  where
    shifted : bit (2 ^ n) j ≡ bit (1 * 2 ^ n) j
    shifted = ap (λ (x : ℕ). bit x j) (sym (one-mul (2 ^ n)))

    alone : (d : ℕ) → j ≡ n + d → eqb (bit 1 d) 1 ≡ eqb j n
    alone zero e = ap (λ (x : ℕ). eqb x 1) (bit-zero 1) ∙ sym (eq-eqb j n (omega arith))
    alone (suc d) e = ap (λ (x : ℕ). eqb x 1) (bit_past 1 1 (suc d) (lit< tt) (omega arith)) ∙ sym (ne_eqb j n (λ q. omega arith))

-- the code's mask for n: 1 shifted up by n
pub mask : (k n : ℕ) → n < k → 1 * 2 ^ n % 2 ^ k ≡ 2 ^ n
mask k n h = shl_exact 1 n k (lit< tt) (omega arith) ∙ one-mul (2 ^ n)

-- ---- what the code computes

pub shifted-member : (w n : ℕ) → eqb (bit_and (w / 2 ^ n) 1) 1 ≡ member w n
unfolding member bit
shifted-member w n = ap (λ (x : ℕ). eqb x 1) (and_mask (w / 2 ^ n) 1)

module _ (k : ℕ) where
  -- a word of k bits is the set of the numbers for which p is true, if p is true for exactly its
  -- members
  pub is_set : (w : ℕ) (p : ℕ → Bool) → w < 2 ^ k → ((j : ℕ) → j < k → member w j ≡ p j) → w ≡ set_of k p
  is_set w p h e = same-members k w (set_of k p) h (set_of-lt k p) (λ j l. e j l ∙ sym (member-set_of k p j l))

  -- and so is a number that is cut to k bits: the code works on m bits, which may be more
  pub cut-set : (w : ℕ) (p : ℕ → Bool) → ((j : ℕ) → j < k → member w j ≡ p j) → w % 2 ^ k ≡ set_of k p
  cut-set w p e =
      is_set (w % 2 ^ k) p (mod-lt w (pow_pos k)) (λ j l. member-bit (w % 2 ^ k) j _ (bit-mod w k j l) ∙ sym (member-bit w j _ refl) ∙ e j l)

  -- a word of k bits, shifted down, is one of k bits still
  pub cut-member : (w n : ℕ) → w < 2 ^ k → eqb (bit_and (w / 2 ^ n % 2 ^ k) 1) 1 ≡ member w n
  cut-member w n h = ap (λ (x : ℕ). eqb (bit_and x 1) 1) (mod-eq_of_lt (lt_of_le_of_lt (shr_le w n) h)) ∙ shifted-member w n

  pub or-union : (a b : ℕ) → bit_or a b % 2 ^ k ≡ union k a b
  or-union a b = cut-set (bit_or a b) _ (λ j l. member-or a b j)

  pub and-difference : (m a b : ℕ) → k ≤ m → b < 2 ^ m → bit_and a (2 ^ m - 1 - b) % 2 ^ k ≡ difference k a b
  and-difference m a b r h = cut-set (bit_and a (2 ^ m - 1 - b)) _ (λ j l. member-less m a b j h (omega arith))

  pub or-with : (m w n : ℕ) → n < m → bit_or w (1 * 2 ^ n % 2 ^ m) % 2 ^ k ≡ with k w n
  or-with m w n l =
      ap (λ (x : ℕ). bit_or w x % 2 ^ k) (mask m n l)
      ∙ cut-set (bit_or w (2 ^ n)) _ (λ j b. member-or w (2 ^ n) j ∙ ap (λ (x : Bool). member w j || x) (member-only n j))

  -- adding a number that is not below k changes nothing
  past : (n j : ℕ) → k ≤ n → j < k → eqb j n ≡ false
  past n j h l = ne_eqb j n (λ e. omega arith)

  pub with-past : (w n : ℕ) → w < 2 ^ k → k ≤ n → w ≡ with k w n
  with-past w n h l = is_set w _ h (λ j b. sym (ap (λ (x : Bool). member w j || x) (past n j l b) ∙ or-false (member w j)))
