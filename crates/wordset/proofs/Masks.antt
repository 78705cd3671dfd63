-- What tests of whole words say about their members, for any width k.
-- Assumes nothing.
use Rattle.std.proofs.Common.{◌≡◌, ℕ, zero, suc, ◌+◌, ◌-◌, ◌*◌, ◌/◌, ◌%◌, ◌^◌, ◌<◌, ◌≤◌, min, Bool, true, false, not, ◌&&◌, eqb, ltb, sym, refl, ap, ◌∙◌, ap₂, zero-le, lt_of_le_of_lt, mod-lt, div-lt_iff_lt-mul, pow-suc, div-add-mod', arith, pow_pos, le-ltb, lt-ltb, eqb-true}
use mathlib.Core.Bool.{false≢true, and-false}
use native.Mathlib.Decide.{dec_lt}
use lib.Bits.{bit_and, and_le_l}
use lib.Pow.{shr_le, mod-pow-add}
use Rattle.wordset.specs.Sets.{bit, member, digit, difference}
use Rattle.wordset.proofs.Digits.{bit-and, bit-shr, bit-shl-low, bit-shl-high, bit-mod, half_lt}
use Rattle.wordset.proofs.Sets.{bit-member, member-bit, low_digit, member-half, member-none, member-past, set_of-lt, member-set_of, same-members}
use Rattle.wordset.proofs.Rings.{same_bit, member-not}

-- ---- and

and-digit : (x y : Bool) → eqb (min (digit x) (digit y)) 1 ≡ (x && y)
and-digit true true = refl
and-digit true false = refl
and-digit false true = refl
and-digit false false = refl

pub member-and : (a b j : ℕ) → member (bit_and a b) j ≡ (member a j && member b j)
member-and a b j =
    member-bit (bit_and a b) j _ (bit-and a b j ∙ ap₂ min (bit-member a j) (bit-member b j)) ∙ and-digit (member a j) (member b j)

-- ---- the m lowest numbers

pub member-ones : (m j : ℕ) → member (2 ^ m - 1) j ≡ ltb j m
member-ones m j = elim (dec_lt j m) [
  | yes h ↦
      let e : 2 ^ m - 1 ≡ 2 ^ m - 1 - 0 = omega arith in
      ap (λ (w : ℕ). member w j) e ∙ member-not m 0 j (pow_pos m) h ∙ ap not (member-none j) ∙ sym (lt-ltb j m h)
  | no h ↦ member-past m (2 ^ m - 1) j (omega (arith, pow_pos m)) (omega arith) ∙ sym (le-ltb j m (omega arith))
]

-- ---- subsets

both_zero : (x y : Bool) → (x && not y) ≡ false → x ≡ true → y ≡ true
both_zero true true e p = refl
both_zero true false e p = sym e
both_zero false y e p = absurd (false≢true p)

zero-both : (x y : Bool) → (x ≡ true → y ≡ true) → (x && not y) ≡ false
zero-both true y f = ap not (f refl)
zero-both false y f = refl

digit-le : (x y : Bool) → (x ≡ true → y ≡ true) → digit x ≤ digit y
digit-le true true f = omega arith
digit-le true false f = absurd (false≢true (f refl))
digit-le false y f = zero-le

-- a subset is at most the set as a number
pub within-le : (k a b : ℕ) → a < 2 ^ k → ((j : ℕ) → j < k → member a j ≡ true → member b j ≡ true) → a ≤ b
within-le zero a b h f = omega arith
within-le (suc k) a b h f =
    let half : a / 2 ≤ b / 2 =
    within-le k (a / 2) (b / 2) (half_lt k a h) (λ j l t. member-half b j ∙ f (suc j) (omega arith) (sym (member-half a j) ∙ t)) in
    omega (arith, low_digit a, low_digit b, digit-le (member a 0) (member b 0) (f 0 (omega arith)))

module _ (k : ℕ) where
  -- a word without members is 0
  pub empty : (w : ℕ) → w < 2 ^ k → ((j : ℕ) → j < k → member w j ≡ false) → w ≡ 0
  empty w h e = same-members k w 0 h (pow_pos k) (λ j l. e j l ∙ sym (member-none j))

  pub within : (a b : ℕ) → difference k a b ≡ 0 → (j : ℕ) → j < k → member a j ≡ true → member b j ≡ true
  within a b z j l =
      both_zero (member a j) (member b j)
      (sym (member-set_of k (λ i. member a i && not (member b i)) j l) ∙ ap (λ (w : ℕ). member w j) z ∙ member-none j)

  pub within_none : (a b : ℕ) → ((j : ℕ) → j < k → member a j ≡ true → member b j ≡ true) → difference k a b ≡ 0
  within_none a b f =
      empty (difference k a b) (set_of-lt k _) (λ j l.
      member-set_of k (λ i. member a i && not (member b i)) j l ∙ zero-both (member a j) (member b j) (f j l))

  -- ---- no two neighbours are members: the word and the word shifted up by one have no bit in
  -- common

  up : (w j : ℕ) → suc j < k → member (w * 2 % 2 ^ k) (suc j) ≡ member w j
  up w j l = same_bit (w * 2 % 2 ^ k) w (suc j) j (bit-mod (w * 2) k (suc j) l ∙ ap (bit (w * 2)) (omega arith) ∙ bit-shl-high w 1 j)

  up-zero : (w : ℕ) → 0 < k → member (w * 2 % 2 ^ k) 0 ≡ false
  up-zero w l = member-bit (w * 2 % 2 ^ k) 0 0 (bit-mod (w * 2) k 0 l ∙ bit-shl-low w 1 0 (omega arith))

  pub apart : (w : ℕ) → bit_and w (w * 2 % 2 ^ k) ≡ 0 → (j : ℕ) → suc j < k → member w j ≡ true → member w (suc j) ≡ false
  apart w z j l t =
      go (member w (suc j)) (member w j)
      (ap (λ (b : Bool). member w (suc j) && b) (sym (up w j l)) ∙ sym (member-and w (w * 2 % 2 ^ k) (suc j)) ∙ ap (λ (x : ℕ). member x (suc j)) z ∙ member-none (suc j)) t
    where
      go : (x y : Bool) → (x && y) ≡ false → y ≡ true → x ≡ false
      go true y e t = sym t ∙ e
      go false y e t = refl

  pub apart_none : (w : ℕ) → w < 2 ^ k → ((j : ℕ) → suc j < k → member w j ≡ true → member w (suc j) ≡ false) → bit_and w (w * 2 % 2 ^ k) ≡ 0
  apart_none w h f = empty (bit_and w (w * 2 % 2 ^ k)) (lt_of_le_of_lt (and_le_l w (w * 2 % 2 ^ k)) h) none
    where
      go : (x y : Bool) → (y ≡ true → x ≡ false) → (x && y) ≡ false
      go true true f = f refl
      go true false f = refl
      go false y f = refl

      none : (j : ℕ) → j < k → member (bit_and w (w * 2 % 2 ^ k)) j ≡ false
      none zero l = member-and w (w * 2 % 2 ^ k) 0 ∙ ap (λ (b : Bool). member w 0 && b) (up-zero w l) ∙ and-false (member w 0)
      none (suc j) l =
          member-and w (w * 2 % 2 ^ k) (suc j) ∙ ap (λ (b : Bool). member w (suc j) && b) (up w j l) ∙ go (member w (suc j)) (member w j) (f j l)

  -- ---- a word without members from n on is below 2 ^ n (`member-past` is the converse)

  pub below : (w n : ℕ) → w < 2 ^ k → ((j : ℕ) → j < k → n ≤ j → member w j ≡ false) → w < 2 ^ n
  below w n h f =
      let z : w / 2 ^ n ≡ 0 = empty (w / 2 ^ n) (lt_of_le_of_lt (shr_le w n) h) (λ j l. same_bit (w / 2 ^ n) w j (n + j) (bit-shr w n j) ∙ high j) in
      omega (arith, div-add-mod' w (2 ^ n), ap (λ (x : ℕ). x * 2 ^ n) z, mod-lt w (pow_pos n))
    where
      high : (j : ℕ) → member w (n + j) ≡ false
      high j = elim (dec_lt (n + j) k) [
        | yes l ↦ f (n + j) l (omega arith)
        | no l ↦ member-past k w (n + j) h (omega arith)
      ]

-- ---- the highest member

pub top-member : (w e : ℕ) → w / 2 ^ e ≡ 1 → member w e ≡ true
unfolding member bit
top-member w e t = ap (λ (x : ℕ). eqb (x % 2) 1) t

pub top_lt : (w e : ℕ) → w / 2 ^ e ≡ 1 → w < 2 ^ suc e
top_lt w e t = omega (arith, div-add-mod' w (2 ^ e), ap (λ (x : ℕ). x * 2 ^ e) t, mod-lt w (pow_pos e), pow-suc 2 e)

pub top : (w e : ℕ) → member w e ≡ true → w < 2 ^ suc e → w / 2 ^ e ≡ 1
unfolding member bit
top w e m h =
    let odd : w / 2 ^ e % 2 ≡ 1 = eqb-true (w / 2 ^ e % 2) 1 m in
    let small : w / 2 ^ e < 2 = (div-lt_iff_lt-mul (pow_pos e)).1 (omega (arith, pow-suc 2 e)) in
    omega arith

-- ---- the bits below d + 1: bit d and the bits below it

pub cut : (w d : ℕ) → w % 2 ^ suc d ≡ digit (member w d) * 2 ^ d + w % 2 ^ d
cut w d = let e : suc d ≡ 1 + d = omega arith in ap (λ (n : ℕ). w % 2 ^ n) e ∙ mod-pow-add w 1 d ∙ ap (λ (b : ℕ). b * 2 ^ d + w % 2 ^ d) (unfold bit in bit-member w d)
