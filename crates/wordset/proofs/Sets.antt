-- The laws of sets in words, for any width k.
-- Assumes nothing.
use Rattle.std.proofs.Common.{◌≡◌, ℕ, zero, suc, ◌+◌, ◌*◌, ◌/◌, ◌%◌, ◌^◌, ◌<◌, ◌≤◌, Bool, true, false, cond, not, ◌&&◌, ◌||◌, eqb, ltb, sym, refl, ap, ◌∙◌, ap₂, true≢false, suc-le-suc, zero-le, not-suc-le-zero, pow-suc, arith, lit<, pow_pos}
use mathlib.Core.Path.{fun_ext}
use native.Mathlib.Decide.{dec_lt}
use lib.Count.{ones, ones_step, count_trailing_zeros, trailing_of_zero, under}
use Rattle.wordset.specs.Sets.{bit, member, digit, set_of, how_many, first, lowest, every}
use Rattle.wordset.specs.Laws.{SetLaws}
use Rattle.wordset.proofs.Digits.{bit-lt, bit-zero, bit-half, bit_past, half_lt, same_bits}

-- ---- digits and members

-- a digit is 1 or 0, by whether it equals 1
digit-of : (d : ℕ) → d < 2 → d ≡ digit (eqb d 1)
digit-of zero h = refl
digit-of (suc zero) h = refl
digit-of (suc (suc d)) h = absurd (omega arith)

pub bit-member : (w j : ℕ) → bit w j ≡ digit (member w j)
unfolding member
bit-member w j = digit-of (bit w j) (bit-lt w j)

pub member-bit : (w j d : ℕ) → bit w j ≡ d → member w j ≡ eqb d 1
unfolding member
member-bit w j d e = ap (λ (x : ℕ). eqb x 1) e

digit_lt : (b : Bool) → digit b < 2
digit_lt true = lit< tt
digit_lt false = lit< tt

is_digit_lem : (b : Bool) → eqb (digit b) 1 ≡ b
is_digit_lem true = refl
is_digit_lem false = refl

pub member-half : (w j : ℕ) → member (w / 2) j ≡ member w (suc j)
unfolding member
member-half w j = ap (λ (d : ℕ). eqb d 1) (bit-half w j)

pub member-none : (j : ℕ) → member 0 j ≡ false
member-none j = member-bit 0 j 0 (bit_past 0 0 j (lit< tt) zero-le)

-- ---- the set of the numbers for which p is true

pub set_of-lt : (k : ℕ) (p : ℕ → Bool) → set_of k p < 2 ^ k
unfolding set_of
set_of-lt zero p = lit< tt
set_of-lt (suc k) p = omega (arith, pow-suc 2 k, digit_lt (p 0), set_of-lt k (λ j. p (suc j)))

pub member-set_of : (k : ℕ) (p : ℕ → Bool) (j : ℕ) → j < k → member (set_of k p) j ≡ p j
unfolding set_of
member-set_of zero p j h = absurd (not-suc-le-zero h)
member-set_of (suc k) p zero h =
    member-bit (digit (p 0) + 2 * rest) 0 (digit (p 0)) (bit-zero (digit (p 0) + 2 * rest) ∙ odd (digit (p 0)) rest (digit_lt (p 0))) ∙ is_digit_lem (p 0)
  where
    rest : ℕ
    rest = set_of k (λ j. p (suc j))

    odd : (d r : ℕ) → d < 2 → (d + 2 * r) % 2 ≡ d
    odd d r h = omega arith
member-set_of (suc k) p (suc j) h =
    sym (member-half (digit (p 0) + 2 * set_of k (λ j. p (suc j))) j)
    ∙ ap (λ (w : ℕ). member w j) (half (digit (p 0)) (set_of k (λ j. p (suc j))) (digit_lt (p 0)))
    ∙ member-set_of k (λ j. p (suc j)) j (omega arith)
  where
    half : (d r : ℕ) → d < 2 → (d + 2 * r) / 2 ≡ r
    half d r h = omega arith

-- only the numbers below k matter
pub set_of-same : (k : ℕ) (p q : ℕ → Bool) → ((j : ℕ) → j < k → p j ≡ q j) → set_of k p ≡ set_of k q
unfolding set_of
set_of-same zero p q e = refl
set_of-same (suc k) p q e =
    ap₂ (λ (b : Bool) (n : ℕ). digit b + 2 * n) (e 0 (omega arith)) (set_of-same k (λ j. p (suc j)) (λ j. q (suc j)) (λ j l. e (suc j) (omega arith)))

pub same-members : (k a b : ℕ) → a < 2 ^ k → b < 2 ^ k → ((j : ℕ) → j < k → member a j ≡ member b j) → a ≡ b
same-members k a b ha hb e = same_bits k a b ha hb (λ j l. bit-member a j ∙ ap digit (e j l) ∙ sym (bit-member b j))

pub member-past : (k w j : ℕ) → w < 2 ^ k → k ≤ j → member w j ≡ false
member-past k w j h l = member-bit w j 0 (bit_past w k j h l)

-- w bits are enough for the word w
below_power : (w : ℕ) → w < 2 ^ w
below_power zero = lit< tt
below_power (suc w) = omega (arith, pow-suc 2 w, below_power w)

-- a set without a member, however wide, is the empty one
pub no_member : (w : ℕ) → ((j : ℕ) → member w j ≡ false) → w ≡ 0
no_member w f = same-members w w 0 (below_power w) (pow_pos w) (λ j h. f j ∙ sym (member-none j))

-- ---- the lowest number for which p is true

pub first-le : (k : ℕ) (p : ℕ → Bool) → first k p ≤ k
unfolding first
first-le zero p = zero-le
first-le (suc k) p = go (p 0) (first-le k (λ j. p (suc j)))
  where
    go : (b : Bool) → first k (λ j. p (suc j)) ≤ k → cond b 0 (suc (first k (λ j. p (suc j)))) ≤ suc k
    go true h = zero-le
    go false h = suc-le-suc h

pub first-picked : (k : ℕ) (p : ℕ → Bool) → first k p < k → p (first k p) ≡ true
unfolding first
first-picked zero p h = absurd (not-suc-le-zero h)
first-picked (suc k) p h = go (p 0) refl (first-picked k (λ j. p (suc j))) h
  where
    rest : ℕ
    rest = first k (λ j. p (suc j))

    go : (b : Bool) → p 0 ≡ b → (rest < k → p (suc rest) ≡ true) → cond b 0 (suc rest) < suc k → p (cond b 0 (suc rest)) ≡ true
    go true e r h = e
    go false e r h = r (omega arith)

pub first-least : (k : ℕ) (p : ℕ → Bool) (j : ℕ) → j < first k p → p j ≡ false
unfolding first
first-least zero p j h = absurd (not-suc-le-zero h)
first-least (suc k) p j h = go (p 0) refl j (first-least k (λ i. p (suc i))) h
  where
    rest : ℕ
    rest = first k (λ i. p (suc i))

    go : (b : Bool) → p 0 ≡ b → (j : ℕ) → ((i : ℕ) → i < rest → p (suc i) ≡ false) → j < cond b 0 (suc rest) → p j ≡ false
    go true e j r h = absurd (not-suc-le-zero h)
    go false e zero r h = e
    go false e (suc i) r h = r i (omega arith)

-- it is at most any number for which p is true
pub first-most : (k : ℕ) (p : ℕ → Bool) (j : ℕ) → p j ≡ true → first k p ≤ j
first-most k p j e = go (dec_lt j (first k p))
  where
    go : Dec (j < first k p) → first k p ≤ j
    go (yes h) = absurd (true≢false (sym e ∙ first-least k p j h))
    go (no h) = omega arith

-- no other number is it
pub first-only : (k : ℕ) (p : ℕ → Bool) (n : ℕ) → n ≤ k → ((j : ℕ) → j < n → p j ≡ false) → (n < k → p n ≡ true) → n ≡ first k p
unfolding first
first-only zero p n h f t = omega arith
first-only (suc k) p zero h f t = sym (ap (λ (b : Bool). cond b 0 (suc (first k (λ j. p (suc j))))) (t (omega arith)))
first-only (suc k) p (suc n) h f t =
    ap suc (first-only k (λ j. p (suc j)) n (omega arith) (λ j l. f (suc j) (omega arith)) (λ l. t (omega arith)))
    ∙ sym (ap (λ (b : Bool). cond b 0 (suc (first k (λ j. p (suc j))))) (f 0 (omega arith)))

-- only the numbers below k matter
pub first-same : (k : ℕ) (p q : ℕ → Bool) → ((j : ℕ) → j < k → p j ≡ q j) → first k p ≡ first k q
unfolding first
first-same zero p q e = refl
first-same (suc k) p q e =
    ap₂ (λ (b : Bool) (n : ℕ). cond b 0 (suc n)) (e 0 (omega arith)) (first-same k (λ j. p (suc j)) (λ j. q (suc j)) (λ j l. e (suc j) (omega arith)))

-- ---- the machine's counts

-- the lowest bit
pub low_digit : (w : ℕ) → w % 2 ≡ digit (member w 0)
low_digit w = sym (bit-zero w) ∙ bit-member w 0

count_ones : (k w : ℕ) → w < 2 ^ k → ones w ≡ how_many k (member w)
unfolding how_many
count_ones zero w h = ap ones (omega arith) ∙ none
  where
    none : ones 0 ≡ 0
    none = unfold ones in refl
count_ones (suc k) w h =
    ones_step w ∙ ap₂ ◌+◌ (low_digit w) (count_ones k (w / 2) (half_lt k w h) ∙ ap (how_many k) (fun_ext (member-half w)))

pub lowest-zeros : (k w : ℕ) → count_trailing_zeros k w ≡ first k (member w)
unfolding first count_trailing_zeros
lowest-zeros zero w = refl
lowest-zeros (suc k) w =
    ap₂ under (low_digit w) (lowest-zeros k (w / 2) ∙ ap (first k) (fun_ext (member-half w))) ∙ go (member w 0)
  where
    go : (b : Bool) → under (digit b) (first k (λ j. member w (suc j))) ≡ cond b 0 (suc (first k (λ j. member w (suc j))))
    go true = refl
    go false = refl

-- a word of k bits that is not 0 has a member below k
pub lowest-below : (k w : ℕ) → 0 < w → w < 2 ^ k → first k (member w) < k
lowest-below k w p h = go (dec_lt (first k (member w)) k)
  where
    go : Dec (first k (member w) < k) → first k (member w) < k
    go (yes l) = l
    go (no l) =
        let e : w ≡ 0 =
        same-members k w 0 h (pow_pos k) (λ j b. first-least k (member w) j (omega (arith, first-le k (member w))) ∙ sym (member-none j)) in
        absurd (omega arith)

-- and the zeros below it may be counted in m bits, where m is more than k
pub zeros-lowest : (k m w : ℕ) → k ≤ m → 0 < w → w < 2 ^ k → count_trailing_zeros m w ≡ lowest k w
zeros-lowest k m w r p h =
    let l = lowest-below k w p h in
    lowest-zeros m w ∙ sym (first-only m (member w) (lowest k w) (omega arith) (first-least k (member w)) (λ _. first-picked k (member w) l))

-- the lowest number of no set
pub lowest-none : (k w : ℕ) → w ≡ 0 → k ≡ lowest k w
lowest-none k w e = sym (ap (lowest k) e ∙ sym (lowest-zeros k 0) ∙ trailing_of_zero k)

pub set-laws : (k : ℕ) → SetLaws k
set-laws k = record {
  member-with = λ w n. member-set_of k (λ j. member w j || eqb j n);
  member_union = λ a b. member-set_of k (λ j. member a j || member b j);
  member-difference = λ a b. member-set_of k (λ j. member a j && not (member b j));
  member-without = λ w. member-set_of k (λ j. member w j && not (eqb j (lowest k w)));
  member-rotate = λ w s. member-set_of k (λ j. member w ((s + j) % k));
  member-stretch = λ w s n. member-set_of k (λ j. member w ((s + j) % k) && ltb j n);
  fits = set_of-lt k;
  member-past = member-past k;
  same = same-members k;
  count_ones = count_ones k;
  lowest-none = sym (lowest-none k 0 refl);
  lowest-is = λ w h. record { in-set = first-picked k (member w) h; least = first-least k (member w) };
  lowest-below = lowest-below k;
}

-- ---- a test of every number below k

pub every-at : (k : ℕ) (p : ℕ → Bool) → every k p ≡ true → (j : ℕ) → j < k → p j ≡ true
unfolding every
every-at zero p e j h = absurd (not-suc-le-zero h)
every-at (suc k) p e j h = go (p k) refl e (dec_lt j k) (every-at k p)
  where
    go : (b : Bool) → p k ≡ b → (b && every k p) ≡ true → Dec (j < k) → (every k p ≡ true → (i : ℕ) → i < k → p i ≡ true) → p j ≡ true
    go true q e (yes l) r = r e j l
    go true q e (no l) r = ap p (omega arith) ∙ q
    go false q e d r = let z : ◌≡◌ {A = ℕ} 0 1 = cc in absurd (omega arith)

pub every-all : (k : ℕ) (p : ℕ → Bool) → ((j : ℕ) → j < k → p j ≡ true) → every k p ≡ true
unfolding every
every-all zero p e = refl
every-all (suc k) p e = ap (λ (b : Bool). b && every k p) (e k (omega arith)) ∙ every-all k p (λ j l. e j (omega arith))
