-- A walk over the members of a set, the lowest first: the set without its lowest member, and the
-- members among the numbers that follow a start, for any width k.
-- Assumes nothing.
use Rattle.std.proofs.Common.{◌≡◌, ℕ, zero, suc, ◌+◌, ◌-◌, ◌*◌, ◌/◌, ◌%◌, ◌^◌, ◌<◌, ◌≤◌, min, Bool, true, false, cond, not, ◌&&◌, eqb, ltb, leb, sym, refl, ap, ◌∙◌, ap₂, zero-le, not-suc-le-zero, lt_of_le_of_lt, mod-eq_of_lt, arith, pow_pos, pow_mono, ltb-true, le-ltb, lt-ltb, eq-eqb, ne_eqb, le-leb, leb-true}
use mathlib.Core.Path.{fun_ext}
use mathlib.Core.Bool.{and-true, and-false, false≢true}
use native.Mathlib.Nat.{add-mod_right}
use native.Mathlib.Decide.{dec_lt}
use lib.Dec.{eqb-suc-zero, eqb-suc-suc}
use lib.Bits.{bit_and, and_step, and_zero_l, and_self, and_le_l, and_le_r}
use borrow.Author.Tests.{lt-leb}
use Rattle.wordset.specs.Sets.{member, digit, first, lowest, without_lowest, rotate, stretch}
use Rattle.wordset.proofs.Sets.{low_digit, member-half, member-none, set_of-lt, member-set_of, set_of-same, first-picked, first-least, lowest-below}
use Rattle.wordset.proofs.Words.{is_set, cut-set, mask}
use Rattle.wordset.proofs.Rings.{member-rotate}
use Rattle.wordset.proofs.Masks.{member-and, member-ones}

-- ---- a word and the number below it have the word's ones in common but for the lowest

-- the halves: of an odd word the same, of an even one again a word and the number below it
half-odd : (w : ℕ) → w % 2 ≡ 1 → bit_and w (w - 1) / 2 ≡ w / 2
half-odd w o =
    let e : (w - 1) / 2 ≡ w / 2 = omega arith in
    let z : (bit_and (w / 2) ((w - 1) / 2) * 2 + min (w % 2) ((w - 1) % 2)) / 2 ≡ bit_and (w / 2) ((w - 1) / 2) = omega arith in
    ap (λ (x : ℕ). x / 2) (and_step w (w - 1)) ∙ z ∙ ap (bit_and (w / 2)) e ∙ and_self (w / 2)

half-even : (w : ℕ) → 0 < w → w % 2 ≡ 0 → bit_and w (w - 1) / 2 ≡ bit_and (w / 2) (w / 2 - 1)
half-even w p o =
    let e : (w - 1) / 2 ≡ w / 2 - 1 = omega arith in
    let z : (bit_and (w / 2) ((w - 1) / 2) * 2 + min (w % 2) ((w - 1) % 2)) / 2 ≡ bit_and (w / 2) ((w - 1) / 2) = omega arith in
    ap (λ (x : ℕ). x / 2) (and_step w (w - 1)) ∙ z ∙ ap (bit_and (w / 2)) e

-- the lowest bit is no one
low-none : (w : ℕ) → member (bit_and w (w - 1)) 0 ≡ false
low-none w = go (member (bit_and w (w - 1)) 0) (low_digit (bit_and w (w - 1)))
  where
    go : (b : Bool) → bit_and w (w - 1) % 2 ≡ digit b → b ≡ false
    go true e = absurd (omega (arith, and_step w (w - 1)))
    go false e = refl

clear-low : (k w : ℕ) → 0 < w → (j : ℕ) → j < k → member (bit_and w (w - 1)) j ≡ (member w j && not (eqb j (first k (member w))))
unfolding first
clear-low zero w p j h = absurd (not-suc-le-zero h)
clear-low (suc k) w p zero h = low-none w ∙ sym (go (member w 0))
  where
    go : (b : Bool) → (b && not (eqb 0 (cond b 0 (suc (first k (λ i. member w (suc i))))))) ≡ false
    go true = refl
    go false = refl
clear-low (suc k) w p (suc j) h = sym (member-half (bit_and w (w - 1)) j) ∙ go (member w 0) (low_digit w) (λ q. clear-low k (w / 2) q j (omega arith))
  where
    rest : ℕ
    rest = first k (λ i. member w (suc i))

    go : (b : Bool) → w % 2 ≡ digit b
        → (0 < w / 2 → member (bit_and (w / 2) (w / 2 - 1)) j ≡ (member (w / 2) j && not (eqb j (first k (member (w / 2))))))
        → member (bit_and w (w - 1) / 2) j ≡ (member w (suc j) && not (eqb (suc j) (cond b 0 (suc rest))))
    go true o f =
        ap (λ (x : ℕ). member x j) (half-odd w o) ∙ member-half w j
        ∙ sym (ap (λ (b : Bool). member w (suc j) && not b) (eqb-suc-zero j) ∙ and-true (member w (suc j)))
    go false o f =
        ap (λ (x : ℕ). member x j) (half-even w p o) ∙ f (omega arith)
        ∙ ap₂ (λ (x y : Bool). x && not y) (member-half w j) (ap (λ (n : ℕ). eqb j n) (ap (first k) (fun_ext (member-half w))) ∙ sym (eqb-suc-suc j rest))

module _ (k : ℕ) where
  less-lt : (w : ℕ) → w < 2 ^ k → bit_and w (w - 1) < 2 ^ k
  less-lt w h = lt_of_le_of_lt (and_le_l w (w - 1)) h

  pub pred-without : (w : ℕ) → 0 < w → w < 2 ^ k → bit_and w (w - 1) ≡ without_lowest k w
  pred-without w p h = is_set k (bit_and w (w - 1)) _ (less-lt w h) (clear-low k w p)

  -- the empty set stays empty
  pub none-without : without_lowest k 0 ≡ 0
  none-without = sym (is_set k 0 _ (pow_pos k) (λ j l. member-none j ∙ sym (ap (λ (b : Bool). b && not (eqb j (first k (member 0)))) (member-none j))))

  -- the code subtracts 1 in m bits, where 0 wraps round
  pub less-one : (m w : ℕ) → k ≤ m → w < 2 ^ k → bit_and w ((w + (2 ^ m - 1)) % 2 ^ m) % 2 ^ k ≡ without_lowest k w
  less-one m zero r h = ap (λ (x : ℕ). x % 2 ^ k) (and_zero_l ((0 + (2 ^ m - 1)) % 2 ^ m)) ∙ mod-eq_of_lt (pow_pos k) ∙ sym none-without
  less-one m (suc w) r h =
      let p : 2 ^ k ≤ 2 ^ m = pow_mono r in
      let e : suc w + (2 ^ m - 1) ≡ w + 2 ^ m = omega (arith, pow_pos m) in
      let z : (suc w + (2 ^ m - 1)) % 2 ^ m ≡ suc w - 1 = ap (λ (x : ℕ). x % 2 ^ m) e ∙ add-mod_right w (2 ^ m) ∙ mod-eq_of_lt (omega arith) ∙ omega arith in
      ap (λ (x : ℕ). bit_and (suc w) x % 2 ^ k) z ∙ mod-eq_of_lt (less-lt (suc w) h) ∙ pred-without (suc w) (omega arith) h

  -- a walk ends
  pub without-lt : (w : ℕ) → 0 < w → w < 2 ^ k → without_lowest k w < w
  without-lt w p h = omega (arith, pred-without w p h, and_le_r w (w - 1))

  -- ---- the members among the n numbers starting at s

  -- of no numbers
  pub stretch-none : (w s n : ℕ) → n ≡ 0 → 0 % 2 ^ k ≡ stretch k w s n
  stretch-none w s n z =
      cut-set k 0 _ (λ j l.
      member-none j ∙ sym (ap (λ (b : Bool). member w ((s + j) % k) && b) (le-ltb j n (omega arith)) ∙ and-false (member w ((s + j) % k))))

  -- of fewer than k, by a mask
  pub stretch-mask : (m w s n : ℕ) → n < m → bit_and (rotate k w s) (1 * 2 ^ n % 2 ^ m - 1) % 2 ^ k ≡ stretch k w s n
  stretch-mask m w s n h =
      ap (λ (x : ℕ). bit_and (rotate k w s) (x - 1) % 2 ^ k) (mask m n h)
      ∙ cut-set k (bit_and (rotate k w s) (2 ^ n - 1)) _ (λ j l.
      member-and (rotate k w s) (2 ^ n - 1) j ∙ ap₂ ◌&&◌ (member-rotate k w s j l) (member-ones n j))

  -- of all
  pub stretch-all : (w s n : ℕ) → k ≤ n → rotate k w s ≡ stretch k w s n
  stretch-all w s n h =
      set_of-same k _ _ (λ j l. sym (ap (λ (b : Bool). member w ((s + j) % k) && b) (lt-ltb j n (omega arith)) ∙ and-true (member w ((s + j) % k))))

  -- ---- the walk over a stretch: the distances up to `at` are passed, and `left` has those members
  -- of the stretch that are not

  pub record Walked (w s n left at : ℕ) : Type 0 where
    pub most : at ≤ n
    pub small : left < 2 ^ k
    pub rest : (j : ℕ) → j < k → member left j ≡ ((member w ((s + j) % k) && ltb j n) && leb at j)

  -- a turn of the walk: z is the lowest member left
  pub record Turned (w s n left at z : ℕ) : Type 0 where
    pub low : at ≤ z
    pub in-stretch : z < n
    pub found : member w ((s + z) % k) ≡ true
    pub none_before : (j : ℕ) → at ≤ j → j < z → member w ((s + j) % k) ≡ false
    pub walked : Walked w s n (without_lowest k left) (z + 1)

  pub walk-starts : (w s n : ℕ) → Walked w s n (stretch k w s n) 0
  walk-starts w s n = record {
    most = zero-le;
    small = set_of-lt k _;
    rest = λ j l. member-set_of k _ j l ∙ sym (ap (λ (b : Bool). (member w ((s + j) % k) && ltb j n) && b) (le-leb 0 j zero-le) ∙ and-true _);
  }

  -- what a member that is left says, and a number that is not left
  left-says : (a b c : Bool) → ((a && b) && c) ≡ true → (a ≡ true) × ((b ≡ true) × (c ≡ true))
  left-says true true c e = (refl, (refl, e))
  left-says true false c e = absurd (false≢true e)
  left-says false b c e = absurd (false≢true e)

  gone-says : (a b c : Bool) → ((a && b) && c) ≡ false → b ≡ true → c ≡ true → a ≡ false
  gone-says true b c e p q = sym (ap₂ ◌&&◌ p q) ∙ e
  gone-says false b c e p q = refl

  walk_none : (w s n left at : ℕ) → Walked w s n left at → (j : ℕ) → j < k → j < n → at ≤ j → member left j ≡ false → member w ((s + j) % k) ≡ false
  walk_none w s n left at v j b l h e = gone-says _ _ _ (sym (v.rest j b) ∙ e) (lt-ltb j n l) (le-leb at j h)

  pub walk-next : (w s n left at : ℕ) → Walked w s n left at → 0 < left → Turned w s n left at (lowest k left)
  walk-next w s n left at v p =
      let z : ℕ = lowest k left in
      let b : lowest k left < k = lowest-below k left p v.small in
      let t = left-says _ _ _ (sym (v.rest z b) ∙ first-picked k (member left) b) in
      let l : lowest k left < n = ltb-true z n t.1.0 in
      let h : at ≤ lowest k left = leb-true at z t.1.1 in
      record {
        low = h;
        in-stretch = l;
        found = t.0;
        none_before = λ j g c. walk_none w s n left at v j (omega arith) (omega arith) g (first-least k (member left) j c);
        walked = record {
          most = omega arith;
          small = set_of-lt k _;
          rest = λ j c. member-set_of k _ j c ∙ less j c z refl l h;
        };
      }
    where
      -- without the lowest member the others are past it
      less : (j : ℕ) → j < k → (z : ℕ) → z ≡ lowest k left → z < n → at ≤ z
          → (member left j && not (eqb j z)) ≡ ((member w ((s + j) % k) && ltb j n) && leb (z + 1) j)
      less j c z q l h = elim (dec_lt j z) [
        | yes y ↦
            ap (λ (a : Bool). a && not (eqb j z)) (first-least k (member left) j (omega arith))
            ∙ sym (ap (λ (a : Bool). (member w ((s + j) % k) && ltb j n) && a) (lt-leb (z + 1) j (omega arith)) ∙ and-false (member w ((s + j) % k) && ltb j n))
        | no y ↦ elim (dec_lt z j) [
          | yes x ↦
              ap (λ (a : Bool). member left j && not a) (ne_eqb j z (λ e. omega arith)) ∙ and-true (member left j) ∙ v.rest j c
              ∙ ap (λ (a : Bool). (member w ((s + j) % k) && ltb j n) && a) (le-leb at j (omega arith) ∙ sym (le-leb (z + 1) j (omega arith)))
          | no x ↦
              ap (λ (a : Bool). member left j && not a) (eq-eqb j z (omega arith)) ∙ and-false (member left j)
              ∙ sym (ap (λ (a : Bool). (member w ((s + j) % k) && ltb j n) && a) (lt-leb (z + 1) j (omega arith)) ∙ and-false (member w ((s + j) % k) && ltb j n))
        ]
      ]

  -- nothing is left: none of the numbers that are not passed yet is a member
  pub walk_ends : (w s n left at : ℕ) → n ≤ k → Walked w s n left at → left ≡ 0 → (j : ℕ) → at ≤ j → j < n → member w ((s + j) % k) ≡ false
  walk_ends w s n left at m v z j h l = walk_none w s n left at v j (omega arith) l h (ap (λ (x : ℕ). member x j) z ∙ member-none j)
