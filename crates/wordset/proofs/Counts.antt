-- For how many of the numbers below k a test is true: the laws of `how_many`, and so of `count`.
-- Assumes nothing.
use Rattle.std.proofs.Common.{◌≡◌, ℕ, zero, suc, ◌+◌, ◌%◌, ◌<◌, ◌≤◌, Bool, true, false, ◌||◌, eqb, sym, refl, ap, ◌∙◌, ap₂, zero-le, add-zero, mod-eq_of_lt, arith, eq-eqb, ne_eqb, eqb-true}
use mathlib.Core.Bool.{or-false}
use native.Mathlib.Nat.{add-mod_right}
use borrow.Author.Tests.{eqb-false}
use Rattle.wordset.specs.Sets.{digit, how_many}

-- only the numbers below k matter
pub how_many-ext : (k : ℕ) (p q : ℕ → Bool) → ((j : ℕ) → j < k → p j ≡ q j) → how_many k p ≡ how_many k q
unfolding how_many
how_many-ext zero p q e = refl
how_many-ext (suc k) p q e =
    ap₂ ◌+◌ (ap digit (e 0 (omega arith))) (how_many-ext k (λ j. p (suc j)) (λ j. q (suc j)) (λ j h. e (suc j) (omega arith)))

pub how_many-none : (k : ℕ) (p : ℕ → Bool) → ((j : ℕ) → j < k → p j ≡ false) → how_many k p ≡ 0
unfolding how_many
how_many-none zero p e = refl
how_many-none (suc k) p e = ap₂ ◌+◌ (ap digit (e 0 (omega arith))) (how_many-none k (λ j. p (suc j)) (λ j h. e (suc j) (omega arith)))

-- the first m and the others
pub how_many-split : (m k : ℕ) (p : ℕ → Bool) → how_many (m + k) p ≡ how_many m p + how_many k (λ j. p (m + j))
unfolding how_many
how_many-split zero k p =
    let z : 0 + k ≡ k = omega arith in
    let e : (j : ℕ) → 0 + j ≡ j = λ j. omega arith in
    ap (λ (x : ℕ). how_many x p) z ∙ how_many-ext k p (λ j. p (0 + j)) (λ j h. ap p (sym (e j))) ∙ sym (plus (how_many k (λ j. p (0 + j))))
  where
    plus : (x : ℕ) → 0 + x ≡ x
    plus x = omega arith
how_many-split (suc m) k p =
    let z : suc m + k ≡ suc (m + k) = omega arith in
    let e : (j : ℕ) → suc (m + j) ≡ suc m + j = λ j. omega arith in
    ap (λ (x : ℕ). how_many x p) z
    ∙ ap (λ (x : ℕ). digit (p 0) + x) (how_many-split m k (λ j. p (suc j)) ∙ ap (λ (x : ℕ). how_many m (λ j. p (suc j)) + x) (how_many-ext k (λ j. p (suc (m + j))) (λ j. p (suc m + j)) (λ j h. ap p (e j))))
    ∙ assoc (digit (p 0)) (how_many m (λ j. p (suc j))) (how_many k (λ j. p (suc m + j)))
  where
    assoc : (a b c : ℕ) → a + (b + c) ≡ (a + b) + c
    assoc a b c = omega arith

-- the test is true for one more number
pub how_many-with : (k : ℕ) (p : ℕ → Bool) (n : ℕ) → n < k → p n ≡ false → how_many k (λ j. p j || eqb j n) ≡ how_many k p + 1
unfolding how_many
how_many-with zero p n h e = absurd (omega arith)
how_many-with (suc k) p zero h e =
    let rest : how_many k (λ j. p (suc j) || eqb (suc j) 0) ≡ how_many k (λ j. p (suc j)) =
    how_many-ext k _ _ (λ j l. ap (λ (b : Bool). p (suc j) || b) (ne_eqb (suc j) 0 (λ q. omega arith)) ∙ or-false (p (suc j))) in
    ap₂ ◌+◌ (ap (λ (b : Bool). digit (b || true)) e) rest ∙ plus (how_many k (λ j. p (suc j))) ∙ sym (ap (λ (b : Bool). digit b + how_many k (λ j. p (suc j)) + 1) e)
  where
    plus : (x : ℕ) → 1 + x ≡ 0 + x + 1
    plus x = omega arith
how_many-with (suc k) p (suc n) h e =
    let first : digit (p 0 || eqb 0 (suc n)) ≡ digit (p 0) = ap digit (ap (λ (b : Bool). p 0 || b) (ne_eqb 0 (suc n) (λ q. omega arith)) ∙ or-false (p 0)) in
    let same : how_many k (λ j. p (suc j) || eqb (suc j) (suc n)) ≡ how_many k (λ j. p (suc j) || eqb j n) =
    how_many-ext k _ _ (λ j l. ap (λ (b : Bool). p (suc j) || b) (shift j n)) in
    ap₂ ◌+◌ first (same ∙ how_many-with k (λ j. p (suc j)) n (omega arith) e) ∙ assoc (digit (p 0)) (how_many k (λ j. p (suc j)))
  where
    assoc : (a b : ℕ) → a + (b + 1) ≡ a + b + 1
    assoc a b = omega arith

    shift : (j n : ℕ) → eqb (suc j) (suc n) ≡ eqb j n
    shift j n = go (eqb j n) refl
      where
        go : (b : Bool) → eqb j n ≡ b → eqb (suc j) (suc n) ≡ b
        go true q = eq-eqb (suc j) (suc n) (ap suc (eqb-true j n q))
        go false q = ne_eqb (suc j) (suc n) (λ r. eqb-false j n q (omega arith))

-- a test that is true for no two neighbours is true for at most k of 2 k numbers
pub how_many-apart : (k : ℕ) (p : ℕ → Bool) → ((j : ℕ) → suc j < k + k → p j ≡ true → p (suc j) ≡ true → ⊥) → how_many (k + k) p ≤ k
unfolding how_many
how_many-apart zero p h = zero-le
how_many-apart (suc k) p h =
    let z : suc k + suc k ≡ suc (suc (k + k)) = omega arith in
    let r = how_many-apart k (λ j. p (suc (suc j))) (λ j l. h (suc (suc j)) (omega arith)) in
    go (p 0) (p 1) refl refl (ap (λ (x : ℕ). how_many x p) z) r
  where
    go : (a b : Bool) → p 0 ≡ a → p 1 ≡ b
        → how_many (suc k + suc k) p ≡ digit (p 0) + (digit (p 1) + how_many (k + k) (λ j. p (suc (suc j)))) → how_many (k + k) (λ j. p (suc (suc j))) ≤ k
        → how_many (suc k + suc k) p ≤ suc k
    go true true e f q r = absurd (h 0 (omega arith) e f)
    go true false e f q r = omega (arith, ap digit e, ap digit f)
    go false b e f q r = omega (arith, ap digit e, ap digit f, digit-le b)
      where
        digit-le : (b : Bool) → digit b ≤ 1
        digit-le true = omega arith
        digit-le false = omega arith

-- modulo k it does not matter with which number the count begins
module _ (k : ℕ) (pos : 0 < k) (p : ℕ → Bool) where
  -- one step on: the first number becomes the last
  turn_one : (n : ℕ) (q : ℕ → Bool) → digit (q 0) + how_many n (λ j. q (suc j)) ≡ how_many n q + digit (q n)
  unfolding how_many
  turn_one zero q = omega arith
  turn_one (suc n) q = ap (λ (x : ℕ). digit (q 0) + x) (turn_one n (λ j. q (suc j))) ∙ assoc (digit (q 0)) (how_many n (λ j. q (suc j))) (digit (q (suc n)))
    where
      assoc : (a b c : ℕ) → a + (b + c) ≡ a + b + c
      assoc a b c = omega arith

  pub how_many-turn : (b : ℕ) → how_many k (λ j. p ((b + j) % k)) ≡ how_many k p
  how_many-turn zero = how_many-ext k _ _ (λ j h. ap p (ap (λ (x : ℕ). x % k) (omega arith) ∙ mod-eq_of_lt h))
  how_many-turn (suc b) =
      let q : ℕ → Bool = λ j. p ((b + j) % k) in
      let e : digit (q 0) + how_many k (λ j. q (suc j)) ≡ how_many k q + digit (q k) = turn_one k q in
      let ends : digit (q k) ≡ digit (q 0) = ap (λ (x : ℕ). digit (p x)) (add-mod_right b k ∙ ap (λ (x : ℕ). x % k) (sym (add-zero b))) in
      let same : how_many k (λ j. p ((suc b + j) % k)) ≡ how_many k (λ j. q (suc j)) = how_many-ext k _ _ (λ j h. ap p (ap (λ (x : ℕ). x % k) (omega arith))) in
      same ∙ less (digit (q 0)) (how_many k (λ j. q (suc j))) (how_many k q) (digit (q k)) e ends ∙ how_many-turn b
    where
      less : (a x y c : ℕ) → a + x ≡ y + c → c ≡ a → x ≡ y
      less a x y c e f = omega arith
