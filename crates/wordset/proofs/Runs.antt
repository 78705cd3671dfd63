-- The claims of specs/Runs.antt, for any width k.
-- Assumes nothing.
use Rattle.std.proofs.Common.{◌≡◌, ℕ, ◌+◌, ◌-◌, ◌%◌, ◌^◌, ◌<◌, ◌≤◌, Bool, true, false, cond, not, ltb, sym, refl, ap, ◌∙◌, subst, true≢false, zero-le, le_refl, not-suc-le-zero, add-zero, mod-lt, mod-eq_of_lt, arith, le-ltb, lt-ltb}
use native.Mathlib.Nat.{mod-add-mod, add-mod_right}
use native.Mathlib.Decide.{dec_lt}
use lib.Count.{count_trailing_zeros}
use borrow.Author.Tests.{not-true, not-false}
use Rattle.wordset.specs.Sets.{member, first, lowest, rotate, run, ahead, first_from}
use Rattle.wordset.specs.Laws.{IsLowest}
use Rattle.wordset.specs.Runs.{IsRun, RunLaw, LowestLaw, IsFirst, FirstLaw, TrailingCounts}
use Rattle.wordset.proofs.Sets.{member-none, member-past, first-le, first-picked, first-least, first-most, first-only, first-same, lowest-zeros, lowest-below}
use Rattle.wordset.proofs.Rings.{member-rotate, zeros-run, zeros-ahead}
use Rattle.wordset.proofs.Masks.{member-ones}

module _ (k : ℕ) where
  -- ---- the run of ones

  run_is : (w s : ℕ) → IsRun k w s (run k w s)
  run_is w s =
      let gap : ℕ → Bool = λ j. not (member w ((s + j) % k)) in
      record {
        at_most = first-le k gap;
        ones = λ j h. not-false (member w ((s + j) % k)) (first-least k gap j h);
        ends = λ h. not-true (member w ((s + run k w s) % k)) (first-picked k gap h);
      }

  run_only : (w s r : ℕ) → IsRun k w s r → r ≡ run k w s
  run_only w s r i = first-only k (λ j. not (member w ((s + j) % k))) r i.at_most (λ j h. ap not (i.ones j h)) (λ h. ap not (i.ends h))

  run-full : (s : ℕ) → run k (2 ^ k - 1) s ≡ k
  run-full s = sym (run_only (2 ^ k - 1) s k (record { at_most = le_refl k; ones = one; ends = λ h. absurd (omega arith) }))
    where
      one : (j : ℕ) → j < k → member (2 ^ k - 1) ((s + j) % k) ≡ true
      one j h = member-ones k ((s + j) % k) ∙ lt-ltb _ _ (mod-lt (s + j) (omega arith))

  run_none : (w s : ℕ) → member w (s % k) ≡ false → run k w s ≡ 0
  run_none w s e =
      sym (run_only w s 0 (record {
        at_most = zero-le;
        ones = λ j h. absurd (not-suc-le-zero h);
        ends = λ h. ap (λ (n : ℕ). member w (n % k)) (add-zero s) ∙ e;
      }))

  pub run-law : RunLaw k
  run-law = record {
    counted = λ w s. subst (IsRun k w s) (sym (zeros-run k k w s (le_refl k))) (run_is w s);
    only = λ w s r i. run_only w s r i ∙ sym (zeros-run k k w s (le_refl k));
    is-run = λ w s. zeros-run k k w s (le_refl k);
    full = run-full;
    none = run_none;
  }

  -- ---- the lowest one

  is-lowest : (w : ℕ) → 0 < w → w < 2 ^ k → IsLowest w (lowest k w)
  is-lowest w p h = record { in-set = first-picked k (member w) (lowest-below k w p h); least = first-least k (member w) }

  -- a place of a one is a place of the word
  inside : (w n : ℕ) → w < 2 ^ k → member w n ≡ true → n < k
  inside w n h e = elim (dec_lt n k) [
    | yes l ↦ l
    | no l ↦ absurd (true≢false (sym e ∙ member-past k w n h (omega arith)))
  ]

  pub lowest-law : LowestLaw k
  lowest-law = record {
    counted = λ w p h. subst (IsLowest w) (sym (lowest-zeros k w)) (is-lowest w p h);
    below = λ w p h. subst (λ (n : ℕ). n < k) (sym (lowest-zeros k w)) (lowest-below k w p h);
    only = λ w n h i.
        let l = inside w n h i.in-set in
        first-only k (member w) n (omega arith) i.least (λ _. i.in-set) ∙ sym (lowest-zeros k w);
    is-lowest = lowest-zeros k;
  }

  -- ---- the first one from a start

  -- from every start each place is reached in fewer than k steps
  reached : (s n : ℕ) → n < k → (d : ℕ) × ((d < k) × ((s + d) % k ≡ n))
  reached s n h =
      let l : s % k < k = mod-lt s (omega arith) in
      elim (dec_lt n (s % k)) [
        | yes c ↦
            let d : ℕ = n + k - s % k in
            let e : s % k + d ≡ n + k = omega arith in
            (d, (omega arith, sym (mod-add-mod s k d) ∙ ap (λ (x : ℕ). x % k) e ∙ add-mod_right n k ∙ mod-eq_of_lt h))
        | no c ↦
            let d : ℕ = n - s % k in
            let e : s % k + d ≡ n = omega arith in
            (d, (omega arith, sym (mod-add-mod s k d) ∙ ap (λ (x : ℕ). x % k) e ∙ mod-eq_of_lt h))
      ]

  ahead-lt : (w s : ℕ) → 0 < w → w < 2 ^ k → ahead k w s < k
  ahead-lt w s p h =
      let i = is-lowest w p h in
      let r = reached s (lowest k w) (lowest-below k w p h) in
      let m = first-most k (λ j. member w ((s + j) % k)) r.0 (ap (member w) r.1.1 ∙ i.in-set) in
      omega (arith, m, r.1.0)

  ahead-is : (w s : ℕ) → 0 < w → w < 2 ^ k → IsFirst k w s ((s + ahead k w s) % k)
  ahead-is w s p h =
      let one : ℕ → Bool = λ j. member w ((s + j) % k) in
      record {
        steps = ahead k w s;
        near = ahead-lt w s p h;
        place = refl;
        in-set = first-picked k one (ahead-lt w s p h);
        none_before = first-least k one;
      }

  first-at : (w s : ℕ) → ahead k w s < k → first_from k w s ≡ (s + ahead k w s) % k
  first-at w s h = ap (λ (b : Bool). cond b ((s + ahead k w s) % k) k) (lt-ltb _ _ h)

  -- the steps may be counted in m bits, where m is more than k
  pub zeros-first : (m w s : ℕ) → k ≤ m → 0 < w → w < 2 ^ k → (s % k + count_trailing_zeros m (rotate k w s)) % k ≡ first_from k w s
  zeros-first m w s r p h =
      let one : ℕ → Bool = λ j. member w ((s + j) % k) in
      let l = ahead-lt w s p h in
      let zeros : ahead k w s ≡ first m (member (rotate k w s)) =
      first-only m (member (rotate k w s)) (ahead k w s) (omega arith)
      (λ j b. member-rotate k w s j (omega arith) ∙ first-least k one j b)
      (λ _. member-rotate k w s (ahead k w s) l ∙ first-picked k one l) in
      ap (λ (d : ℕ). (s % k + d) % k) (lowest-zeros m (rotate k w s) ∙ sym zeros) ∙ mod-add-mod s k _ ∙ sym (first-at w s l)

  first-only-place : (w s n : ℕ) → IsFirst k w s n → n ≡ first_from k w s
  first-only-place w s n i =
      let near : i.steps < k = i.near in
      let e : i.steps ≡ ahead k w s =
      first-only k (λ j. member w ((s + j) % k)) i.steps (omega arith) i.none_before (λ _. ap (member w) (sym i.place) ∙ i.in-set) in
      i.place ∙ ap (λ (d : ℕ). (s + d) % k) e ∙ sym (first-at w s (omega arith))

  first-of-none : (s : ℕ) → first_from k 0 s ≡ k
  first-of-none s =
      let e : k ≡ ahead k 0 s = first-only k (λ j. member 0 ((s + j) % k)) k (le_refl k) (λ j h. member-none ((s + j) % k)) (λ h. absurd (omega arith)) in
      ap (λ (b : Bool). cond b ((s + ahead k 0 s) % k) k) (le-ltb (ahead k 0 s) k (omega arith))

  first-from-zero : (w : ℕ) → first_from k w 0 ≡ lowest k w
  first-from-zero w =
      let e : ahead k w 0 ≡ lowest k w = first-same k (λ j. member w ((0 + j) % k)) (member w) (λ j h. ap (member w) (ap (λ (x : ℕ). x % k) (plus j) ∙ mod-eq_of_lt h)) in
      ap (λ (d : ℕ). cond (ltb d k) ((0 + d) % k) k) e ∙ at (lowest k w) (first-le k (member w))
    where
      plus : (x : ℕ) → 0 + x ≡ x
      plus x = omega arith

      at : (d : ℕ) → d ≤ k → cond (ltb d k) ((0 + d) % k) k ≡ d
      at d h = elim (dec_lt d k) [
        | yes l ↦ ap (λ (b : Bool). cond b ((0 + d) % k) k) (lt-ltb d k l) ∙ ap (λ (x : ℕ). x % k) (plus d) ∙ mod-eq_of_lt l
        | no l ↦ ap (λ (b : Bool). cond b ((0 + d) % k) k) (le-ltb d k (omega arith)) ∙ omega arith
      ]

  pub first-law : FirstLaw k
  first-law = record {
    counted = λ w s p h. subst (λ (d : ℕ). IsFirst k w s ((s + d) % k)) (sym (zeros-ahead k w s)) (ahead-is w s p h);
    only = first-only-place;
    is-first = λ w s p h. first-at w s (ahead-lt w s p h) ∙ ap (λ (d : ℕ). (s + d) % k) (sym (zeros-ahead k w s));
    of_none = first-of-none;
    from_zero = first-from-zero;
  }

pub trailing-counts : TrailingCounts
trailing-counts = record {
  runs-in-64 = run-law 64;
  lowest-in-16 = lowest-law 16;
  runs-in-16 = run-law 16;
  lowest-in-64 = lowest-law 64;
  first-in-16 = first-law 16;
}
