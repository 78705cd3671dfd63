-- Laws of `meets_clock`: going down from a distance through held numbers until a clock is met.
-- Assumes nothing.
use mathlib.Core.Path.{◌≡◌, refl, sym, ap, ap₂, ◌∙◌}
use mathlib.Core.Bool.{Bool, true, false, ◌&&◌, ◌||◌, or-true}
use Prim.Native.Nat.{ℕ, zero, suc, ◌+◌, ◌≤◌}
use native.Mathlib.Omega.{arith}
use native.Mathlib.Nat.{add-zero, add-suc}
use Rattle.refusal.proofs.Checks.{both_true}
use Rattle.resequencer.specs.State.{meets_clock}
use Rattle.resequencer_claims.proofs.Order.{never}

-- the number at the starting distance has a clock
pub meets-here : (h c : ℕ → Bool) (d : ℕ) → 1 ≤ d → h d ≡ true → c d ≡ true → meets_clock h c d ≡ true
unfolding meets_clock
meets-here h c zero l p q = absurd (omega arith)
meets-here h c (suc d) l p q = ap₂ (λ (a b : Bool). a && (b || meets_clock h c d)) p q

-- starting one number further up
pub meets-up : (h c : ℕ → Bool) (d : ℕ) → h (suc d) ≡ true → meets_clock h c d ≡ true → meets_clock h c (suc d) ≡ true
unfolding meets_clock
meets-up h c d p m = ap₂ (λ (a b : Bool). a && (c (suc d) || b)) p m ∙ or-true (c (suc d))

-- with more numbers held and more clocks
pub meets-more : (h c h' c' : ℕ → Bool) (d : ℕ) → ((i : ℕ) → i ≤ d → h i ≡ true → h' i ≡ true) → ((i : ℕ) → i ≤ d → c i ≡ true → c' i ≡ true)
    → meets_clock h c d ≡ true → meets_clock h' c' d ≡ true
unfolding meets_clock
meets-more h c h' c' zero p q m = never (sym m)
meets-more h c h' c' (suc d) p q m =
    let x = both_true (h (suc d)) _ m in
    ap₂ ◌&&◌ (p (suc d) (omega arith) x.0)
    (go (c (suc d)) refl x.1 (meets-more h c h' c' d (λ i l. p i (omega arith)) (λ i l. q i (omega arith))))
  where
    go : (b : Bool) → c (suc d) ≡ b → (b || meets_clock h c d) ≡ true → (meets_clock h c d ≡ true → meets_clock h' c' d ≡ true)
        → (c' (suc d) || meets_clock h' c' d) ≡ true
    go true e r k = ap (λ (b : Bool). b || meets_clock h' c' d) (q (suc d) (omega arith) e)
    go false e r k = ap (λ (b : Bool). c' (suc d) || b) (k r) ∙ or-true (c' (suc d))

-- some number on the way has a clock
pub meets-some : (h c : ℕ → Bool) (d : ℕ) → meets_clock h c d ≡ true → (i : ℕ) × (i ≤ d) × (c i ≡ true)
unfolding meets_clock
meets-some h c zero m = never (sym m)
meets-some h c (suc d) m = go (c (suc d)) refl (both_true (h (suc d)) _ m).1 (meets-some h c d)
  where
    go : (b : Bool) → c (suc d) ≡ b → (b || meets_clock h c d) ≡ true → (meets_clock h c d ≡ true → (i : ℕ) × (i ≤ d) × (c i ≡ true))
        → (i : ℕ) × (i ≤ suc d) × (c i ≡ true)
    go true e r k = (suc d, omega arith, e)
    go false e r k = let w = k r in (w.0, omega (arith, w.1), w.2)

-- if the number at distance m is not held, the clock met is above it
pub meets-above : (h c : ℕ → Bool) (m d : ℕ) → h m ≡ false → meets_clock h c (m + d) ≡ true → meets_clock (λ i. h (m + i)) (λ i. c (m + i)) d ≡ true
unfolding meets_clock
meets-above h c m zero n e = at_gap (m + 0) (ap h (add-zero m) ∙ n) e
  where
    at_gap : (x : ℕ) → h x ≡ false → meets_clock h c x ≡ true → false ≡ true
    at_gap zero f e = e
    at_gap (suc x) f e = never (sym (both_true (h (suc x)) _ e).0 ∙ f)
meets-above h c m (suc d) n e = go (m + suc d) (add-suc m d) e (meets-above h c m d n)
  where
    go : (x : ℕ) → x ≡ suc (m + d) → meets_clock h c x ≡ true
        → (meets_clock h c (m + d) ≡ true → meets_clock (λ i. h (m + i)) (λ i. c (m + i)) d ≡ true)
        → (h (m + suc d) && (c (m + suc d) || meets_clock (λ i. h (m + i)) (λ i. c (m + i)) d)) ≡ true
    go zero q e k = absurd (omega arith)
    go (suc x) q e k =
        let y = both_true (h (suc x)) _ e in
        let r : suc x ≡ m + suc d = q ∙ sym (add-suc m d) in
        let z : x ≡ m + d = omega arith in
        ap₂ ◌&&◌ (ap h (sym r) ∙ y.0) (last (c (suc x)) refl y.1 r z k)
      where
        last : (b : Bool) → c (suc x) ≡ b → (b || meets_clock h c x) ≡ true → suc x ≡ m + suc d → x ≡ m + d
            → (meets_clock h c (m + d) ≡ true → meets_clock (λ i. h (m + i)) (λ i. c (m + i)) d ≡ true)
            → (c (m + suc d) || meets_clock (λ i. h (m + i)) (λ i. c (m + i)) d) ≡ true
        last true b e r z k = ap (λ (t : Bool). t || meets_clock (λ i. h (m + i)) (λ i. c (m + i)) d) (ap c (sym r) ∙ b)
        last false b e r z k =
            ap (λ (t : Bool). c (m + suc d) || t) (k (ap (meets_clock h c) (sym z) ∙ e)) ∙ or-true (c (m + suc d))
