-- The report: laws of the list of those numbers below n that a test picks, and of noting one
-- address after another.
-- Assumes nothing.
use mathlib.Core.Path.{◌≡◌, refl, sym, ap, ap₂, ◌∙◌}
use mathlib.Core.Logic.{◌≢◌}
use mathlib.Core.List.{List, [], ◌∷◌, ◌++◌, append-nil}
use mathlib.Core.Bool.{Bool, true, false, cond, ◌&&◌, ◌||◌, or-false, or_assoc, and-true, and-false}
use Prim.Native.Nat.{ℕ, zero, suc, zero-le, ◌+◌, ◌-◌, ◌≤◌, ◌<◌}
use native.Mathlib.Numerals.{add-one}
use native.Mathlib.Decide.{dec_lt}
use native.Mathlib.Omega.{arith}
use lib.Dec.{eqb}
use lib.ListN.{length, get_or, set, replicate, length-append, get_or-append}
use lib.Seq.{append_snoc, set-append_seam, get_or-append_seam}
use borrow.Author.Tests.{ne_eqb, eqb-true, eqb-false}
use Rattle.route.specs.Entries.{is_in}
use Rattle.route.specs.Updating.{those}
use Rattle.route.specs.declared.Report.{Report}
use Rattle.route.specs.Parts.{report_of, noted, NoneFrom}

-- ---- those numbers below n that p picks

is_in-append : (a : ℕ) (xs ys : List ℕ) → is_in a (xs ++ ys) ≡ (is_in a xs || is_in a ys)
unfolding is_in
is_in-append a [] ys = refl
is_in-append a (x ∷ xs) ys = ap (λ (b : Bool). eqb a x || b) (is_in-append a xs ys) ∙ sym (or_assoc (eqb a x) (is_in a xs) (is_in a ys))

module _ (p : ℕ → Bool) where
  -- the list has no number from n up
  those-past : (n a : ℕ) → n ≤ a → is_in a (those n p) ≡ false
  unfolding those is_in
  those-past zero a h = refl
  those-past (suc n) a h =
      is_in-append a (those n p) (cond (p n) (n ∷ []) []) ∙ ap₂ ◌||◌ (those-past n a (omega arith)) (go (p n))
    where
      go : (b : Bool) → is_in a (cond b (n ∷ []) []) ≡ false
      go true = or-false (eqb a n) ∙ ne_eqb a n (λ q. omega arith)
      go false = refl

  -- below n exactly those that p picks
  pub those-in : (n a : ℕ) → a < n → is_in a (those n p) ≡ p a
  unfolding those is_in
  those-in zero a h = absurd (omega arith)
  those-in (suc n) a h = is_in-append a (those n p) (cond (p n) (n ∷ []) []) ∙ go (eqb a n) refl (those-in n a)
    where
      only : (b : Bool) → is_in a (cond b (n ∷ []) []) ≡ (eqb a n && b)
      only true = or-false (eqb a n) ∙ sym (and-true (eqb a n))
      only false = sym (and-false (eqb a n))

      go : (b : Bool) → eqb a n ≡ b → (a < n → is_in a (those n p) ≡ p a) → (is_in a (those n p) || is_in a (cond (p n) (n ∷ []) [])) ≡ p a
      go true q r =
          let e : a ≡ n = eqb-true a n q in
          ap₂ ◌||◌ (those-past n a (omega arith)) (only (p n) ∙ ap (λ (b : Bool). b && p n) q) ∙ ap p (sym e)
      go false q r =
          let l : a ≢ n = eqb-false a n q in
          ap₂ ◌||◌ (r (omega arith)) (only (p n) ∙ ap (λ (b : Bool). b && p n) q) ∙ or-false (p a)

  -- each place is below n
  those-below : (n j : ℕ) → j < length (those n p) → get_or (those n p) j 0 < n
  unfolding those
  those-below zero j h = absurd (omega arith)
  those-below (suc n) j h = go (p n) h (those-below n j)
    where
      go : (b : Bool) → j < length (those n p ++ cond b (n ∷ []) []) → (j < length (those n p) → get_or (those n p) j 0 < n)
          → get_or (those n p ++ cond b (n ∷ []) []) j 0 < suc n
      go false h r = rw (append-nil (those n p)) (omega (arith, r (rw (append-nil (those n p)) at h)))
      go true h r = elim (dec_lt j (length (those n p))) [
        | yes l ↦ rw (get_or-append (those n p) (n ∷ []) 0 j l) (omega (arith, r l))
        | no l ↦
            let e : j ≡ length (those n p) = omega (arith, length-append (those n p) (n ∷ [])) in
            rw (e, get_or-append_seam (those n p) n [] 0) (omega arith)
      ]

  -- they rise
  pub those-rise : (n j k : ℕ) → j < k → k < length (those n p) → get_or (those n p) j 0 < get_or (those n p) k 0
  unfolding those
  those-rise zero j k l h = absurd (omega arith)
  those-rise (suc n) j k l h = go (p n) h (those-rise n j k l)
    where
      go : (b : Bool) → k < length (those n p ++ cond b (n ∷ []) []) → (k < length (those n p) → get_or (those n p) j 0 < get_or (those n p) k 0)
          → get_or (those n p ++ cond b (n ∷ []) []) j 0 < get_or (those n p ++ cond b (n ∷ []) []) k 0
      go false h r = rw (append-nil (those n p)) (r (rw (append-nil (those n p)) at h))
      go true h r =
          let e : length (those n p ++ (n ∷ [])) ≡ length (those n p) + 1 = length-append (those n p) (n ∷ []) in
          elim (dec_lt k (length (those n p))) [
            | yes b ↦
                let a : j < length (those n p) = omega arith in
                rw (get_or-append (those n p) (n ∷ []) 0 j a, get_or-append (those n p) (n ∷ []) 0 k b) (r b)
            | no b ↦
                let q : k ≡ length (those n p) = omega arith in
                let a : j < length (those n p) = omega arith in
                rw (get_or-append (those n p) (n ∷ []) 0 j a, q, get_or-append_seam (those n p) n [] 0) (those-below n j a)
          ]

  -- a test that picks nothing
  pub those-none : (n : ℕ) → ((a : ℕ) → p a ≡ false) → those n p ≡ []
  unfolding those
  those-none zero e = refl
  those-none (suc n) e = ap₂ (λ (l : List ℕ) (b : Bool). l ++ cond b (n ∷ []) []) (those-none n e) (e n)

-- ---- one address after another noted

-- at most n of them
length-those : (n : ℕ) (p : ℕ → Bool) → length (those n p) ≤ n
unfolding those
length-those zero p = zero-le
length-those (suc n) p = go (p n) (length-those n p)
  where
    go : (b : Bool) → length (those n p) ≤ n → length (those n p ++ cond b (n ∷ []) []) ≤ suc n
    go true h = omega (arith, length-append (those n p) (n ∷ []))
    go false h = omega (arith, length-append (those n p) [])

noted-lost : (l : List ℕ) (a : ℕ) → length l < 256 → noted (report_of l) a true ≡ report_of (l ++ (a ∷ []))
unfolding noted
noted-lost l a h =
    let e : length (l ++ (a ∷ [])) ≡ length l + 1 = length-append l (a ∷ []) in
    let room : 256 - length l ≡ suc (256 - (length l + 1)) = omega arith in
    let written : set (l ++ replicate (256 - length l) 0) (length l) a ≡ (l ++ (a ∷ [])) ++ replicate (256 - length (l ++ (a ∷ []))) 0 =
    ap (λ (k : ℕ). set (l ++ replicate k 0) (length l) a) room
    ∙ set-append_seam l 0 (replicate (256 - (length l + 1)) 0) a
    ∙ sym (append_snoc l a (replicate (256 - (length l + 1)) 0))
    ∙ ap (λ (k : ℕ). (l ++ (a ∷ [])) ++ replicate (256 - k) 0) (sym e) in
    λ i. record { count = sym e i; lost = written i }

-- a turn of the loop: the report of the addresses below n, and then of those below n + 1
pub noted-next : (n : ℕ) (p : ℕ → Bool) (r : Report) → n < 256 → r ≡ report_of (those n p) → noted r n (p n) ≡ report_of (those (n + 1) p)
unfolding those noted
noted-next n p r h e = ap (λ (x : Report). noted x n (p n)) e ∙ go (p n) ∙ ap (λ (k : ℕ). report_of (those k p)) (sym (add-one n))
  where
    go : (b : Bool) → noted (report_of (those n p)) n b ≡ report_of (those n p ++ cond b (n ∷ []) [])
    go true = noted-lost (those n p) n (omega (arith, length-those n p))
    go false = ap report_of (sym (append-nil (those n p)))

-- there is room for one more
pub noted-room : (n : ℕ) (p : ℕ → Bool) (r : Report) → n < 256 → r ≡ report_of (those n p) → r.count < 256
noted-room n p r h e = omega (arith, ap (λ (x : Report). x.count) e, length-those n p)

-- numbers of which none is picked are passed over
pub those-skip : (p : ℕ → Bool) (from n : ℕ) → NoneFrom from n p → those (from + n) p ≡ those from p
unfolding those
those-skip p from zero h =
    let z : from + 0 ≡ from = omega arith in
    ap (λ (k : ℕ). those k p) z
those-skip p from (suc n) h =
    let s : from + suc n ≡ suc (from + n) = omega arith in
    ap (λ (k : ℕ). those k p) s
    ∙ ap (λ (b : Bool). those (from + n) p ++ cond b ((from + n) ∷ []) []) (h n (omega arith))
    ∙ append-nil (those (from + n) p)
    ∙ those-skip p from n (λ i l. h i (omega arith))
