-- What a choice means, from the laws of sets in words: `choice-means` proves what `ChoiceMeans`
-- says.
-- Assumes nothing.
use mathlib.Core.Path.{◌≡◌, refl, sym, ap, ap₂, subst, ◌∙◌}
use mathlib.Core.Bool.{Bool, true, false, not, cond, ◌&&◌, false≢true, true≢false}
use mathlib.Core.Logic.{◌≢◌}
use Prim.Native.Nat.{ℕ, ◌^◌, ◌<◌}
use native.Mathlib.Omega.{arith}
use lib.Dec.{eqb}
use borrow.Author.Tests.{ltb-true, ltb-false, le-ltb, eqb-true, eqb-false, eq-eqb, ne_eqb}
use Rattle.refusal.specs.declared.Refusal.TheVariants.{OutOfRange, NoInterrogator, AllFailed}
use Rattle.refusal.specs.Numbers.{number_of, check, refusal_number}
use Rattle.wordset.specs.Sets.{member, lowest}
use Rattle.wordset.proofs.Sets.{member-none, no_member, set-laws}
use Rattle.route_choice.specs.Choosing.{choice_code, usable, last_in_range, choose_verdict, chosen_code, choose_by, choose_of}
use Rattle.route_choice.specs.Meaning.{Usable, ChoiceMeans}
use Rattle.std.specs.Prelude.{Result, Ok, Err, Option, Some, None}
use Rattle.refusal.specs.declared.Refusal.{Refusal}

-- what is in one set and not in another
parts : (x y : Bool) → (x && not y) ≡ true → (x ≡ true) × (y ≡ false)
parts true true e = absurd (false≢true e)
parts true false e = (refl, refl)
parts false y e = absurd (false≢true e)

-- a set with a member is not the empty one
not-empty : (w c : ℕ) → member w c ≡ true → w ≢ 0
not-empty w c e z = false≢true (sym (member-none c) ∙ ap (λ (x : ℕ). member x c) (sym z) ∙ e)

-- the lowest member of a set of codes that is not empty
below-16 : (w : ℕ) → w < 2 ^ 16 → w ≢ 0 → lowest 16 w < 16
below-16 w h n = (set-laws 16).lowest-below w (omega arith) h

-- a last-used code that is not one of the 16
over-15 : (last : Option ℕ) → last_in_range last ≡ false → (c : ℕ) × (last ≡ Some c) × (15 < c)
over-15 (Some c) e = (c, refl, ltb-false c 16 e)
over-15 None e = absurd (true≢false e)

module _ (codes failed : ℕ) where
  pub of-usable : (c : ℕ) → c < 16 → member (usable codes failed) c ≡ true → Usable codes failed c
  of-usable c h e =
      let p = parts (member codes c) (member failed c) (sym ((set-laws 16).member-difference codes failed c h) ∙ e) in
      (h, p.0, p.1)

  is-usable : (c : ℕ) → Usable codes failed c → member (usable codes failed) c ≡ true
  is-usable c u = (set-laws 16).member-difference codes failed c u.0 ∙ ap₂ (λ (x y : Bool). x && not y) u.1 u.2

  lowest-lt : usable codes failed ≢ 0 → lowest 16 (usable codes failed) < 16
  lowest-lt n = below-16 (usable codes failed) ((set-laws 16).fits _) n

  pub lowest-usable : usable codes failed ≢ 0 → Usable codes failed (lowest 16 (usable codes failed))
  lowest-usable n = of-usable _ (lowest-lt n) ((set-laws 16).lowest-is (usable codes failed) (lowest-lt n)).in-set

  -- the code chosen can be used
  chosen-usable : (last : Option ℕ) → last_in_range last ≡ true → usable codes failed ≢ 0 → Usable codes failed (chosen_code (usable codes failed) last)
  chosen-usable None g n = lowest-usable n
  chosen-usable (Some d) g n = go (member (usable codes failed) d) refl
    where
      go : (b : Bool) → member (usable codes failed) d ≡ b → Usable codes failed (cond b d (lowest 16 (usable codes failed)))
      go true e = of-usable d (ltb-true d 16 g) e
      go false e = lowest-usable n

  -- nothing lower than the lowest can be used
  none-lower : usable codes failed ≢ 0 → (d : ℕ) → Usable codes failed d → d < lowest 16 (usable codes failed) → ⊥
  none-lower n d u h =
      false≢true (sym (((set-laws 16).lowest-is (usable codes failed) (lowest-lt n)).least d h) ∙ is-usable d u)

  -- where no code can be used, the set of those that can is empty
  none-usable : ((c : ℕ) → Usable codes failed c → ⊥) → usable codes failed ≡ 0
  none-usable f = go (eqb (usable codes failed) 0) refl
    where
      go : (b : Bool) → eqb (usable codes failed) 0 ≡ b → usable codes failed ≡ 0
      go true e = eqb-true _ 0 e
      go false e = absurd (f _ (lowest-usable (eqb-false _ 0 e)))

  -- where codes are present and none can be used, one of those present has failed
  present-failed : codes < 2 ^ 16 → codes ≢ 0 → usable codes failed ≡ 0 → (c : ℕ) × (c < 16) × (member codes c ≡ true) × (member failed c ≡ true)
  present-failed h n z = (low, l, m, go (member failed low) refl)
    where
      low : ℕ
      low = lowest 16 codes

      l : low < 16
      l = below-16 codes h n

      m : member codes low ≡ true
      m = ((set-laws 16).lowest-is codes l).in-set

      go : (b : Bool) → member failed low ≡ b → member failed low ≡ true
      go true e = e
      go false e = absurd (not-empty (usable codes failed) low (is-usable low (l, m, e)) z)

  -- where the last-used code cannot be used, the code chosen is the lowest
  chosen-lowest : (last : Option ℕ) → last_in_range last ≡ true → ((e : ℕ) → last ≡ Some e → Usable codes failed e → ⊥)
      → chosen_code (usable codes failed) last ≡ lowest 16 (usable codes failed)
  chosen-lowest None g f = refl
  chosen-lowest (Some d) g f = go (member (usable codes failed) d) refl
    where
      go : (b : Bool) → member (usable codes failed) d ≡ b → cond b d (lowest 16 (usable codes failed)) ≡ lowest 16 (usable codes failed)
      go true e = absurd (f d refl (of-usable d (ltb-true d 16 g) e))
      go false e = refl

  module _ (last : Option ℕ) where
    -- what the checks have found if the choice has this result
    abbrev Found : (Result ℕ Refusal) → Type 0
    Found (Ok c) = (last_in_range last ≡ true) × (usable codes failed ≢ 0) × (c ≡ chosen_code (usable codes failed) last)
    Found (Err why) = cond (eqb (number_of why) 1) (last_in_range last ≡ false) (cond (eqb (number_of why) 8) (codes ≡ 0) ((codes ≢ 0) × (usable codes failed ≡ 0)))

    abbrev chosen_by : Bool → Bool → Bool → (Result ℕ Refusal)
    chosen_by g e z =
        choose_by (check g OutOfRange (check (not e) NoInterrogator (check (not z) AllFailed (Ok tt)))) (chosen_code (usable codes failed) last)

    -- the choice by the results of the three tests
    by_tests : (g e z : Bool) → last_in_range last ≡ g → eqb codes 0 ≡ e → eqb (usable codes failed) 0 ≡ z → choose_of codes last failed ≡ chosen_by g e z
    unfolding choose_of choose_verdict
    by_tests g e z p q r = λ i. chosen_by (p i) (q i) (r i)

    found : Found (choose_of codes last failed)
    unfolding choose_of choose_verdict
    found = go (last_in_range last) (eqb codes 0) (eqb (usable codes failed) 0) refl refl refl
      where
        go : (g e z : Bool) → last_in_range last ≡ g → eqb codes 0 ≡ e → eqb (usable codes failed) 0 ≡ z → Found (chosen_by g e z)
        go false e z p q r = p
        go true true z p q r = eqb-true codes 0 q
        go true false true p q r = (eqb-false codes 0 q, eqb-true _ 0 r)
        go true false false p q r = (p, eqb-false _ 0 r, refl)

    pub must-choose : (c : ℕ) → last_in_range last ≡ true → Usable codes failed c → choose_of codes last failed ≡ Ok (chosen_code (usable codes failed) last)
    must-choose c g u =
        by_tests true false false g (ne_eqb codes 0 (not-empty codes c u.1))
        (ne_eqb (usable codes failed) 0 (not-empty (usable codes failed) c (is-usable c u)))

    -- each refusal is given where its reason holds
    pub gives-range : last_in_range last ≡ false → choose_of codes last failed ≡ Err OutOfRange
    gives-range g = by_tests false _ _ g refl refl

    pub gives_none : last_in_range last ≡ true → codes ≡ 0 → choose_of codes last failed ≡ Err NoInterrogator
    gives_none g e = by_tests true true _ g (eq-eqb codes 0 e) refl

    pub gives-failed : last_in_range last ≡ true → codes ≢ 0 → usable codes failed ≡ 0 → choose_of codes last failed ≡ Err AllFailed
    gives-failed g n e = by_tests true false true g (ne_eqb codes 0 n) (eq-eqb _ 0 e)

none_named : (c : Result ℕ Refusal) → refusal_number c ≢ 0 → choice_code c ≡ 0
none_named (Ok code) h = absurd (h refl)
none_named (Err why) h = refl

pub choice-means : ChoiceMeans
choice-means codes last failed = record {
  can-be-used = λ c e.
      let w = was (Ok c) e in
      subst (Usable codes failed) (sym w.2) (chosen-usable codes failed last w.0 w.1);
  last-used-first = λ c d l u e.
      (was (Ok c) e).2 ∙ ap (chosen_code (usable codes failed)) l
      ∙ ap (λ (b : Bool). cond b d (lowest 16 (usable codes failed))) (is-usable codes failed d u);
  else-lowest = λ c d f e u b.
      let w = was (Ok c) e in
      none-lower codes failed w.1 d u (subst (λ (x : ℕ). d < x) (w.2 ∙ chosen-lowest codes failed last w.0 f) b);
  out_of_range = λ e. over-15 last (was (Err OutOfRange) e);
  out-of-range-given = λ c l h. gives-range codes failed last (ap last_in_range l ∙ le-ltb c 16 h);
  no-interrogator = λ e c m. not-empty codes c m (was (Err NoInterrogator) e);
  no-interrogator-given = λ g f. gives_none codes failed last g (no_member codes f);
  all-failed = λ e c u. not-empty (usable codes failed) c (is-usable codes failed c u) (was (Err AllFailed) e).1;
  all-failed-present = λ h e.
      let w = was (Err AllFailed) e in
      present-failed codes failed h w.0 w.1;
  all-failed-given = λ c g m f. gives-failed codes failed last g (not-empty codes c m) (none-usable codes failed f);
  none_named = none_named (choose_of codes last failed);
  always = λ c g u. (chosen_code (usable codes failed) last, must-choose codes failed last c g u);
}
  where
    was : (r : Result ℕ Refusal) → choose_of codes last failed ≡ r → Found codes failed last r
    was r e = subst (Found codes failed last) e (found codes failed last)
