-- Demand 3. While no clock end hands on, the number expected is the lowest that has not arrived,
-- and each call hands on the tickets of the numbers from the one expected before it up to, not
-- including, the one expected after it.
-- Assumes nothing.
use mathlib.Core.Path.{◌≡◌, refl, sym, ap, ap₂, ◌∙◌, subst}
use mathlib.Core.Bool.{Bool, true, cond, ◌||◌}
use mathlib.Core.List.{List, [], ◌∷◌, ◌++◌, map}
use Prim.Native.Nat.{ℕ, zero, suc, ◌+◌, ◌-◌, ◌≤◌, ◌<◌}
use native.Mathlib.Nat.{add-zero}
use native.Mathlib.Decide.{dec_lt}
use native.Mathlib.Omega.{arith}
use Rattle.resequencer.specs.declared.Resequencer.{Resequencer}
use Rattle.resequencer.specs.State.{fresh_state}
use Rattle.resequencer_claims.specs.Events.{Event, packet, stray, clock_end, answer, handed_on, brings, nothing, more, arrived_after, arrived}
use Rattle.resequencer_claims.specs.Demand3.{Lowest, AllowedCall, Allowed, AllowedList, tickets_from, Demand3}
use Rattle.resequencer_claims.specs.Rising.{FirstMissing}
use Rattle.resequencer_claims.proofs.Order.{never}
use Rattle.resequencer_claims.proofs.Standing.{arrived_from, Stands}
use Rattle.resequencer_claims.proofs.Answers.{clock-refuses}
use Rattle.resequencer_claims.proofs.Steps.{Steps, stray-steps, refused-steps, still-missing, packet-steps, fresh-stands}

-- a number that has arrived stays arrived
pub more-keeps : (has : ℕ → Bool) (e : Event) (n : ℕ) → has n ≡ true → more has e n ≡ true
unfolding more
more-keeps has e n h = ap (λ (b : Bool). b || brings e n) h

-- ---- tickets of consecutive numbers

tickets-join : (T : ℕ → ℕ) (n a b : ℕ) → tickets_from T n a ++ tickets_from T (n + a) b ≡ tickets_from T n (a + b)
unfolding tickets_from
tickets-join T n zero b =
    let z : b ≡ 0 + b = omega arith in
    ap₂ (tickets_from T) (add-zero n) z
tickets-join T n (suc a) b =
    let x : n + suc a ≡ suc n + a = omega arith in
    let y : suc (a + b) ≡ suc a + b = omega arith in
    ap (λ (z : ℕ). T n ∷ (tickets_from T (suc n) a ++ tickets_from T z b)) x ∙ ap (λ (l : List ℕ). T n ∷ l) (tickets-join T (suc n) a b) ∙ ap (tickets_from T n) y

-- if all of the m numbers have arrived, their tickets are `tickets_from`
all-arrived : (T : ℕ → ℕ) (has : ℕ → Bool) (n m : ℕ) → ((i : ℕ) → n ≤ i → i < n + m → has i ≡ true) → map T (arrived_from has n m) ≡ tickets_from T n m
unfolding arrived_from tickets_from
all-arrived T has n zero h = refl
all-arrived T has n (suc m) h =
    ap (λ (b : Bool). map T (cond b (n ∷ []) [] ++ arrived_from has (suc n) m)) (h n (omega arith) (omega arith))
    ∙ ap (λ (l : List ℕ). T n ∷ l) (all-arrived T has (suc n) m (λ i a b. h i (omega arith) (omega arith)))

-- ---- any list

module _ (T : ℕ → ℕ) where
  -- the claim for a list that starts where E is expected: it hands on the tickets of the m numbers
  -- starting at E, and E + m is then the lowest that has not arrived
  abbrev Outcome : ℕ → (ℕ → Bool) → Resequencer → List Event → Type 0
  Outcome E has s es = (m : ℕ) × Lowest (arrived_after has es) (E + m) × (handed_on T s es ≡ tickets_from T E m)

  -- the claim for the rest of the list gives the claim for the whole list
  then-rest : (E : ℕ) (has : ℕ → Bool) (s : Resequencer) (e : Event) (es : List Event) (w : Steps T E has s e) → FirstMissing (more has e) E w.next
      → Outcome w.next (more has e) (answer T s e).next es → Outcome E has s (e ∷ es)
  unfolding handed_on arrived_after
  then-rest E has s e es w f r = (
    w.passed + r.0,
    subst (Lowest (arrived_after (more has e) es)) (omega (arith, w.next-is)) r.1,
    ap₂ ◌++◌
        (w.hands ∙ all-arrived T (more has e) E w.passed (λ i a b. f.between i a (omega (arith, w.next-is))))
        (r.2 ∙ ap (λ (x : ℕ). tickets_from T x r.0) w.next-is)
        ∙ tickets-join T E w.passed r.0,
  )

  -- all below the next expected number have arrived
  pub below_next : (E : ℕ) (has : ℕ → Bool) (s : Resequencer) (e : Event) (w : Steps T E has s e) → FirstMissing (more has e) E w.next
      → ((n : ℕ) → n < E → has n ≡ true) → (n : ℕ) → n < w.next → more has e n ≡ true
  below_next E has s e w f below n h = go (dec_lt n E)
    where
      go : Dec (n < E) → more has e n ≡ true
      go (yes l) = more-keeps has e n (below n l)
      go (no l) = f.between n (omega arith) h

  -- one event that the demand allows
  pub allowed-steps : {E : ℕ} {has : ℕ → Bool} {s : Resequencer} → Stands T E has s → ((n : ℕ) → n < E → has n ≡ true)
      → (e : Event) → AllowedCall s has e → (w : Steps T E has s e) × FirstMissing (more has e) E w.next
  allowed-steps {E} k below (packet n) ok = let b = ok E (record { below = below; missing = k.missing }) in packet-steps k n b.0 b.1
  allowed-steps k below (stray sn ticket) ok = let w = stray-steps k sn ticket ok in (w.0, still-missing k (stray sn ticket) w.0 w.1)
  allowed-steps {E} {has} {s} k below (clock_end sn) ok =
      let w = refused-steps k sn ok.0 (clock-refuses s sn ok.0 ok.1) in
      (w.0, still-missing k (clock_end sn) w.0 w.1)

  any-list : (E : ℕ) (has : ℕ → Bool) (s : Resequencer) (es : List Event) → Stands T E has s → ((n : ℕ) → n < E → has n ≡ true)
      → Allowed T s has es → Outcome E has s es
  unfolding Allowed
  any-list E has s [] k below ok = (
    0,
    (unfold arrived_after in record { below = λ n h. below n (omega arith); missing = ap has (add-zero E) ∙ k.missing }),
    (unfold handed_on tickets_from in refl),
  )
  any-list E has s (e ∷ es) k below ok =
      let w = allowed-steps k below e ok.0 in
      then-rest E has s e es w.0 w.1
      (any-list w.0.next (more has e) (answer T s e).next es w.0.stands (below_next E has s e w.0 w.1 below) ok.1)

  from-fresh : (es : List Event) → AllowedList T es → (L : ℕ) × Lowest (arrived es) L × (handed_on T fresh_state es ≡ tickets_from T 0 L)
  from-fresh es ok =
      let r = any-list 0 nothing fresh_state es (fresh-stands T) (λ n h. absurd (omega arith)) ok in
      (r.0, subst (Lowest (arrived es)) (omega arith) r.1, r.2)

  -- if all that arrives in es also arrives in fs, the lowest missing number after fs is not below
  -- that after es
  no_lower : (es fs : List Event) (L M : ℕ) → Lowest (arrived es) L → Lowest (arrived fs) M → ((n : ℕ) → arrived es n ≡ true → arrived fs n ≡ true) → L ≤ M
  no_lower es fs L M a b h = go (dec_lt M L)
    where
      go : Dec (M < L) → L ≤ M
      go (no l) = omega arith
      go (yes l) = never (sym (h M (a.below M l)) ∙ b.missing)

  pub demand3 : Demand3 T
  demand3 = record {
    in_order = from-fresh;
    begins = λ es fs p q h.
        let a = from-fresh es p in
        let b = from-fresh fs q in
        let l = no_lower es fs a.0 b.0 a.1 b.1 h in (
          tickets_from T (0 + a.0) (b.0 - a.0),
          b.2 ∙ sym (ap₂ ◌++◌ a.2 refl ∙ tickets-join T 0 a.0 (b.0 - a.0) ∙ ap (tickets_from T 0) (omega arith)),
        );
  }
