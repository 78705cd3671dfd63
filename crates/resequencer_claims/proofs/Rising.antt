-- With clock ends that hand on, the true numbers handed on strictly rise: each call hands on
-- numbers from the one expected before it up to, not including, the one expected after it. A run
-- with other tickets is always at the same true numbers, so it hands on the tickets of the same
-- numbers; and it is told the same numbers to expect, so the condition may be about either run.
-- Assumes nothing.
use mathlib.Core.Path.{◌≡◌, refl, sym, ap, ap₂, ◌∙◌, subst}
use mathlib.Core.Bool.{Bool, true, false, cond}
use mathlib.Core.Logic.{inl, inr}
use mathlib.Core.List.{List, [], ◌∷◌, ◌++◌, map}
use Prim.Native.Nat.{ℕ, zero, suc, ◌+◌, ◌%◌, ◌≤◌, ◌<◌}
use native.Mathlib.Decide.{dec_lt}
use native.Mathlib.Omega.{arith}
use Rattle.resequencer.specs.declared.Resequencer.{Resequencer}
use Rattle.resequencer.specs.State.{fresh_state, in_order}
use Rattle.resequencer.specs.Events.{handed}
use Rattle.resequencer_claims.specs.Events.{Event, packet, stray, clock_end, call_of, answer, handed_on, nothing, more, arrived_after}
use Rattle.resequencer_claims.specs.Rising.{FirstMissing, ExpectedNext, Near, NearList, StrictlyRise, Each, own_number, RisingClaim}
use Rattle.resequencer_claims.proofs.Order.{good-order, never}
use Rattle.resequencer_claims.proofs.Standing.{arrived_from, Stands}
use Rattle.resequencer_claims.proofs.Answers.{ClockCases, clock-cases, clock-taken, clock-taken-says, clock-refused-says}
use Rattle.resequencer_claims.proofs.Steps.{Steps, stray-steps, refused-steps, clock-steps, packet-steps, fresh-stands}
use Rattle.resequencer_claims.proofs.Demand3.{more-keeps}
use Rattle.resequencer_claims.proofs.Keeping.{Kept, good as order-kept, keeps, fresh_kept}
use Rattle.resequencer_claims.proofs.Twins.{Twins, self-twins, arrive-like, clock-like, outcome-like, clocks-like}
use Rattle.resequencer.specs.declared.Outcome.TheVariants.{HandedOn}
use Rattle.std.specs.Prelude.{Ok, Err}

-- ---- lists of numbers that strictly rise and have arrived

lower : (low high : ℕ) (ns : List ℕ) → low ≤ high → StrictlyRise high ns → StrictlyRise low ns
unfolding StrictlyRise
lower low high [] h r = tt
lower low high (n ∷ ns) h r = (omega (arith, r.0), r.1)

rise-on : (has : ℕ → Bool) (n m : ℕ) (ns : List ℕ) → StrictlyRise (n + m) ns → StrictlyRise n (arrived_from has n m ++ ns)
unfolding arrived_from
rise-on has n zero ns r = lower n (n + 0) ns (omega arith) r
rise-on has n (suc m) ns r = go (has n) (rise-on has (suc n) m ns (lower (suc n + m) (n + suc m) ns (omega arith) r))
  where
    go : (b : Bool) → StrictlyRise (suc n) (arrived_from has (suc n) m ++ ns) → StrictlyRise n ((cond b (n ∷ []) [] ++ arrived_from has (suc n) m) ++ ns)
    go true q = (unfold StrictlyRise in (omega arith, q))
    go false q = lower n (suc n) (arrived_from has (suc n) m ++ ns) (omega arith) q

each_on : (p has : ℕ → Bool) (n m : ℕ) (ns : List ℕ) → ((i : ℕ) → has i ≡ true → p i ≡ true) → Each p ns → Each p (arrived_from has n m ++ ns)
unfolding arrived_from
each_on p has n zero ns h r = r
each_on p has n (suc m) ns h r = go (has n) refl (each_on p has (suc n) m ns h r)
  where
    go : (b : Bool) → has n ≡ b → Each p (arrived_from has (suc n) m ++ ns) → Each p ((cond b (n ∷ []) [] ++ arrived_from has (suc n) m) ++ ns)
    go true e q = (unfold Each in (h n e, q))
    go false e q = q

stays-arrived : (has : ℕ → Bool) (es : List Event) (n : ℕ) → has n ≡ true → arrived_after has es n ≡ true
unfolding arrived_after
stays-arrived has [] n h = h
stays-arrived has (e ∷ es) n h = stays-arrived (more has e) es n (more-keeps has e n h)

map-own : (ns : List ℕ) → map own_number ns ≡ ns
map-own [] = refl
map-own (n ∷ ns) = ap (λ (l : List ℕ). n ∷ l) (map-own ns)

map-join : (T : ℕ → ℕ) (xs ys : List ℕ) → map T (xs ++ ys) ≡ map T xs ++ map T ys
map-join T [] ys = refl
map-join T (x ∷ xs) ys = ap (λ (l : List ℕ). T x ∷ l) (map-join T xs ys)

-- ---- the first missing number is unique, and so is the true number of a clock

one-missing : (has : ℕ → Bool) (from a b : ℕ) → FirstMissing has from a → FirstMissing has from b → a ≡ b
one-missing has from a b p q = go (dec_lt a b) (dec_lt b a)
  where
    go : Dec (a < b) → Dec (b < a) → a ≡ b
    go (yes l) m = never (sym (q.between a p.up l) ∙ p.missing)
    go (no l) (yes m) = never (sym (p.between b q.up m) ∙ q.missing)
    go (no l) (no m) = omega arith

one-clock : (E c d sn : ℕ) → E ≤ c → c ≤ E + 31 → c % 64 ≡ sn → E ≤ d → d ≤ E + 31 → d % 64 ≡ sn → c ≡ d
one-clock E c d sn a b e p q f = omega arith

-- ---- one call in two runs, one with the true numbers as tickets and one with any tickets T: the
-- states are twins, and both runs expect the same number afterwards

twins-then : (T : ℕ → ℕ) (s u : Resequencer) (e : Event) → Twins s u → in_order s ≡ true → in_order u ≡ true
    → Twins (answer own_number s e).next (answer T u e).next
twins-then T s u (packet n) t g h = arrive-like s u (n % 64) (own_number n) (T n) t g h
twins-then T s u (stray sn ticket) t g h = arrive-like s u sn ticket ticket t g h
twins-then T s u (clock_end sn) t g h = clock-like s u sn t g h

record Both (T : ℕ → ℕ) (E : ℕ) (has : ℕ → Bool) (s u : Resequencer) (e : Event) : Type 0 where
  own : Steps own_number E has s e
  any : Steps T E has u e
  same_next : any.next ≡ own.next
  told : ExpectedNext s (more has e) E e own.next

module _ (T : ℕ → ℕ) {E : ℕ} {has : ℕ → Bool} {s u : Resequencer} (k : Stands own_number E has s) (j : Stands T E has u) (t : Twins s u) where
  good : in_order s ≡ true
  good = good-order s k.order

  fine : in_order u ≡ true
  fine = good-order u j.order

  both-packet : (n : ℕ) → E ≤ n + 32 → n ≤ E + 31 → Both T E has s u (packet n)
  both-packet n l h =
      let w = packet-steps k n l h in
      let v = packet-steps j n l h in
      record {
        own = w.0;
        any = v.0;
        same_next = one-missing (more has (packet n)) E v.0.next w.0.next v.1 w.1;
        told = w.1;
      }

  both-stray : (sn ticket : ℕ) → 63 < sn → Both T E has s u (stray sn ticket)
  both-stray sn ticket h =
      let w = stray-steps k sn ticket h in
      let v = stray-steps j sn ticket h in
      record {
        own = w.0;
        any = v.0;
        same_next = v.1 ∙ sym w.1;
        told = w.1;
      }

  both-clock : (sn : ℕ) → Both T E has s u (clock_end sn)
  both-clock sn = go (clock-cases s sn) (clock-cases u sn)
    where
      go : ClockCases s sn
          → ClockCases u sn
          → Both T E has s u (clock_end sn)
      go (inl a) b =
          let c = clocks-like s u t sn ∙ a.1 in
          let w = clock-steps k sn a.0 a.1 a.2 in
          let v = clock-steps j sn a.0 c (clock-taken u sn fine a.0 c) in
          let q : w.1 ≡ v.1 = one-clock E w.1 v.1 sn w.2 w.3 w.4 v.2 v.3 v.4 in
          record {
            own = w.0;
            any = v.0;
            same_next = one-missing (more has (clock_end sn)) (suc w.1) v.0.next w.0.next (subst (λ (x : ℕ). FirstMissing (more has (clock_end sn)) (suc x) v.0.next) (sym q) v.5) w.5;
            told = (
              (λ why r. let x : (Ok HandedOn) ≡ Err why = sym (clock-taken-says s sn a.2) ∙ r in let z : ◌≡◌ {A = ℕ} 0 1 = cc in absurd (omega arith)),
              (λ r. (w.1, w.2, w.3, w.4, w.5)),
            );
          }
      go (inr a) (inr b) =
          let w = refused-steps k sn a.0 a.1 in
          let v = refused-steps j sn b.0 b.1 in
          record {
            own = w.0;
            any = v.0;
            same_next = v.1 ∙ sym w.1;
            told = (
              (λ why r. w.1),
              (λ r. let x : Err a.0 ≡ Ok HandedOn = sym (clock-refused-says s sn a.0 a.1) ∙ r in let z : ◌≡◌ {A = ℕ} 0 1 = cc in absurd (omega arith)),
            );
          }
      go (inr a) (inl b) =
          let x : Err a.0 ≡ Ok HandedOn =
          sym (clock-refused-says s sn a.0 a.1)
          ∙ clock-taken-says s sn (clock-taken s sn good b.0 (sym (clocks-like s u t sn) ∙ b.1)) in
          let z : ◌≡◌ {A = ℕ} 0 1 = cc in
          absurd (omega arith)

-- ---- any list

record Risen (T : ℕ → ℕ) (E : ℕ) (has : ℕ → Bool) (s u : Resequencer) (es : List Event) : Type 0 where
  rise : StrictlyRise E (handed_on own_number s es)
  come : Each (arrived_after has es) (handed_on own_number s es)
  tickets : handed_on T u es ≡ map T (handed_on own_number s es)

module _ (T : ℕ → ℕ) where
  then-rest : (E : ℕ) (has : ℕ → Bool) (s u : Resequencer) (e : Event) (es : List Event) (b : Both T E has s u e)
      → Risen T b.own.next (more has e) (answer own_number s e).next (answer T u e).next es → Risen T E has s u (e ∷ es)
  unfolding handed_on arrived_after
  then-rest E has s u e es b r = record {
    rise =
        subst (StrictlyRise E) (sym whole)
        (rise-on (more has e) E p rest (subst (λ (x : ℕ). StrictlyRise x rest) b.own.next-is r.rise));
    come = subst (Each (arrived_after (more has e) es)) (sym whole) (each_on (arrived_after (more has e) es) (more has e) E p rest (stays-arrived (more has e) es) r.come);
    tickets =
        ap₂ ◌++◌ (b.any.hands ∙ ap (λ (x : ℕ). map T (arrived_from (more has e) E x)) same-passed) r.tickets
        ∙ sym (map-join T (arrived_from (more has e) E p) rest) ∙ ap (map T) (sym whole);
  }
    where
      p : ℕ
      p = b.own.passed

      rest : List ℕ
      rest = handed_on own_number (answer own_number s e).next es

      same-passed : b.any.passed ≡ b.own.passed
      same-passed = omega (arith, b.any.next-is, b.own.next-is, b.same_next)

      whole : handed (answer own_number s e) ++ handed_on own_number (answer own_number s e).next es
          ≡ arrived_from (more has e) E b.own.passed ++ handed_on own_number (answer own_number s e).next es
      whole = ap (λ (l : List ℕ). l ++ handed_on own_number (answer own_number s e).next es) (b.own.hands ∙ map-own (arrived_from (more has e) E b.own.passed))

  both : (E : ℕ) (has : ℕ → Bool) (s u : Resequencer) (e : Event) → Stands own_number E has s → Stands T E has u → Twins s u → Near E e → Both T E has s u e
  both E has s u (packet n) k j t h = both-packet T k j t n h.0 h.1
  both E has s u (stray sn ticket) k j t h = both-stray T k j t sn ticket h
  both E has s u (clock_end sn) k j t h = both-clock T k j t sn

  any-list : (E : ℕ) (has : ℕ → Bool) (s u : Resequencer) (es : List Event) → Stands own_number E has s → Stands T E has u → Twins s u
      → NearList own_number s has E es → Risen T E has s u es
  unfolding NearList
  any-list E has s u [] k j t ok = none
    where
      none : Risen T E has s u []
      none = unfold handed_on StrictlyRise Each in record { rise = tt; come = tt; tickets = refl }
  any-list E has s u (e ∷ es) k j t ok =
      let b = both E has s u e k j t ok.0 in
      then-rest E has s u e es b
      (any-list b.own.next (more has e) (answer own_number s e).next (answer T u e).next es b.own.stands
      (subst (λ (x : ℕ). Stands T x (more has e) (answer T u e).next) b.same_next b.any.stands) (twins-then T s u e t (good-order s k.order) (good-order u j.order)) (ok.1 b.own.next b.told))

  -- ---- the condition on the run with the tickets T gives that on the run with the true numbers as
  -- tickets

  told_same : (s u : Resequencer) (has : ℕ → Bool) (E : ℕ) (e : Event) (next : ℕ) → Kept s → Kept u → Twins s u
      → ExpectedNext s has E e next → ExpectedNext u has E e next
  told_same s u has E (packet n) next k j t x = x
  told_same s u has E (stray sn ticket) next k j t x = x
  told_same s u has E (clock_end sn) next k j t x =
      let q = outcome-like s u sn t (order-kept s k) (order-kept u j) in
      (λ why r. x.0 why (q ∙ r), λ r. x.1 (q ∙ r))

  near-own : (s u : Resequencer) (has : ℕ → Bool) (E : ℕ) (es : List Event) → Kept s → Kept u → Twins s u
      → NearList T u has E es → NearList own_number s has E es
  unfolding NearList
  near-own s u has E [] k j t ok = tt
  near-own s u has E (e ∷ es) k j t ok = (
    ok.0,
    λ next x.
        near-own (answer own_number s e).next (answer T u e).next (more has e) next es (keeps s k (call_of own_number e)).kept (keeps u j (call_of T e)).kept
        (twins-then T s u e t (order-kept s k) (order-kept u j)) (ok.1 next (told_same s u (more has e) E e next k j t x)),
  )

pub rising : RisingClaim
rising U es near =
    let ok = near-own U fresh_state fresh_state nothing 0 es fresh_kept fresh_kept (self-twins fresh_state) near in
    let r = any-list own_number 0 nothing fresh_state fresh_state es (fresh-stands own_number) (fresh-stands own_number) (self-twins fresh_state) ok in
    record {
      rise = r.rise;
      have-arrived = r.come;
      any-tickets = λ T. (any-list T 0 nothing fresh_state fresh_state es (fresh-stands own_number) (fresh-stands T) (self-twins fresh_state) ok).tickets;
    }
