-- One call in true numbers: the number expected after it, the state after it (`Stands`), and the
-- tickets it hands on.
-- Assumes nothing.
use mathlib.Core.Path.{◌≡◌, refl, sym, ap, ◌∙◌, subst}
use mathlib.Core.Bool.{Bool, true, false, cond, ◌||◌, or-false, or-true}
use mathlib.Core.Logic.{inl}
use mathlib.Core.List.{List, [], ◌∷◌, ◌++◌, map}
use Prim.Native.Nat.{ℕ, suc, ◌+◌, ◌-◌, ◌%◌, ◌≤◌, ◌<◌}
use native.Mathlib.Nat.{mod-lt, add-zero, add-mod_right}
use native.Mathlib.Numerals.{add-one}
use native.Mathlib.Decide.{dec_lt}
use native.Mathlib.Omega.{arith}
use lib.Dec.{eqb, lit<, lit≤}
use lib.Pow.{pow_pos}
use lib.ListN.{length-replicate, get_or-replicate}
use borrow.Author.Tests.{eq-eqb, ne_eqb, eqb-true}
use Rattle.refusal.specs.declared.Refusal.{Refusal}
use Rattle.refusal.specs.declared.Refusal.TheVariants.{OutOfRange}
use Rattle.resequencer.specs.declared.Resequencer.{Resequencer}
use Rattle.resequencer.specs.declared.Answer.{Answer}
use Rattle.wordset.proofs.Sets.{member-none}
use Rattle.resequencer.specs.State.{fresh_state, is_held, has_clock, ahead, number_at, in_order}
use Rattle.resequencer.specs.Events.{plain, hand_on, advance, held_tickets, hold, take_clock_end, clock_end_of, handed}
use Rattle.resequencer_claims.specs.Events.{Event, packet, stray, clock_end, answer, brings, nothing, more}
use Rattle.resequencer_claims.specs.Rising.{FirstMissing}
use Rattle.resequencer.proofs.Order.{number_lt}
use Rattle.resequencer_claims.proofs.Places.{held_at}
use Rattle.resequencer_claims.proofs.Order.{good-order, never}
use Rattle.resequencer_claims.proofs.Runs.{RunFrom, run-passes, clock-passes}
use Rattle.resequencer_claims.proofs.Standing.{arrived_from, arrived_from-ext, Stands, stands-ext, expected, ahead-is, hold-stands, advance-stands, tickets-passed}
use Rattle.resequencer_claims.proofs.Answers.{handed-plain, handed-hand_on, next-plain, next-hand_on, arrive-stray, arrive-old, arrive-duplicate, arrive-expected, arrive-early}
use Rattle.resequencer.specs.declared.Outcome.{Outcome}
use Rattle.resequencer.specs.declared.Outcome.TheVariants.{Held, Old, Duplicate}
use Rattle.std.specs.Prelude.{Result, Ok, Err}

pub record Steps (T : ℕ → ℕ) (E : ℕ) (has : ℕ → Bool) (s : Resequencer) (e : Event) : Type 0 where
  pub passed : ℕ
  pub next : ℕ
  pub next-is : next ≡ E + passed
  pub stands : Stands T next (more has e) (answer T s e).next
  pub hands : handed (answer T s e) ≡ map T (arrived_from (more has e) E passed)

module _ {T : ℕ → ℕ} {E : ℕ} {has : ℕ → Bool} {s : Resequencer} (k : Stands T E has s) where
  good : in_order s ≡ true
  good = good-order s k.order

  -- the call hands nothing on, and E stays the number expected
  none : (now : ℕ → Bool) → ◌≡◌ {A = List ℕ} [] (map T (arrived_from now E 0))
  unfolding arrived_from
  none now = refl

  abbrev stay : (e : Event) (o : Result Outcome Refusal) (then : Resequencer) → answer T s e ≡ plain o then → Stands T E (more has e) then → Steps T E has s e
  stay e o then q h = record {
    passed = 0;
    next = E;
    next-is = omega arith;
    stands = subst (Stands T E (more has e)) (sym (ap (λ (a : Answer). a.next) q ∙ next-plain o then)) h;
    hands = ap handed q ∙ handed-plain o then ∙ none (more has e);
  }

  -- NESN goes up by m
  abbrev pass : (e : Event) (ts : List ℕ) (m : ℕ) → answer T s e ≡ hand_on ts (advance s m) → 1 ≤ m → m ≤ 32 → held_at s m ≡ false
      → ((n : ℕ) → E < n → more has e n ≡ has n) → ts ≡ map T (arrived_from (more has e) E m) → Steps T E has s e
  pass e ts m q l h gap same given = record {
    passed = m;
    next = E + m;
    next-is = refl;
    stands = subst (Stands T (E + m) (more has e)) (sym (ap (λ (a : Answer). a.next) q ∙ next-hand_on ts (advance s m))) (advance-stands k (more has e) m l h gap same);
    hands = ap handed q ∙ handed-hand_on ts (advance s m) ∙ given;
  }

  -- ---- calls that bring no true number

  nothing-new : (e : Event) → ((n : ℕ) → brings e n ≡ false) → (n : ℕ) → more has e n ≡ has n
  unfolding more
  nothing-new e b n = ap (λ (x : Bool). has n || x) (b n) ∙ or-false (has n)

  pub stray-steps : (sn ticket : ℕ) → 63 < sn → (w : Steps T E has s (stray sn ticket)) × (w.next ≡ E)
  stray-steps sn ticket h = (
    stay (stray sn ticket) (Err OutOfRange) s (arrive-stray s sn ticket good (omega arith))
        (stands-ext (λ n l. nothing-new (stray sn ticket) (λ m. refl) n) k),
    refl,
  )

  pub refused-steps : (sn : ℕ) (why : Refusal) → clock_end_of s sn ≡ plain (Err why) s → (w : Steps T E has s (clock_end sn)) × (w.next ≡ E)
  refused-steps sn why q = (
    stay (clock_end sn) (Err why) s q (stands-ext (λ n l. nothing-new (clock_end sn) (λ m. refl) n) k),
    refl,
  )

  -- if E stays the number expected, it is the first that has not arrived
  pub still-missing : (e : Event) (w : Steps T E has s e) → w.next ≡ E → FirstMissing (more has e) E w.next
  still-missing e w q = record {
    up = omega (arith, q);
    between = λ m a b. absurd (omega (arith, q));
    missing = w.stands.missing;
  }

  -- ---- a clock end that hands on: the number expected is then the first past the clock's number
  -- that has not arrived

  -- the numbers of a run of held numbers have arrived
  run-arrived : (a r : ℕ) → RunFrom s a r → (n : ℕ) → E + a ≤ n → n < E + (a + r) → has n ≡ true
  run-arrived a r w n l h =
      let e : n ≡ E + (a + (n - E - a)) = omega arith in
      ap has e ∙ sym (k.held-is (a + (n - E - a)) (omega (arith, w.most))) ∙ w.all (n - E - a) (omega arith)

  pub clock-steps : (sn : ℕ) → sn < 64 → has_clock s sn ≡ true → clock_end_of s sn ≡ take_clock_end s sn
      → (w : Steps T E has s (clock_end sn)) × (c : ℕ) × (E ≤ c) × (c ≤ E + 31) × (c % 64 ≡ sn) × FirstMissing (more has (clock_end sn)) (suc c) w.next
  clock-steps sn l on q =
      let c = clock-passes s k.order sn l on in
      let d : ℕ = c.distance in
      let m : ℕ = suc c.distance + c.length in
      let x : Steps T E has s (clock_end sn) =
      pass (clock_end sn) (held_tickets s 0 m) m (q ∙ c.taken) (omega arith) c.run_is.most c.run_is.stop (λ n b. same n)
      (tickets-passed k 0 m (omega (arith, c.run_is.most)) ∙ ap (λ (y : ℕ). map T (arrived_from has y m)) (add-zero E)
      ∙ ap (map T) (sym (arrived_from-ext has (more has (clock_end sn)) E m (λ i b. same i)))) in (
        x,
        E + d,
        omega arith,
        omega (arith, c.near),
        sym (expected k d) ∙ c.at,
        record {
          up = omega arith;
          between = λ n a b. same n ∙ run-arrived (suc d) c.length c.run_is n (omega arith) (omega arith);
          missing = x.stands.missing;
        },
      )
    where
      same : (n : ℕ) → more has (clock_end sn) n ≡ has n
      same = nothing-new (clock_end sn) (λ m. refl)

  -- ---- an arrival: the number expected is then the first from E up that has not arrived

  -- nothing is handed on
  stays : (n : ℕ) (w : Steps T E has s (packet n)) → w.next ≡ E → (v : Steps T E has s (packet n)) × FirstMissing (more has (packet n)) E v.next
  stays n w q = (w, still-missing (packet n) w q)

  -- E itself arrives
  expected-steps : (w : Steps T E has s (packet E)) × FirstMissing (more has (packet E)) E w.next
  unfolding more
  expected-steps =
      let p = run-passes s k.order (T E) in
      let r : ℕ = p.length in
      let w = p.run_is in
      let at : ahead s (E % 64) ≡ 0 = ap (λ (x : ℕ). ahead s (x % 64)) (sym (add-zero E)) ∙ ahead-is k 0 (lit< tt) in
      let free : is_held s (E % 64) ≡ false =
      ap (λ (x : ℕ). is_held s (x % 64)) (sym (add-zero E)) ∙ ap (is_held s) (sym (expected k 0)) ∙ k.held-is 0 (lit≤ tt) ∙ ap has (add-zero E) ∙ k.missing in
      let here : more has (packet E) E ≡ true = ap (λ (b : Bool). has E || b) (eq-eqb E E refl) ∙ or-true (has E) in
      let later : (n : ℕ) → E < n → more has (packet E) n ≡ has n =
      λ n h. ap (λ (b : Bool). has n || b) (ne_eqb E n (λ q. omega arith)) ∙ or-false (has n) in
      let x : Steps T E has s (packet E) =
      pass (packet E) (T E ∷ held_tickets s 1 r) (r + 1) (arrive-expected s (E % 64) (T E) good (mod-lt E (lit< tt)) at free ∙ p.taken) (omega arith) (omega (arith, w.most))
      (ap (held_at s) (omega arith) ∙ w.stop) later (given r here later (tickets-passed k 1 r w.most)) in (
        x,
        record {
          up = omega arith;
          between = λ n a b. first-or-later n a here later (λ c. run-arrived 1 r w n (omega arith) (omega arith)) (dec_lt E n);
          missing = x.stands.missing;
        },
      )
    where
      given : (r : ℕ) → more has (packet E) E ≡ true → ((n : ℕ) → E < n → more has (packet E) n ≡ has n)
          → held_tickets s 1 r ≡ map T (arrived_from has (E + 1) r) → T E ∷ held_tickets s 1 r ≡ map T (arrived_from (more has (packet E)) E (r + 1))
      given r here later q =
          ap (λ (l : List ℕ). T E ∷ l)
          (q ∙ ap (λ (x : ℕ). map T (arrived_from has x r)) (add-one E)
          ∙ ap (map T) (sym (arrived_from-ext has (more has (packet E)) (suc E) r (λ i b. later i (omega arith)))))
          ∙ sym (ap (λ (x : ℕ). map T (arrived_from (more has (packet E)) E x)) (add-one r) ∙ (unfold arrived_from in ap (λ (b : Bool). map T (cond b (E ∷ []) [] ++ arrived_from (more has (packet E)) (suc E) r)) here))

      first-or-later : (n : ℕ) → E ≤ n → more has (packet E) E ≡ true → ((n : ℕ) → E < n → more has (packet E) n ≡ has n) → (E < n → has n ≡ true) → Dec (E < n)
          → more has (packet E) n ≡ true
      first-or-later n a here later h (yes c) = later n c ∙ h c
      first-or-later n a here later h (no c) = ap (more has (packet E)) (omega arith) ∙ here

  -- a number behind E arrives: it is old
  old-steps : (n : ℕ) → n < E → E ≤ n + 32 → (w : Steps T E has s (packet n)) × FirstMissing (more has (packet n)) E w.next
  unfolding more
  old-steps n l h =
      let behind : ahead s (n % 64) ≡ n + 64 - E =
      ap (λ (x : ℕ). ahead s x) (sym (add-mod_right n 64) ∙ ap (λ (x : ℕ). x % 64) (omega arith)) ∙ ahead-is k (n + 64 - E) (omega arith) in
      stays n
      (stay (packet n) (Ok Old) s (arrive-old s (n % 64) (T n) good (mod-lt n (lit< tt)) (omega arith))
      (stands-ext (λ m b. ap (λ (x : Bool). has m || x) (ne_eqb n m (λ q. omega arith)) ∙ or-false (has m)) k))
      refl

  -- a number ahead of E arrives: it is held, or a duplicate
  early-steps : (d : ℕ) → 1 ≤ d → d ≤ 31 → (w : Steps T E has s (packet (E + d))) × FirstMissing (more has (packet (E + d))) E w.next
  unfolding more
  early-steps d l h = go (has (E + d)) refl
    where
      at : ahead s ((E + d) % 64) ≡ d
      at = ahead-is k d (omega arith)

      place : is_held s ((E + d) % 64) ≡ has (E + d)
      place = ap (is_held s) (sym (expected k d)) ∙ k.held-is d h

      known : has (E + d) ≡ true → (m : ℕ) → more has (packet (E + d)) m ≡ has m
      known e m = unfold more in pick (eqb (E + d) m) refl
        where
          pick : (b : Bool) → eqb (E + d) m ≡ b → (has m || b) ≡ has m
          pick false q = or-false (has m)
          pick true q = or-true (has m) ∙ sym (ap has (sym (eqb-true (E + d) m q)) ∙ e)

      go : (b : Bool) → has (E + d) ≡ b → (w : Steps T E has s (packet (E + d))) × FirstMissing (more has (packet (E + d))) E w.next
      go true e =
          stays (E + d)
          (stay (packet (E + d)) (Ok Duplicate) s (arrive-duplicate s ((E + d) % 64) (T (E + d)) good (mod-lt (E + d) (lit< tt)) (omega (arith, at)) (place ∙ e))
          (stands-ext (λ m b. known e m) k))
          refl
      go false e =
          stays (E + d)
          (stay (packet (E + d)) (Ok Held) (hold s ((E + d) % 64) (T (E + d)))
          (arrive-early s ((E + d) % 64) (T (E + d)) good (mod-lt (E + d) (lit< tt)) (omega (arith, at)) (omega (arith, at)) (place ∙ e))
          (hold-stands k (more has (packet (E + d))) d l h e (λ m. refl)))
          refl

  pub packet-steps : (n : ℕ) → E ≤ n + 32 → n ≤ E + 31 → (w : Steps T E has s (packet n)) × FirstMissing (more has (packet n)) E w.next
  packet-steps n l h = go (dec_lt n E) (dec_lt E n)
    where
      go : Dec (n < E) → Dec (E < n) → (w : Steps T E has s (packet n)) × FirstMissing (more has (packet n)) E w.next
      go (yes a) b = old-steps n a l
      go (no a) (yes b) =
          subst (λ (x : ℕ). (w : Steps T E has s (packet x)) × FirstMissing (more has (packet x)) E w.next) (omega arith) (early-steps (n - E) (omega arith) (omega arith))
      go (no a) (no b) =
          subst (λ (x : ℕ). (w : Steps T E has s (packet x)) × FirstMissing (more has (packet x)) E w.next) (omega arith) expected-steps

-- ---- the fresh state

pub fresh-stands : (T : ℕ → ℕ) → Stands T 0 nothing fresh_state
fresh-stands T = record {
  sized = record { held_fits = pow_pos 64; clocks-fit = pow_pos 64 };
  order = record {
    nesn-lt = lit< tt;
    window = λ d h r. never (sym r ∙ member-none (number_at fresh_state d));
    on-held = λ d h r. never (sym r ∙ member-none (number_at fresh_state d));
    apart = λ d h r q. never (sym r ∙ member-none (number_at fresh_state d));
    no-ticket = λ d h r. get_or-replicate {A = ℕ} 64 (number_at fresh_state d) 0 0 (number_lt fresh_state d);
    top = inl (refl, refl);
  };
  tickets-long = length-replicate {A = ℕ} 64 0;
  nesn-at = refl;
  held-is = λ d h. member-none (number_at fresh_state d);
  missing = refl;
  beyond = λ n h. refl;
  tickets-are = λ d h r. never (sym r ∙ member-none (number_at fresh_state d));
}
