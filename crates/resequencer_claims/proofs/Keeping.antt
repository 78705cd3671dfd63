-- One call keeps good order, and the arrivals taken, the tickets handed on and the numbers held
-- balance. Numbers held are counted by distance from NESN, where the effect of a call is easy to
-- state.
-- Assumes nothing.
use mathlib.Core.Path.{◌≡◌, refl, sym, ap, ap₂, ◌∙◌, subst}
use mathlib.Core.Bool.{Bool, true, false, cond, ◌||◌}
use mathlib.Core.Logic.{inl, inr}
use mathlib.Core.List.{List, [], ◌∷◌}
use Prim.Native.Nat.{ℕ, zero, suc, ◌+◌, ◌-◌, ◌≤◌, ◌<◌}
use native.Mathlib.Nat.{add-zero}
use native.Mathlib.Decide.{dec_lt}
use native.Mathlib.Omega.{arith}
use lib.Dec.{eqb, lit<}
use lib.ListN.{length, length-append}
use Rattle.refusal.specs.declared.Refusal.TheVariants.{OutOfRange}
use Rattle.wordset.specs.Sets.{digit, how_many, count}
use Rattle.wordset.proofs.Counts.{how_many-ext, how_many-none, how_many-split, how_many-with, how_many-turn}
use Rattle.resequencer.specs.declared.Resequencer.{Resequencer}
use Rattle.resequencer.specs.declared.Answer.{Answer}
use Rattle.resequencer.specs.State.{fresh_state, is_held, ahead, in_order}
use Rattle.resequencer.specs.Events.{plain, hand_on, advance, held_tickets, hold, arrive_of}
use Rattle.resequencer_claims.specs.Calls.{Call, arrival, clock_end, answer_to}
use Rattle.resequencer_claims.specs.Wanted.{is_taken, takes, KeepsOrder}
use Rattle.resequencer_claims.specs.Rising.{own_number}
use Rattle.resequencer.proofs.Order.{number-ahead}
use Rattle.resequencer_claims.proofs.Places.{held_at, ticket_at, ahead-lt, held-after-hold, held-near, held-far}
use Rattle.resequencer_claims.proofs.Order.{Sized, Ordered, good-order, ordered}
use Rattle.resequencer_claims.proofs.Holding.{hold-sized, hold-in-order}
use Rattle.resequencer_claims.proofs.Advancing.{advance-sized, advance-in-order}
use Rattle.resequencer_claims.proofs.Runs.{run-passes, clock-passes}
use Rattle.resequencer_claims.proofs.Answers.{next-plain, next-hand_on, arrive-stray, arrive-old, arrive-duplicate, arrive-expected, arrive-early, ClockCases, clock-cases, hand_on-says}
use Rattle.resequencer_claims.proofs.Steps.{fresh-stands}
use Rattle.resequencer.specs.declared.Outcome.{Outcome}
use Rattle.resequencer.specs.declared.Outcome.TheVariants.{Held, Old, Duplicate}
use Rattle.std.specs.Prelude.{Result, Ok, Err}
use Rattle.refusal.specs.declared.Refusal.{Refusal}

-- ---- counts by distance

count_held : (s : Resequencer) → count 64 s.held ≡ how_many 64 (held_at s)
count_held s = sym (how_many-turn 64 (lit< tt) (is_held s) s.nesn.0)

-- there is one ticket for each held number
tickets-count : (s : Resequencer) (d m : ℕ) → length (held_tickets s d m) ≡ how_many m (λ j. held_at s (d + j))
unfolding held_tickets how_many
tickets-count s d zero = refl
tickets-count s d (suc m) =
    let e : (j : ℕ) → suc d + j ≡ d + suc j = λ j. omega arith in
    length-append (cond (held_at s d) (ticket_at s d ∷ []) []) (held_tickets s (suc d) m)
    ∙ ap₂ ◌+◌ (one (ticket_at s d) (held_at s d) ∙ ap (λ (x : ℕ). digit (held_at s x)) (sym (add-zero d)))
    (tickets-count s (suc d) m ∙ how_many-ext m (λ j. held_at s (suc d + j)) (λ j. held_at s (d + suc j)) (λ j h. ap (held_at s) (e j)))
  where
    one : (x : ℕ) (b : Bool) → length (cond b (x ∷ []) []) ≡ digit b
    one x true = refl
    one x false = refl

-- when NESN goes up by m: the numbers held before are those passed and those left
count-advance : (s : Resequencer) (m : ℕ) → m ≤ 64 → count 64 s.held ≡ how_many m (held_at s) + count 64 (advance s m).held
count-advance s m h =
    let z : m + (64 - m) ≡ 64 = omega arith in
    let y : (64 - m) + m ≡ 64 = omega arith in
    count_held s ∙ ap (λ (x : ℕ). how_many x (held_at s)) (sym z) ∙ how_many-split m (64 - m) (held_at s)
    ∙ ap (λ (x : ℕ). how_many m (held_at s) + x)
    (sym (count_held (advance s m) ∙ ap (λ (x : ℕ). how_many x (held_at (advance s m))) (sym y) ∙ how_many-split (64 - m) m (held_at (advance s m))
    ∙ ap₂ ◌+◌ (how_many-ext (64 - m) (held_at (advance s m)) (λ j. held_at s (m + j)) (λ j l. held-near s m j (omega arith)))
    (how_many-none m (λ j. held_at (advance s m) (64 - m + j)) (λ j l. held-far s m h (64 - m + j) (omega arith) (omega arith)))
    ∙ add-zero (how_many (64 - m) (λ j. held_at s (m + j)))))

count-hold : (s : Resequencer) (n ticket : ℕ) → n < 64 → is_held s n ≡ false → count 64 (hold s n ticket).held ≡ count 64 s.held + 1
count-hold s n ticket l new =
    count_held (hold s n ticket)
    ∙ how_many-ext 64 (held_at (hold s n ticket)) (λ d. held_at s d || eqb d (ahead s n)) (λ d h. held-after-hold s n ticket d l h)
    ∙ how_many-with 64 (held_at s) (ahead s n) (ahead-lt s n) (ap (is_held s) (number-ahead s n l) ∙ new)
    ∙ ap (λ (x : ℕ). x + 1) (sym (count_held s))

-- ---- one call

pub record Kept (s : Resequencer) : Type 0 where
  pub sized : Sized s
  pub order : Ordered s

pub record CallKeeps (s : Resequencer) (c : Call) : Type 0 where
  pub kept : Kept (answer_to s c).next
  pub balance : takes s c + count 64 s.held ≡ (answer_to s c).count + count 64 (answer_to s c).next.held

module _ (s : Resequencer) (k : Kept s) where
  pub good : in_order s ≡ true
  good = good-order s k.order

  -- an answer that hands nothing on and leaves the state unchanged
  leaves : (c : Call) (o : Result Outcome Refusal) → answer_to s c ≡ plain o s → takes s c ≡ 0 → CallKeeps s c
  leaves c o q t = record {
    kept = subst Kept (sym (ap (λ (a : Answer). a.next) q ∙ next-plain o s)) k;
    balance = ap₂ ◌+◌ (t ∙ sym (ap (λ (a : Answer). a.count) q ∙ no-tickets)) (ap (λ (x : Resequencer). count 64 x.held) (sym (ap (λ (a : Answer). a.next) q ∙ next-plain o s)));
  }
    where
      no-tickets : (plain o s).count ≡ 0
      no-tickets = unfold plain in refl

  -- NESN goes up by m, and the tickets ts are handed on
  passes : (c : Call) (ts : List ℕ) (m : ℕ) → answer_to s c ≡ hand_on ts (advance s m) → 1 ≤ m → m ≤ 32 → held_at s m ≡ false
      → length ts ≡ takes s c + how_many m (held_at s) → CallKeeps s c
  passes c ts m q l h gap e = record {
    kept = subst Kept (sym there) (record { sized = advance-sized s m; order = advance-in-order s m k.order l h gap });
    balance =
        ap (λ (x : ℕ). takes s c + x) (count-advance s m (omega arith)) ∙ assoc (takes s c) (how_many m (held_at s)) (count 64 (advance s m).held)
        ∙ ap₂ (λ (x : ℕ) (y : Resequencer). x + count 64 y.held) (sym (ap (λ (a : Answer). a.count) q ∙ tickets-of ∙ e)) (sym there);
  }
    where
      there : (answer_to s c).next ≡ advance s m
      there = ap (λ (a : Answer). a.next) q ∙ next-hand_on ts (advance s m)

      tickets-of : (hand_on ts (advance s m)).count ≡ length ts
      tickets-of = unfold hand_on in refl

      assoc : (a b d : ℕ) → a + (b + d) ≡ (a + b) + d
      assoc a b d = omega arith

  -- ---- arrivals

  outcome-of : (c : Call) (o : Result Outcome Refusal) (then : Resequencer) → answer_to s c ≡ plain o then → (answer_to s c).outcome ≡ o
  unfolding plain
  outcome-of c o then q = ap (λ (a : Answer). a.outcome) q

  keeps-stray : (sn ticket : ℕ) → 64 ≤ sn → CallKeeps s (arrival sn ticket)
  keeps-stray sn ticket h =
      let q = arrive-stray s sn ticket good h in
      leaves (arrival sn ticket) (Err OutOfRange) q (ap is_taken (outcome-of (arrival sn ticket) (Err OutOfRange) s q))

  keeps-old : (sn ticket : ℕ) → sn < 64 → 31 < ahead s sn → CallKeeps s (arrival sn ticket)
  keeps-old sn ticket l h =
      let q = arrive-old s sn ticket good l h in
      leaves (arrival sn ticket) (Ok Old) q (ap is_taken (outcome-of (arrival sn ticket) (Ok Old) s q))

  keeps-duplicate : (sn ticket : ℕ) → sn < 64 → ahead s sn ≤ 31 → is_held s sn ≡ true → CallKeeps s (arrival sn ticket)
  keeps-duplicate sn ticket l h e =
      let q = arrive-duplicate s sn ticket good l h e in
      leaves (arrival sn ticket) (Ok Duplicate) q (ap is_taken (outcome-of (arrival sn ticket) (Ok Duplicate) s q))

  keeps-early : (sn ticket : ℕ) → sn < 64 → 1 ≤ ahead s sn → ahead s sn ≤ 31 → is_held s sn ≡ false → CallKeeps s (arrival sn ticket)
  keeps-early sn ticket l b h e =
      let q = arrive-early s sn ticket good l b h e in
      let there : (arrive_of s sn ticket).next ≡ hold s sn ticket = ap (λ (a : Answer). a.next) q ∙ next-plain (Ok Held) (hold s sn ticket) in
      record {
        kept = subst Kept (sym there) (record {
          sized = hold-sized s sn ticket k.sized k.order l b h e;
          order = hold-in-order s sn ticket k.sized k.order l b h e;
        });
        balance =
            ap (λ (x : ℕ). x + count 64 s.held) (ap is_taken (outcome-of (arrival sn ticket) (Ok Held) (hold s sn ticket) q))
            ∙ swap (count 64 s.held) ∙ sym (count-hold s sn ticket l e) ∙ plus (count 64 (hold s sn ticket).held)
            ∙ ap₂ (λ (x : ℕ) (y : Resequencer). x + count 64 y.held) (sym (ap (λ (a : Answer). a.count) q ∙ no-tickets)) (sym there);
      }
    where
      swap : (x : ℕ) → 1 + x ≡ x + 1
      swap x = omega arith

      plus : (x : ℕ) → x ≡ 0 + x
      plus x = omega arith

      no-tickets : (plain (Ok Held) (hold s sn ticket)).count ≡ 0
      no-tickets = unfold plain in refl

  keeps-expected : (sn ticket : ℕ) → sn < 64 → ahead s sn ≡ 0 → is_held s sn ≡ false → CallKeeps s (arrival sn ticket)
  keeps-expected sn ticket l z e =
      let p = run-passes s k.order ticket in
      let r : ℕ = p.length in
      let q = arrive-expected s sn ticket good l z e ∙ p.taken in
      passes (arrival sn ticket) (ticket ∷ held_tickets s 1 r) (r + 1) q (omega arith) (omega (arith, p.run_is.most)) (ap (held_at s) (omega arith) ∙ p.run_is.stop)
      (one r ∙ ap (λ (x : ℕ). x + how_many (r + 1) (held_at s)) (sym (ap is_taken (ap (λ (a : Answer). a.outcome) q ∙ hand_on-says (ticket ∷ held_tickets s 1 r) (advance s (r + 1))))))
    where
      none-at-nesn : held_at s 0 ≡ false
      none-at-nesn = ap (λ (x : ℕ). held_at s x) (sym z) ∙ ap (is_held s) (number-ahead s sn l) ∙ e

      one : (r : ℕ) → length (ticket ∷ held_tickets s 1 r) ≡ 1 + how_many (r + 1) (held_at s)
      one r =
          let swap : r + 1 ≡ 1 + r = omega arith in
          let none : how_many 1 (held_at s) ≡ 0 = how_many-none 1 (held_at s) (λ j h. ap (held_at s) (omega arith) ∙ none-at-nesn) in
          omega (arith, tickets-count s 1 r, ap (λ (x : ℕ). how_many x (held_at s)) swap ∙ how_many-split 1 r (held_at s), none)

  keeps-arrival : (sn ticket : ℕ) → CallKeeps s (arrival sn ticket)
  keeps-arrival sn ticket = go (dec_lt sn 64) (dec_lt 31 (ahead s sn)) (is_held s sn) refl (dec_lt 0 (ahead s sn))
    where
      go : Dec (sn < 64) → Dec (31 < ahead s sn) → (b : Bool) → is_held s sn ≡ b → Dec (0 < ahead s sn) → CallKeeps s (arrival sn ticket)
      go (no a) b c e d = keeps-stray sn ticket (omega arith)
      go (yes a) (yes b) c e d = keeps-old sn ticket a b
      go (yes a) (no b) true e d = keeps-duplicate sn ticket a (omega arith) e
      go (yes a) (no b) false e (yes d) = keeps-early sn ticket a (omega arith) (omega arith) e
      go (yes a) (no b) false e (no d) = keeps-expected sn ticket a (omega arith) e

  -- ---- clock ends

  keeps-clock : (sn : ℕ) → CallKeeps s (clock_end sn)
  keeps-clock sn = go (clock-cases s sn)
    where
      plus : (x : ℕ) → 0 + x ≡ x
      plus x = omega arith

      go : ClockCases s sn
          → CallKeeps s (clock_end sn)
      go (inl w) =
          let c = clock-passes s k.order sn w.0 w.1 in
          let m : ℕ = suc c.distance + c.length in
          passes (clock_end sn) (held_tickets s 0 m) m (w.2 ∙ c.taken) (omega arith) c.run_is.most c.run_is.stop
          (tickets-count s 0 m ∙ how_many-ext m (λ j. held_at s (0 + j)) (held_at s) (λ j h. ap (held_at s) (plus j)) ∙ sym (plus (how_many m (held_at s))))
      go (inr w) = leaves (clock_end sn) (Err w.0) w.1 refl

  pub keeps : (c : Call) → CallKeeps s c
  keeps (arrival sn ticket) = keeps-arrival sn ticket
  keeps (clock_end sn) = keeps-clock sn

pub keeps-order : KeepsOrder
keeps-order s c held clocks g =
    let k : Kept s = record { sized = record { held_fits = held; clocks-fit = clocks }; order = ordered s held g } in
    good (answer_to s c).next (keeps s k c).kept

pub fresh_kept : Kept fresh_state
fresh_kept = let k = fresh-stands own_number in record { sized = k.sized; order = k.order }
