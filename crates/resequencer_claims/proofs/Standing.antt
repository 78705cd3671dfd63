-- A state in true numbers: E is the number expected, `has` is which numbers have arrived, T gives
-- the tickets. The held numbers are those of the 31 numbers after E that have arrived. This lasts
-- when a number is held and when NESN goes up.
-- Assumes nothing.
use mathlib.Core.Path.{◌≡◌, refl, sym, ap, ap₂, ◌∙◌}
use mathlib.Core.Bool.{Bool, true, false, cond, ◌||◌}
use mathlib.Core.List.{List, [], ◌∷◌, ◌++◌, map}
use Prim.Native.Nat.{ℕ, zero, suc, ◌+◌, ◌%◌, ◌≤◌, ◌<◌}
use native.Mathlib.Nat.{mod-lt, mod-add-mod}
use native.Mathlib.Decide.{dec_lt}
use native.Mathlib.Omega.{arith}
use lib.Dec.{eqb, lit<}
use lib.ListN.{length, get_or, set, length-set}
use lib.Seq.{get_or-set_same, get_or-set_other}
use borrow.Author.Tests.{eq-eqb, ne_eqb, eqb-true, eqb-false}
use Rattle.sequence.specs.declared.LinkNumber.{LinkNumber}
use Rattle.sequence.specs.Numbers.{link}
use Rattle.resequencer.specs.declared.Resequencer.{Resequencer}
use Rattle.resequencer.specs.State.{is_held, ahead, number_at}
use Rattle.resequencer.specs.Events.{advance, hold, held_tickets}
use Rattle.resequencer.proofs.Order.{ahead-at}
use Rattle.resequencer_claims.proofs.Places.{held_at, ticket_at, same_number, held-after-hold, held-near, ticket-near, tickets-length}
use Rattle.resequencer.proofs.Bounds.{past-window}
use Rattle.resequencer_claims.proofs.Order.{facts, Sized, Ordered, never}
use Rattle.resequencer_claims.proofs.Holding.{hold-sized, hold-in-order}
use Rattle.resequencer_claims.proofs.Advancing.{advance-sized, advance-in-order}

-- ---- the true numbers that have arrived among the m numbers starting at n

unfoldable pub arrived_from : (ℕ → Bool) → ℕ → ℕ → List ℕ
arrived_from has n zero = []
arrived_from has n (suc m) = cond (has n) (n ∷ []) [] ++ arrived_from has (suc n) m

pub arrived_from-ext : (has now : ℕ → Bool) (n m : ℕ) → ((i : ℕ) → n ≤ i → now i ≡ has i) → arrived_from now n m ≡ arrived_from has n m
unfolding arrived_from
arrived_from-ext has now n zero e = refl
arrived_from-ext has now n (suc m) e =
    ap₂ (λ (b : Bool) (l : List ℕ). cond b (n ∷ []) [] ++ l) (e n (omega arith)) (arrived_from-ext has now (suc n) m (λ i h. e i (omega arith)))

-- ---- the state in true numbers

pub record Stands (T : ℕ → ℕ) (E : ℕ) (has : ℕ → Bool) (s : Resequencer) : Type 0 where
  pub sized : Sized s
  pub order : Ordered s
  pub tickets-long : length s.tickets ≡ 64
  pub nesn-at : s.nesn ≡ link (E % 64)
  pub held-is : (d : ℕ) → d ≤ 31 → held_at s d ≡ has (E + d)
  pub missing : has E ≡ false
  pub beyond : (n : ℕ) → E + 31 < n → has n ≡ false
  pub tickets-are : (d : ℕ) → d < 64 → held_at s d ≡ true → ticket_at s d ≡ T (E + d)

-- only which numbers from E up have arrived matters
pub stands-ext : {T : ℕ → ℕ} {E : ℕ} {has now : ℕ → Bool} {s : Resequencer} → ((n : ℕ) → E ≤ n → now n ≡ has n) → Stands T E has s → Stands T E now s
stands-ext {T} {E} {has} {now} {s} e k = record {
  sized = k.sized;
  order = k.order;
  tickets-long = k.tickets-long;
  nesn-at = k.nesn-at;
  held-is = λ d h. k.held-is d h ∙ sym (e (E + d) (omega arith));
  missing = e E (omega arith) ∙ k.missing;
  beyond = λ n h. e n (omega arith) ∙ k.beyond n h;
  tickets-are = k.tickets-are;
}

-- the sequence number at distance d from NESN is that of the true number E + d
pub expected : {T : ℕ → ℕ} {E : ℕ} {has : ℕ → Bool} {s : Resequencer} → Stands T E has s → (d : ℕ) → number_at s d ≡ (E + d) % 64
expected {T} {E} k d = ap (λ (l : LinkNumber). (l.0 + d) % 64) k.nesn-at ∙ mod-add-mod E 64 d

-- the distance of a true number that is at most 63 ahead of E
pub ahead-is : {T : ℕ → ℕ} {E : ℕ} {has : ℕ → Bool} {s : Resequencer} → Stands T E has s → (d : ℕ) → d < 64 → ahead s ((E + d) % 64) ≡ d
ahead-is {T} {E} {has} {s} k d h = ap (ahead s) (sym (expected k d)) ∙ ahead-at s d h

module _ {T : ℕ → ℕ} {E : ℕ} {has : ℕ → Bool} {s : Resequencer} (k : Stands T E has s) where
  -- ---- one more number is held

  -- the true number E + d arrives early, for the first time
  pub hold-stands : (now : ℕ → Bool) (d : ℕ) → 1 ≤ d → d ≤ 31 → has (E + d) ≡ false → ((n : ℕ) → now n ≡ (has n || eqb (E + d) n))
      → Stands T E now (hold s ((E + d) % 64) (T (E + d)))
  hold-stands now d l h new e = record {
    sized = hold-sized s n (T (E + d)) k.sized k.order small early near free;
    order = hold-in-order s n (T (E + d)) k.sized k.order small early near free;
    tickets-long = same_length ∙ k.tickets-long;
    nesn-at = same-nesn ∙ k.nesn-at;
    held-is = λ i b. held-after-hold s n (T (E + d)) i small (omega arith) ∙ ap₂ ◌||◌ (k.held-is i b) (same i) ∙ sym (e (E + i));
    missing = e E ∙ ap₂ ◌||◌ k.missing (ne_eqb (E + d) E (λ q. omega arith));
    beyond = λ i b. e i ∙ ap₂ ◌||◌ (k.beyond i b) (ne_eqb (E + d) i (λ q. omega arith));
    tickets-are = λ i b r. ticket i b r (eqb i d) refl;
  }
    where
      n : ℕ
      n = (E + d) % 64

      small : (E + d) % 64 < 64
      small = mod-lt (E + d) (lit< tt)

      at : ahead s ((E + d) % 64) ≡ d
      at = ahead-is k d (omega arith)

      early : 1 ≤ ahead s ((E + d) % 64)
      early = omega (arith, at)

      near : ahead s ((E + d) % 64) ≤ 31
      near = omega (arith, at)

      free : is_held s ((E + d) % 64) ≡ false
      free = ap (is_held s) (sym (expected k d)) ∙ k.held-is d h ∙ new

      same-nesn : (hold s ((E + d) % 64) (T (E + d))).nesn ≡ s.nesn
      same-nesn = unfold hold in refl

      same_length : length (hold s ((E + d) % 64) (T (E + d))).tickets ≡ length s.tickets
      same_length = unfold hold in length-set s.tickets ((E + d) % 64) (T (E + d))

      same : (i : ℕ) → eqb i (ahead s ((E + d) % 64)) ≡ eqb (E + d) (E + i)
      same i = ap (eqb i) at ∙ go (eqb i d) refl
        where
          go : (b : Bool) → eqb i d ≡ b → b ≡ eqb (E + d) (E + i)
          go true q = sym (eq-eqb (E + d) (E + i) (omega (arith, eqb-true i d q)))
          go false q = sym (ne_eqb (E + d) (E + i) (λ r. eqb-false i d q (omega arith)))

      ticket-place : (i : ℕ) → ticket_at (hold s ((E + d) % 64) (T (E + d))) i ≡ get_or (set s.tickets ((E + d) % 64) (T (E + d))) (number_at s i) 0
      ticket-place i = unfold hold in refl

      ticket : (i : ℕ) → i < 64 → held_at (hold s ((E + d) % 64) (T (E + d))) i ≡ true → (b : Bool) → eqb i d ≡ b
          → ticket_at (hold s ((E + d) % 64) (T (E + d))) i ≡ T (E + i)
      ticket i b r true q =
          let z : i ≡ d = eqb-true i d q in
          ticket-place i ∙ ap (λ (x : ℕ). get_or (set s.tickets ((E + d) % 64) (T (E + d))) x 0) (ap (number_at s) z ∙ expected k d)
          ∙ get_or-set_same s.tickets ((E + d) % 64) (T (E + d)) 0 (omega (arith, k.tickets-long, small)) ∙ ap (λ (x : ℕ). T (E + x)) (sym z)
      ticket i b r false q =
          ticket-place i
          ∙ get_or-set_other s.tickets ((E + d) % 64) (number_at s i) (T (E + d)) 0
          (eqb-false (number_at s i) ((E + d) % 64) (same_number s i ((E + d) % 64) b small ∙ ap (eqb i) at ∙ q))
          ∙ k.tickets-are i b (old (held_at s i) refl)
        where
          old : (t : Bool) → held_at s i ≡ t → held_at s i ≡ true
          old true w = w
          old false w =
              never (sym r ∙ held-after-hold s ((E + d) % 64) (T (E + d)) i small b ∙ ap₂ ◌||◌ w (ap (eqb i) at ∙ q))

  -- ---- NESN goes up by m, to a number that is not held

  pub advance-stands : (now : ℕ → Bool) (m : ℕ) → 1 ≤ m → m ≤ 32 → held_at s m ≡ false → ((n : ℕ) → E < n → now n ≡ has n)
      → Stands T (E + m) now (advance s m)
  advance-stands now m l h gap e = record {
    sized = advance-sized s m;
    order = advance-in-order s m k.order l h gap;
    tickets-long = tickets-length s m;
    nesn-at = nesn-then;
    held-is = λ d b. held-near s m d (omega arith) ∙ held d b (dec_lt (m + d) 32);
    missing = e (E + m) (omega arith) ∙ gone (dec_lt m 32);
    beyond = λ n b. e n (omega arith) ∙ k.beyond n (omega arith);
    tickets-are = λ d b r. ticket d b r (dec_lt (m + d) 64);
  }
    where
      nesn-then : (advance s m).nesn ≡ link ((E + m) % 64)
      nesn-then = unfold advance in ap link (expected k m)

      far : (d : ℕ) → d < 64 → 31 < d → held_at s d ≡ false
      far = past-window s (facts s k.order)

      held : (d : ℕ) → d ≤ 31 → Dec (m + d < 32) → held_at s (m + d) ≡ now (E + m + d)
      held d b (yes c) = k.held-is (m + d) (omega arith) ∙ ap has (omega arith) ∙ sym (e (E + m + d) (omega arith))
      held d b (no c) = far (m + d) (omega arith) (omega arith) ∙ sym (e (E + m + d) (omega arith) ∙ k.beyond (E + m + d) (omega arith))

      gone : Dec (m < 32) → has (E + m) ≡ false
      gone (yes c) = sym (k.held-is m (omega arith)) ∙ gap
      gone (no c) = k.beyond (E + m) (omega arith)

      ticket : (d : ℕ) → d < 64 → held_at (advance s m) d ≡ true → Dec (m + d < 64) → ticket_at (advance s m) d ≡ T (E + m + d)
      ticket d b r (yes c) = ticket-near s m d c ∙ k.tickets-are (m + d) c (sym (held-near s m d c) ∙ r) ∙ ap T (omega arith)
      ticket d b r (no c) = absurd (omega (arith, ((advance-in-order s m k.order l h gap).window d b r).1))

  -- ---- the tickets handed on

  pub tickets-passed : (a m : ℕ) → a + m ≤ 32 → held_tickets s a m ≡ map T (arrived_from has (E + a) m)
  unfolding held_tickets arrived_from
  tickets-passed a zero h = refl
  tickets-passed a (suc m) h =
      go (held_at s a) refl (sym (k.held-is a (omega arith)))
      (tickets-passed (suc a) m (omega arith) ∙ ap (λ (x : ℕ). map T (arrived_from has x m)) (omega arith))
    where
      go : (b : Bool) → held_at s a ≡ b → has (E + a) ≡ held_at s a → held_tickets s (suc a) m ≡ map T (arrived_from has (suc (E + a)) m)
          → cond (held_at s a) (ticket_at s a ∷ []) [] ++ held_tickets s (suc a) m ≡ map T (cond (has (E + a)) ((E + a) ∷ []) [] ++ arrived_from has (suc (E + a)) m)
      go true e q r = rw (q, e) (ap₂ ◌∷◌ (k.tickets-are a (omega arith) e) r)
      go false e q r = rw (q, e) r
