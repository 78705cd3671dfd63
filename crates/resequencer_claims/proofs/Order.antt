-- Good order as facts about distances from NESN, in the form in which it is shown to last: the
-- distance e of HSNR is named (`Top`). These facts and the test `in_order` give each other.
-- Assumes nothing.
use mathlib.Core.Path.{◌≡◌, refl, sym, ap, ◌∙◌}
use mathlib.Core.Bool.{Bool, true, false, true≢false}
use mathlib.Core.Logic.{◌⊎◌, inl, inr, ◌≢◌}
use Prim.Native.Nat.{ℕ, suc, ◌+◌, ◌%◌, ◌^◌, ◌≤◌, ◌<◌}
use native.Mathlib.Nat.{mod-lt}
use native.Mathlib.Numerals.{add-one}
use native.Mathlib.Decide.{dec_lt}
use native.Mathlib.Omega.{arith}
use lib.Dec.{eqb, lit<}
use borrow.Author.Tests.{eqb-true, eqb-false}
use Rattle.sequence.specs.declared.LinkNumber.{LinkNumber}
use Rattle.sequence.specs.Numbers.{link}
use Rattle.wordset.specs.Sets.{member}
use Rattle.wordset.proofs.Sets.{member-none, member-past}
use Rattle.wordset.proofs.Masks.{empty}
use Rattle.resequencer.specs.declared.Resequencer.{Resequencer}
use Rattle.resequencer.specs.State.{is_held, has_clock, ticket_of, ahead, number_at, meets_clock, in_order}
use Rattle.resequencer.proofs.Order.{InOrder, around, number_lt, ahead-at, number-ahead, in_order_lem as facts-of-order, good-order as good-by-distance}
use Rattle.resequencer_claims.proofs.Places.{held_at, clock_at, ticket_at, ahead-lt}

-- the two sets fit their 64 bits
pub record Sized (s : Resequencer) : Type 0 where
  pub held_fits : s.held < 2 ^ 64
  pub clocks-fit : s.clocks < 2 ^ 64

-- HSNR is the furthest held number, at distance e, and the run of held numbers that ends there has
-- a clock
pub record Top (s : Resequencer) (e : ℕ) : Type 0 where
  pub hsnr-at : s.hsnr ≡ link (number_at s e)
  pub below : e < 64
  pub held : held_at s e ≡ true
  pub furthest : (d : ℕ) → d < 64 → held_at s d ≡ true → d ≤ e
  pub meets : meets_clock (held_at s) (clock_at s) e ≡ true

pub record Ordered (s : Resequencer) : Type 0 where
  pub nesn-lt : s.nesn.0 < 64
  pub window : (d : ℕ) → d < 64 → held_at s d ≡ true → (1 ≤ d) × (d ≤ 31)
  pub on-held : (d : ℕ) → d < 64 → clock_at s d ≡ true → held_at s d ≡ true
  pub apart : (d : ℕ) → d < 64 → clock_at s d ≡ true → clock_at s (d + 1) ≡ true → ⊥
  pub no-ticket : (d : ℕ) → d < 64 → held_at s d ≡ false → ticket_at s d ≡ 0
  pub top : ((s.held ≡ 0) × (s.hsnr ≡ link 0)) ⊎ ((e : ℕ) × Top s e)

pub never : {A : Type 0} → true ≡ false → A
never e = absurd (true≢false e)

-- ---- these facts give good order

module _ (s : Resequencer) (o : Ordered s) where
  -- if something is held, HSNR is the furthest held number
  topmost : s.held ≢ 0 → (e : ℕ) × Top s e
  topmost z = go o.top
    where
      go : ((s.held ≡ 0) × (s.hsnr ≡ link 0)) ⊎ ((e : ℕ) × Top s e) → (e : ℕ) × Top s e
      go (inl w) = absurd (z w.0)
      go (inr w) = w

  hsnr-is : (e : ℕ) → Top s e → s.hsnr.0 ≡ number_at s e
  hsnr-is e t = ap (λ (l : LinkNumber). l.0) t.hsnr-at

  hsnr-ahead : (e : ℕ) → Top s e → ahead s s.hsnr.0 ≡ e
  hsnr-ahead e t = ap (ahead s) (hsnr-is e t) ∙ ahead-at s e t.below

  pub facts : InOrder s
  facts = record {
    nesn-lt = o.nesn-lt;
    window = o.window;
    on-held = λ d t. ap (is_held s) (sym (around s d)) ∙ o.on-held (d % 64) (mod-lt d (lit< tt)) (ap (has_clock s) (around s d) ∙ t);
    apart = λ d t. beside d t (clock_at s (suc d)) refl;
    idle = λ z. unused z o.top;
    hsnr-held = λ z. let w = topmost z in ap (is_held s) (hsnr-is w.0 w.1) ∙ w.1.held;
    furthest = λ z d l t. let w = topmost z in omega (arith, hsnr-ahead w.0 w.1, w.1.furthest d l t);
    clock-met = λ z. let w = topmost z in ap (meets_clock (held_at s) (clock_at s)) (hsnr-ahead w.0 w.1) ∙ w.1.meets;
    tickets = λ n l t.
        ap (ticket_of s) (sym (number-ahead s n l)) ∙ o.no-ticket (ahead s n) (ahead-lt s n) (ap (is_held s) (number-ahead s n l) ∙ t);
  }
    where
      beside : (d : ℕ) → clock_at s d ≡ true → (b : Bool) → clock_at s (suc d) ≡ b → clock_at s (suc d) ≡ false
      beside d t false e = e
      beside d t true e =
          absurd
          (o.apart (d % 64) (mod-lt d (lit< tt)) (ap (has_clock s) (around s d) ∙ t) (ap (has_clock s) next ∙ e))
        where
          next : number_at s (d % 64 + 1) ≡ number_at s (suc d)
          next = omega arith

      unused : s.held ≡ 0 → ((s.held ≡ 0) × (s.hsnr ≡ link 0)) ⊎ ((e : ℕ) × Top s e) → s.hsnr.0 ≡ 0
      unused z (inl w) = ap (λ (l : LinkNumber). l.0) w.1
      unused z (inr w) =
          never (sym w.1.held ∙ ap (λ (h : ℕ). member h (number_at s w.0)) z ∙ member-none (number_at s w.0))

  pub good-order : in_order s ≡ true
  good-order = good-by-distance s facts

-- ---- good order gives these facts

pub ordered : (s : Resequencer) → s.held < 2 ^ 64 → in_order s ≡ true → Ordered s
ordered s f g = by-distance (facts-of-order s g)
  where
    -- HSNR is held, so it is one of the 64 numbers
    hsnr-lt : is_held s s.hsnr.0 ≡ true → s.hsnr.0 < 64
    hsnr-lt h = go (dec_lt s.hsnr.0 64)
      where
        go : Dec (s.hsnr.0 < 64) → s.hsnr.0 < 64
        go (yes l) = l
        go (no l) = never (sym h ∙ member-past 64 s.held s.hsnr.0 f (omega arith))

    top : InOrder s → (b : Bool) → eqb s.held 0 ≡ b → ((s.held ≡ 0) × (s.hsnr ≡ link 0)) ⊎ ((e : ℕ) × Top s e)
    top o true q = let z : s.held ≡ 0 = eqb-true s.held 0 q in inl (z, ap link (o.idle z))
    top o false q =
        let z : s.held ≢ 0 = eqb-false s.held 0 q in
        let at : number_at s (ahead s s.hsnr.0) ≡ s.hsnr.0 = number-ahead s s.hsnr.0 (hsnr-lt (o.hsnr-held z)) in
        inr (
          ahead s s.hsnr.0,
          record {
            hsnr-at = ap link (sym at);
            below = ahead-lt s s.hsnr.0;
            held = ap (is_held s) at ∙ o.hsnr-held z;
            furthest = o.furthest z;
            meets = o.clock-met z;
          },
        )

    by-distance : InOrder s → Ordered s
    by-distance o = record {
      nesn-lt = o.nesn-lt;
      window = o.window;
      on-held = λ d h. o.on-held d;
      apart = λ d h p q. never (sym q ∙ ap (clock_at s) (add-one d) ∙ o.apart d p);
      no-ticket = λ d h. o.tickets (number_at s d) (number_lt s d);
      top = top o (eqb s.held 0) refl;
    }

-- if nothing is held, no clock runs
pub clocks-idle : (s : Resequencer) → Sized s → Ordered s → s.held ≡ 0 → s.clocks ≡ 0
clocks-idle s f o z = empty 64 s.clocks f.clocks-fit (λ j b. idle j b (member s.clocks j) refl)
  where
    idle : (j : ℕ) → j < 64 → (c : Bool) → member s.clocks j ≡ c → member s.clocks j ≡ false
    idle j b false q = q
    idle j b true q =
        let at : number_at s (ahead s j) ≡ j = number-ahead s j b in
        never (sym (o.on-held (ahead s j) (ahead-lt s j) (ap (has_clock s) at ∙ q))
        ∙ ap (λ (w : ℕ). member w (number_at s (ahead s j))) z ∙ member-none (number_at s (ahead s j)))
