-- Good order lasts when an early number n is held.
-- Assumes nothing.
use mathlib.Core.Path.{◌≡◌, refl, sym, ap, ap₂, ◌∙◌}
use mathlib.Core.Bool.{Bool, true, false, cond, ◌||◌}
use mathlib.Core.Logic.{◌⊎◌, inl, inr}
use Prim.Native.Nat.{ℕ, suc, ◌+◌, ◌^◌, ◌≤◌, ◌<◌}
use native.Mathlib.Decide.{dec_lt}
use native.Mathlib.Omega.{arith}
use lib.Dec.{eqb, ltb}
use lib.Seq.{get_or-set_other}
use borrow.Author.Tests.{eq-eqb, ne_eqb, eqb-true, eqb-false, lt-ltb, le-ltb, ltb-true}
use Rattle.sequence.specs.declared.LinkNumber.{LinkNumber}
use Rattle.sequence.specs.Numbers.{link}
use Rattle.wordset.specs.Sets.{member, with}
use Rattle.wordset.proofs.Sets.{set_of-lt, member-set_of, member-none}
use Rattle.resequencer.specs.declared.Resequencer.{Resequencer}
use Rattle.resequencer.specs.State.{is_held, ahead, number_at, meets_clock}
use Rattle.resequencer.specs.Events.{starts_clock, follows_hsnr, hold}
use Rattle.resequencer.proofs.Order.{ahead-at, number_lt, number-ahead}
use Rattle.resequencer_claims.proofs.Places.{held_at, clock_at, ticket_at, ahead-lt, same_number, held-after-hold}
use Rattle.resequencer_claims.proofs.Order.{Sized, Top, Ordered, clocks-idle, never}
use Rattle.resequencer_claims.proofs.Meeting.{meets-here, meets-up, meets-more, meets-some}

or_cases : (a b : Bool) → (a || b) ≡ true → (a ≡ true) ⊎ (b ≡ true)
or_cases true b e = inl refl
or_cases false b e = inr e

or-none : (a b : Bool) → (a || b) ≡ false → (a ≡ false) × (b ≡ false)
or-none true b e = never e
or-none false b e = (refl, e)

or_left : (a b : Bool) → a ≡ true → (a || b) ≡ true
or_left a b e = ap (λ (x : Bool). x || b) e

or_right : (a b : Bool) → b ≡ true → (a || b) ≡ true
or_right true b e = refl
or_right false b e = e

module _ (s : Resequencer) (n ticket : ℕ) (f : Sized s) (o : Ordered s) (l : n < 64) (early : 1 ≤ ahead s n) (near : ahead s n ≤ 31) (new : is_held s n ≡ false) where
  -- ---- held numbers, clocks and tickets after it

  clock-started : starts_clock s n ≡ true → (d : ℕ) → d < 64 → clock_at (hold s n ticket) d ≡ (clock_at s d || eqb d (ahead s n))
  unfolding hold
  clock-started e d h =
      ap (λ (b : Bool). member (cond b (with 64 s.clocks n) s.clocks) (number_at s d)) e
      ∙ member-set_of 64 (λ j. member s.clocks j || eqb j n) (number_at s d) (number_lt s d)
      ∙ ap (λ (b : Bool). clock_at s d || b) (same_number s d n h l)

  clock-stays : starts_clock s n ≡ false → (d : ℕ) → clock_at (hold s n ticket) d ≡ clock_at s d
  unfolding hold
  clock-stays e d = ap (λ (b : Bool). member (cond b (with 64 s.clocks n) s.clocks) (number_at s d)) e

  ticket-other : (d : ℕ) → d < 64 → eqb d (ahead s n) ≡ false → ticket_at (hold s n ticket) d ≡ ticket_at s d
  unfolding hold
  ticket-other d h e =
      get_or-set_other s.tickets n (number_at s d) ticket 0
      (eqb-false (number_at s d) n (same_number s d n h l ∙ e))

  held-old : (d : ℕ) → d < 64 → held_at s d ≡ true → held_at (hold s n ticket) d ≡ true
  held-old d h e = held-after-hold s n ticket d l h ∙ or_left (held_at s d) (eqb d (ahead s n)) e

  held_new : held_at (hold s n ticket) (ahead s n) ≡ true
  held_new =
      held-after-hold s n ticket (ahead s n) l (ahead-lt s n)
      ∙ or_right (held_at s (ahead s n)) (eqb (ahead s n) (ahead s n)) (eq-eqb (ahead s n) (ahead s n) refl)

  held_then : (d : ℕ) → d < 64 → held_at (hold s n ticket) d ≡ true → (held_at s d ≡ true) ⊎ (d ≡ ahead s n)
  held_then d h e = go (or_cases (held_at s d) (eqb d (ahead s n)) (sym (held-after-hold s n ticket d l h) ∙ e))
    where
      go : (held_at s d ≡ true) ⊎ (eqb d (ahead s n) ≡ true) → (held_at s d ≡ true) ⊎ (d ≡ ahead s n)
      go (inl p) = inl p
      go (inr p) = inr (eqb-true d (ahead s n) p)

  -- a clock that runs afterwards ran before, or was started for n
  clock-then : (d : ℕ) → d < 64 → clock_at (hold s n ticket) d ≡ true → (clock_at s d ≡ true) ⊎ ((d ≡ ahead s n) × (starts_clock s n ≡ true))
  clock-then d h e = go (starts_clock s n) refl
    where
      go : (b : Bool) → starts_clock s n ≡ b → (clock_at s d ≡ true) ⊎ ((d ≡ ahead s n) × (starts_clock s n ≡ true))
      go false q = inl (sym (clock-stays q d) ∙ e)
      go true q = pick (or_cases (clock_at s d) (eqb d (ahead s n)) (sym (clock-started q d h) ∙ e))
        where
          pick : (clock_at s d ≡ true) ⊎ (eqb d (ahead s n) ≡ true) → (clock_at s d ≡ true) ⊎ ((d ≡ ahead s n) × (starts_clock s n ≡ true))
          pick (inl p) = inl p
          pick (inr p) = inr (eqb-true d (ahead s n) p, q)

  clock-old : (d : ℕ) → d < 64 → clock_at s d ≡ true → clock_at (hold s n ticket) d ≡ true
  clock-old d h e = go (starts_clock s n) refl
    where
      go : (b : Bool) → starts_clock s n ≡ b → clock_at (hold s n ticket) d ≡ true
      go false q = clock-stays q d ∙ e
      go true q = clock-started q d h ∙ or_left (clock_at s d) (eqb d (ahead s n)) e

  -- ---- if a clock starts for n, no neighbour of n has one

  -- a clock at distance d is on a held number, so HSNR is at least as far, and n is further than
  -- HSNR + 1
  far_from : (d : ℕ) → d < 64 → clock_at s d ≡ true → starts_clock s n ≡ true → d + 1 < ahead s n
  unfolding starts_clock
  far_from d h c q = go o.top (or_cases (eqb s.clocks 0) _ q)
    where
      go : ((s.held ≡ 0) × (s.hsnr ≡ link 0)) ⊎ ((e : ℕ) × Top s e)
          → (eqb s.clocks 0 ≡ true) ⊎ (ltb (ahead s s.hsnr.0 + 1) (ahead s n) ≡ true) → d + 1 < ahead s n
      go t (inl z) =
          never (sym c ∙ ap (λ (w : ℕ). member w (number_at s d)) (eqb-true s.clocks 0 z) ∙ member-none (number_at s d))
      go (inl t) (inr z) =
          never (sym (o.on-held d h c) ∙ ap (λ (w : ℕ). member w (number_at s d)) t.0 ∙ member-none (number_at s d))
      go (inr t) (inr z) =
          let far : ahead s s.hsnr.0 ≡ t.0 = ap (λ (k : LinkNumber). ahead s k.0) t.1.hsnr-at ∙ ahead-at s t.0 t.1.below in
          omega (arith, far, t.1.furthest d h (o.on-held d h c), ltb-true (ahead s s.hsnr.0 + 1) (ahead s n) z)

  apart-then : (d : ℕ) → d < 64 → clock_at (hold s n ticket) d ≡ true → clock_at (hold s n ticket) (d + 1) ≡ true → ⊥
  apart-then d h p q = go (dec_lt (d + 1) 64)
    where
      -- a clock is at most at distance 31
      low : d ≤ 31
      low = pick (clock-then d h p)
        where
          pick : (clock_at s d ≡ true) ⊎ ((d ≡ ahead s n) × (starts_clock s n ≡ true)) → d ≤ 31
          pick (inl c) = (o.window d h (o.on-held d h c)).1
          pick (inr w) = omega (arith, w.0, near)

      pick : d + 1 < 64 → (clock_at s d ≡ true) ⊎ ((d ≡ ahead s n) × (starts_clock s n ≡ true))
          → (clock_at s (d + 1) ≡ true) ⊎ ((d + 1 ≡ ahead s n) × (starts_clock s n ≡ true)) → ⊥
      pick g (inl a) (inl b) = o.apart d h a b
      pick g (inl a) (inr b) = omega (arith, b.0, far_from d h a b.1)
      pick g (inr a) (inl b) = omega (arith, a.0, far_from (d + 1) g b a.1)
      pick g (inr a) (inr b) = omega (arith, a.0, b.0)

      go : Dec (d + 1 < 64) → ⊥
      go (yes g) = pick g (clock-then d h p) (clock-then (d + 1) g q)
      go (no g) = omega (arith, low)

  -- ---- HSNR

  -- HSNR becomes n
  moved : (starts_clock s n || follows_hsnr s n) ≡ true → (hold s n ticket).hsnr ≡ link (number_at s (ahead s n))
  unfolding hold
  moved e = ap (λ (b : Bool). cond b (link n) s.hsnr) e ∙ ap link (sym (number-ahead s n l))

  stayed : (starts_clock s n || follows_hsnr s n) ≡ false → (hold s n ticket).hsnr ≡ s.hsnr
  unfolding hold
  stayed e = ap (λ (b : Bool). cond b (link n) s.hsnr) e

  new-top : (starts_clock s n || follows_hsnr s n) ≡ true → ((d : ℕ) → d < 64 → held_at s d ≡ true → d ≤ ahead s n)
      → meets_clock (held_at (hold s n ticket)) (clock_at (hold s n ticket)) (ahead s n) ≡ true → Top (hold s n ticket) (ahead s n)
  new-top e below m = record {
    hsnr-at = moved e ∙ same_place;
    below = ahead-lt s n;
    held = held_new;
    furthest = λ d h r. pick d h (held_then d h r);
    meets = m;
  }
    where
      same_place : link (number_at s (ahead s n)) ≡ link (number_at (hold s n ticket) (ahead s n))
      same_place = unfold hold in refl

      pick : (d : ℕ) → d < 64 → (held_at s d ≡ true) ⊎ (d ≡ ahead s n) → d ≤ ahead s n
      pick d h (inl a) = below d h a
      pick d h (inr a) = omega (arith, a)

  -- a clock starts for n: n is then the furthest held number, and has a clock itself
  start-top : starts_clock s n ≡ true → ((d : ℕ) → d < 64 → held_at s d ≡ true → d ≤ ahead s n) → Top (hold s n ticket) (ahead s n)
  start-top e below =
      new-top (or_left (starts_clock s n) (follows_hsnr s n) e) below
      (meets-here (held_at (hold s n ticket)) (clock_at (hold s n ticket)) (ahead s n) early held_new
      (clock-started e (ahead s n) (ahead-lt s n)
      ∙ or_right (clock_at s (ahead s n)) (eqb (ahead s n) (ahead s n)) (eq-eqb (ahead s n) (ahead s n) refl)))

  -- if nothing is held, no clock runs, so one starts for n
  first-held : s.held ≡ 0 → starts_clock s n ≡ true
  unfolding starts_clock
  first-held z = or_left (eqb s.clocks 0) _ (eq-eqb s.clocks 0 (clocks-idle s f o z))

  later-held : (e : ℕ) → Top s e → (k : ℕ) × Top (hold s n ticket) k
  later-held e t = go (dec_lt (e + 1) (ahead s n)) (dec_lt (ahead s n) (e + 1))
    where
      far : ahead s s.hsnr.0 ≡ e
      far = ap (λ (k : LinkNumber). ahead s k.0) t.hsnr-at ∙ ahead-at s e t.below

      some-clock : eqb s.clocks 0 ≡ false
      some-clock =
          let w = meets-some (held_at s) (clock_at s) e t.meets in
          ne_eqb s.clocks 0 (λ z. never (sym w.2 ∙ ap (λ (x : ℕ). member x (number_at s w.0)) z ∙ member-none (number_at s w.0)))

      starts_is : starts_clock s n ≡ ltb (e + 1) (ahead s n)
      starts_is = (unfold starts_clock in ap₂ (λ (a : Bool) (x : ℕ). a || ltb (x + 1) (ahead s n)) some-clock far)

      follows_is : follows_hsnr s n ≡ eqb (ahead s n) (e + 1)
      follows_is = ap (λ (x : ℕ). eqb (ahead s n) (x + 1)) far

      more : meets_clock (held_at (hold s n ticket)) (clock_at (hold s n ticket)) e ≡ true
      more =
          meets-more (held_at s) (clock_at s) (held_at (hold s n ticket)) (clock_at (hold s n ticket)) e
          (λ i b. held-old i (omega (arith, t.below))) (λ i b. clock-old i (omega (arith, t.below))) t.meets

      go : Dec (e + 1 < ahead s n) → Dec (ahead s n < e + 1) → (k : ℕ) × Top (hold s n ticket) k
      go (yes a) b =
          (ahead s n, start-top (starts_is ∙ lt-ltb (e + 1) (ahead s n) a) (λ d h r. omega (arith, t.furthest d h r)))
      go (no a) (no b) =
          let q : ahead s n ≡ suc e = omega arith in (
            ahead s n,
            new-top (or_right (starts_clock s n) (follows_hsnr s n) (follows_is ∙ eq-eqb (ahead s n) (e + 1) (omega arith)))
                (λ d h r. omega (arith, t.furthest d h r))
                (ap (meets_clock (held_at (hold s n ticket)) (clock_at (hold s n ticket))) q
                ∙ meets-up (held_at (hold s n ticket)) (clock_at (hold s n ticket)) e (ap (held_at (hold s n ticket)) (sym q) ∙ held_new) more),
          )
      go (no a) (yes b) = (
        e,
        record {
          hsnr-at =
              stayed (ap₂ ◌||◌ (starts_is ∙ le-ltb (e + 1) (ahead s n) (omega arith)) (follows_is ∙ ne_eqb (ahead s n) (e + 1) (λ q. omega arith)))
              ∙ t.hsnr-at ∙ same_place;
          below = t.below;
          held = held-old e t.below t.held;
          furthest = λ d h r. pick d h (held_then d h r);
          meets = more;
        },
      )
        where
          same_place : link (number_at s e) ≡ link (number_at (hold s n ticket) e)
          same_place = unfold hold in refl

          pick : (d : ℕ) → d < 64 → (held_at s d ≡ true) ⊎ (d ≡ ahead s n) → d ≤ e
          pick d h (inl r) = t.furthest d h r
          pick d h (inr r) = omega (arith, r)

  -- ---- the state after it is in good order

  pub hold-sized : Sized (hold s n ticket)
  unfolding hold
  hold-sized = record {
    held_fits = set_of-lt 64 (λ j. member s.held j || eqb j n);
    clocks-fit = go (starts_clock s n);
  }
    where
      go : (b : Bool) → cond b (with 64 s.clocks n) s.clocks < 2 ^ 64
      go true = set_of-lt 64 (λ j. member s.clocks j || eqb j n)
      go false = f.clocks-fit

  pub hold-in-order : Ordered (hold s n ticket)
  hold-in-order = record {
    nesn-lt = same-nesn;
    window = λ d h r. in_window d (held_then d h r) h;
    on-held = λ d h r. on d h (clock-then d h r);
    apart = apart-then;
    no-ticket = λ d h r.
        let w = or-none (held_at s d) (eqb d (ahead s n)) (sym (held-after-hold s n ticket d l h) ∙ r) in
        ticket-other d h w.1 ∙ o.no-ticket d h w.0;
    top = inr (top-then o.top);
  }
    where
      same-nesn : (hold s n ticket).nesn.0 < 64
      same-nesn = unfold hold in o.nesn-lt

      in_window : (d : ℕ) → (held_at s d ≡ true) ⊎ (d ≡ ahead s n) → d < 64 → (1 ≤ d) × (d ≤ 31)
      in_window d (inl r) h = o.window d h r
      in_window d (inr r) h = (omega (arith, r, early), omega (arith, r, near))

      on : (d : ℕ) → d < 64 → (clock_at s d ≡ true) ⊎ ((d ≡ ahead s n) × (starts_clock s n ≡ true)) → held_at (hold s n ticket) d ≡ true
      on d h (inl r) = held-old d h (o.on-held d h r)
      on d h (inr r) = ap (held_at (hold s n ticket)) r.0 ∙ held_new

      top-then : ((s.held ≡ 0) × (s.hsnr ≡ link 0)) ⊎ ((e : ℕ) × Top s e) → (k : ℕ) × Top (hold s n ticket) k
      top-then (inl t) = (
        ahead s n,
        start-top (first-held t.0) (λ d h r.
            never (sym r ∙ ap (λ (w : ℕ). member w (number_at s d)) t.0 ∙ member-none (number_at s d))),
      )
      top-then (inr t) = later-held t.0 t.1
