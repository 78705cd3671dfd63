-- Good order lasts when NESN goes up by m to a number that is not held.
-- Assumes nothing.
use mathlib.Core.Path.{◌≡◌, refl, sym, ap, ◌∙◌}
use mathlib.Core.Bool.{Bool, true, false, not, cond, ◌&&◌}
use mathlib.Core.Logic.{◌⊎◌, inl, inr}
use Prim.Native.Nat.{ℕ, zero, suc, ◌+◌, ◌-◌, ◌^◌, ◌≤◌, ◌<◌}
use native.Mathlib.Nat.{add-zero}
use native.Mathlib.Decide.{dec_lt}
use native.Mathlib.Omega.{arith}
use lib.Dec.{eqb}
use borrow.Author.Tests.{eqb-true, eqb-false}
use Rattle.sequence.specs.Numbers.{link}
use Rattle.wordset.specs.Sets.{member, lowest}
use Rattle.wordset.proofs.Sets.{set_of-lt, member-none, set-laws}
use Rattle.resequencer.specs.declared.Resequencer.{Resequencer}
use Rattle.resequencer.specs.State.{is_held, ahead, number_at, meets_clock}
use Rattle.resequencer.specs.Events.{is_passed, remaining, advance}
use Rattle.resequencer.proofs.Order.{number_lt, number-ahead}
use Rattle.resequencer_claims.proofs.Places.{held_at, clock_at, ticket_at, ahead-lt, number-then, held-near, clock-near, ticket-near, held-far, clock-far, ticket-far}
use Rattle.resequencer_claims.proofs.Order.{Sized, Top, Ordered, never}
use Rattle.resequencer_claims.proofs.Meeting.{meets-more, meets-above}

pub remaining-lt : (s : Resequencer) (m w : ℕ) → remaining s m w < 2 ^ 64
unfolding remaining
remaining-lt s m w = set_of-lt 64 (λ n. member w n && not (is_passed s m n))

pub advance-sized : (s : Resequencer) (m : ℕ) → Sized (advance s m)
advance-sized s m = record { held_fits = held_fits; clocks-fit = clocks-fit }
  where
    held_fits : (advance s m).held < 2 ^ 64
    held_fits = unfold advance in remaining-lt s m s.held

    clocks-fit : (advance s m).clocks < 2 ^ 64
    clocks-fit = unfold advance in remaining-lt s m s.clocks

-- a set that is not empty has a member
some-member : (w : ℕ) → w < 2 ^ 64 → (w ≡ 0 → ⊥) → (n : ℕ) × (n < 64) × (member w n ≡ true)
some-member w h e =
    let b = (set-laws 64).lowest-below w (omega (arith, e)) h in
    (lowest 64 w, b, ((set-laws 64).lowest-is w b).in-set)

module _ (s : Resequencer) (m : ℕ) (o : Ordered s) (least : 1 ≤ m) (most : m ≤ 32) (gap : held_at s m ≡ false) where
  -- a number held afterwards was held before, m further from NESN
  held-from : (d : ℕ) → d < 64 → held_at (advance s m) d ≡ true → (m + d < 64) × (held_at s (m + d) ≡ true)
  held-from d h r = go (dec_lt (m + d) 64)
    where
      go : Dec (m + d < 64) → (m + d < 64) × (held_at s (m + d) ≡ true)
      go (yes b) = (b, sym (held-near s m d b) ∙ r)
      go (no b) = never (sym r ∙ held-far s m (omega arith) d h (omega arith))

  clock-from : (d : ℕ) → d < 64 → clock_at (advance s m) d ≡ true → (m + d < 64) × (clock_at s (m + d) ≡ true)
  clock-from d h r = go (dec_lt (m + d) 64)
    where
      go : Dec (m + d < 64) → (m + d < 64) × (clock_at s (m + d) ≡ true)
      go (yes b) = (b, sym (clock-near s m d b) ∙ r)
      go (no b) = never (sym r ∙ clock-far s m (omega arith) d h (omega arith))

  in_window : (d : ℕ) → d < 64 → held_at (advance s m) d ≡ true → (1 ≤ d) × (d ≤ 31)
  in_window zero h r = never (sym (held-from zero h r).1 ∙ ap (held_at s) (add-zero m) ∙ gap)
  in_window (suc d) h r =
      let w = held-from (suc d) h r in
      let x = o.window (m + suc d) w.0 w.1 in
      (omega arith, omega (arith, x.1))

  on-held : (d : ℕ) → d < 64 → clock_at (advance s m) d ≡ true → held_at (advance s m) d ≡ true
  on-held d h r = let w = clock-from d h r in held-near s m d w.0 ∙ o.on-held (m + d) w.0 w.1

  apart : (d : ℕ) → d < 64 → clock_at (advance s m) d ≡ true → clock_at (advance s m) (d + 1) ≡ true → ⊥
  apart d h p q =
      let w = clock-from d h p in
      let low = (o.window (m + d) w.0 (o.on-held (m + d) w.0 w.1)).1 in
      let x = clock-from (d + 1) (omega (arith, low)) q in
      o.apart (m + d) w.0 w.1 (ap (clock_at s) (omega arith) ∙ x.1)

  no-ticket : (d : ℕ) → d < 64 → held_at (advance s m) d ≡ false → ticket_at (advance s m) d ≡ 0
  no-ticket d h r = go (dec_lt (m + d) 64)
    where
      go : Dec (m + d < 64) → ticket_at (advance s m) d ≡ 0
      go (yes b) = ticket-near s m d b ∙ o.no-ticket (m + d) b (sym (held-near s m d b) ∙ r)
      go (no b) = ticket-far s m (omega arith) d h (omega arith)

  -- if something is left held, HSNR stays and is m nearer
  top_left : (e : ℕ) → Top s e → m ≤ e → (advance s m).hsnr ≡ s.hsnr → Top (advance s m) (e - m)
  top_left e t b q = record {
    hsnr-at = q ∙ t.hsnr-at ∙ ap link (ap (number_at s) back ∙ sym (number-then s m (e - m)));
    below = omega (arith, t.below);
    held = held-near s m (e - m) near ∙ ap (held_at s) (sym back) ∙ t.held;
    furthest = λ d h r. let w = held-from d h r in omega (arith, t.furthest (m + d) w.0 w.1);
    meets =
        meets-more (λ i. held_at s (m + i)) (λ i. clock_at s (m + i)) (held_at (advance s m)) (clock_at (advance s m)) (e - m)
        (λ i l r. held-near s m i (omega (arith, t.below)) ∙ r)
        (λ i l r. clock-near s m i (omega (arith, t.below)) ∙ r)
        (meets-above (held_at s) (clock_at s) m (e - m) gap (ap (meets_clock (held_at s) (clock_at s)) (sym back) ∙ t.meets));
  }
    where
      back : e ≡ m + (e - m)
      back = omega arith

      near : m + (e - m) < 64
      near = omega (arith, t.below)

  top-then : (((advance s m).held ≡ 0) × ((advance s m).hsnr ≡ link 0)) ⊎ ((e : ℕ) × Top (advance s m) e)
  top-then = go (eqb (remaining s m s.held) 0) refl o.top
    where
      hsnr-then : (b : Bool) → eqb (remaining s m s.held) 0 ≡ b → (advance s m).hsnr ≡ cond b (link 0) s.hsnr
      hsnr-then b e = (unfold advance in ap (λ (x : Bool). cond x (link 0) s.hsnr) e)

      held-is : (advance s m).held ≡ remaining s m s.held
      held-is = unfold advance in refl

      go : (b : Bool) → eqb (remaining s m s.held) 0 ≡ b → ((s.held ≡ 0) × (s.hsnr ≡ link 0)) ⊎ ((e : ℕ) × Top s e)
          → (((advance s m).held ≡ 0) × ((advance s m).hsnr ≡ link 0)) ⊎ ((e : ℕ) × Top (advance s m) e)
      go true e t = inl (held-is ∙ eqb-true (remaining s m s.held) 0 e, hsnr-then true e)
      go false e t =
          let x = some-member (advance s m).held (advance-sized s m).held_fits (λ z. eqb-false (remaining s m s.held) 0 e (sym held-is ∙ z)) in
          let d : ℕ = ahead (advance s m) x.0 in
          let h : d < 64 = ahead-lt (advance s m) x.0 in
          let r : held_at (advance s m) d ≡ true = ap (is_held (advance s m)) (number-ahead (advance s m) x.0 x.1) ∙ x.2 in
          last t d (held-from d h r) (hsnr-then false e)
        where
          last : ((s.held ≡ 0) × (s.hsnr ≡ link 0)) ⊎ ((e : ℕ) × Top s e) → (d : ℕ) → (m + d < 64) × (held_at s (m + d) ≡ true)
              → (advance s m).hsnr ≡ s.hsnr
              → (((advance s m).held ≡ 0) × ((advance s m).hsnr ≡ link 0)) ⊎ ((e : ℕ) × Top (advance s m) e)
          last (inl t) d w q =
              never (sym w.1 ∙ ap (λ (x : ℕ). member x (number_at s (m + d))) t.0 ∙ member-none (number_at s (m + d)))
          last (inr t) d w q = inr (t.0 - m, top_left t.0 t.1 (omega (arith, t.1.furthest (m + d) w.0 w.1)) q)

  pub advance-in-order : Ordered (advance s m)
  advance-in-order = record {
    nesn-lt = small;
    window = in_window;
    on-held = on-held;
    apart = apart;
    no-ticket = no-ticket;
    top = top-then;
  }
    where
      small : (advance s m).nesn.0 < 64
      small = unfold advance in number_lt s m
