-- Good order as facts about every distance from NESN: `InOrder` holds exactly if the test
-- `in_order` is true.
-- Assumes nothing.
use mathlib.Core.Path.{◌≡◌, refl, sym, ap, ◌∙◌, subst}
use mathlib.Core.Bool.{Bool, true, false, not, ◌&&◌, false≢true}
use mathlib.Core.Logic.{◌≢◌}
use Prim.Native.Nat.{ℕ, suc, ◌+◌, ◌%◌, ◌≤◌, ◌<◌}
use native.Mathlib.Nat.{mod-lt, add-mod-mod}
use native.Mathlib.Omega.{arith}
use lib.Dec.{leb, ltb, lit<}
use borrow.Author.Tests.{ltb-true, lt-ltb, leb-true, le-leb, eqb-true, eqb-false, eq-eqb, ne_eqb, not-true}
use Rattle.refusal.proofs.Checks.{both_true}
use Rattle.sequence.proofs.Modular.{distance-lt, distance-at, at-distance}
use Rattle.wordset.specs.Sets.{every}
use Rattle.wordset.proofs.Sets.{every-at, every-all}
use Rattle.resequencer.specs.declared.Resequencer.{Resequencer}
use Rattle.resequencer.specs.State.{is_held, has_clock, ticket_of, ahead, number_at, implies, nothing_held, hsnr_idle, held_in_window, clocks_on_held, clocks_apart, hsnr_furthest, clock_below_hsnr, tickets_of_held, in_order}

-- ---- tests

pub both : (a b : Bool) → a ≡ true → b ≡ true → (a && b) ≡ true
both a b p q = ap (λ (x : Bool). x && b) p ∙ q

pub same_test : (a b : Bool) → (a ≡ true → b ≡ true) → (b ≡ true → a ≡ true) → a ≡ b
same_test true b f g = sym (f refl)
same_test false true f g = g refl
same_test false false f g = refl

pub implied : (a b : Bool) → implies a b ≡ true → a ≡ true → b ≡ true
implied true b e p = e
implied false b e p = absurd (false≢true p)

pub implication : (a b : Bool) → (a ≡ true → b ≡ true) → implies a b ≡ true
implication true b f = f refl
implication false b f = refl

not-both : (a b : Bool) → not (a && b) ≡ true → a ≡ true → b ≡ false
not-both true b e p = not-true b e
not-both false b e p = absurd (false≢true p)

both-not : (a b : Bool) → (a ≡ true → b ≡ false) → not (a && b) ≡ true
both-not true b f = ap not (f refl)
both-not false b f = refl

-- ---- numbers and distances

module _ (s : Resequencer) where
  pub number_lt : (d : ℕ) → number_at s d < 64
  number_lt d = mod-lt (s.nesn.0 + d) (lit< tt)

  pub ahead-at : (d : ℕ) → d < 64 → ahead s (number_at s d) ≡ d
  ahead-at d h = distance-at 64 (lit< tt) s.nesn.0 d h

  pub number-ahead : (n : ℕ) → n < 64 → number_at s (ahead s n) ≡ n
  number-ahead n h = at-distance 64 (lit< tt) s.nesn.0 n h

  pub next-number : (d : ℕ) → (number_at s d + 1) % 64 ≡ number_at s (suc d)
  next-number d = omega arith

  -- distances wrap at 64
  pub around : (d : ℕ) → number_at s (d % 64) ≡ number_at s d
  around d = add-mod-mod s.nesn.0 d 64

pub record InOrder (s : Resequencer) : Type 0 where
  pub nesn-lt : s.nesn.0 < 64
  -- held numbers are at distance 1 to 31
  pub window : (d : ℕ) → d < 64 → is_held s (number_at s d) ≡ true → (1 ≤ d) × (d ≤ 31)
  pub on-held : (d : ℕ) → has_clock s (number_at s d) ≡ true → is_held s (number_at s d) ≡ true
  pub apart : (d : ℕ) → has_clock s (number_at s d) ≡ true → has_clock s (number_at s (suc d)) ≡ false
  pub idle : s.held ≡ 0 → s.hsnr.0 ≡ 0
  pub hsnr-held : s.held ≢ 0 → is_held s s.hsnr.0 ≡ true
  pub furthest : s.held ≢ 0 → (d : ℕ) → d < 64 → is_held s (number_at s d) ≡ true → d ≤ ahead s s.hsnr.0
  pub clock-met : s.held ≢ 0 → clock_below_hsnr s ≡ true
  pub tickets : (n : ℕ) → n < 64 → is_held s n ≡ false → ticket_of s n ≡ 0

module _ (s : Resequencer) where
  -- the clauses of good order
  record Clauses : Type 0 where
    idle : hsnr_idle s ≡ true
    nesn : ltb s.nesn.0 64 ≡ true
    window : held_in_window s ≡ true
    on-held : clocks_on_held s ≡ true
    apart : clocks_apart s ≡ true
    hsnr : implies (not (nothing_held s)) (hsnr_furthest s && clock_below_hsnr s) ≡ true
    tickets : tickets_of_held s ≡ true

  clauses : in_order s ≡ true → Clauses
  unfolding in_order
  clauses e =
      let a = both_true (hsnr_idle s) _ e in
      let b = both_true (ltb s.nesn.0 64) _ a.1 in
      let c = both_true (held_in_window s) _ b.1 in
      let d = both_true (clocks_on_held s) _ c.1 in
      let f = both_true (clocks_apart s) _ d.1 in
      let g = both_true (implies (not (nothing_held s)) (hsnr_furthest s && clock_below_hsnr s)) _ f.1 in
      record { idle = a.0; nesn = b.0; window = c.0; on-held = d.0; apart = f.0; hsnr = g.0; tickets = g.1 }

  every-number : (p : ℕ → Bool) → every 64 p ≡ true → (d : ℕ) → p (number_at s d) ≡ true
  every-number p e d = every-at 64 p e (number_at s d) (number_lt s d)

  every-distance : (p : ℕ → Bool) → ((d : ℕ) → d < 64 → p (number_at s d) ≡ true) → every 64 p ≡ true
  every-distance p f =
      every-all 64 p (λ n l. subst (λ (x : ℕ). p x ≡ true) (number-ahead s n l) (f (ahead s n) (distance-lt 64 (lit< tt) s.nesn.0 n)))

  some-held : s.held ≢ 0 → Clauses → (hsnr_furthest s ≡ true) × (clock_below_hsnr s ≡ true)
  some-held z q =
      both_true (hsnr_furthest s) (clock_below_hsnr s)
      (implied (not (nothing_held s)) _ q.hsnr (ap not (ne_eqb s.held 0 z)))

  pub in_order_lem : in_order s ≡ true → InOrder s
  unfolding held_in_window clocks_on_held clocks_apart hsnr_furthest tickets_of_held
  in_order_lem e = facts (clauses e)
    where
      facts : Clauses → InOrder s
      facts q = record {
        nesn-lt = ltb-true s.nesn.0 64 q.nesn;
        window = λ d l t.
            let w = both_true (leb 1 (ahead s (number_at s d))) _ (implied (is_held s (number_at s d)) _ (every-number _ q.window d) t) in
            (omega (arith, leb-true 1 (ahead s (number_at s d)) w.0, ahead-at s d l), omega (arith, leb-true (ahead s (number_at s d)) 31 w.1, ahead-at s d l));
        on-held = λ d t. implied (has_clock s (number_at s d)) _ (every-number _ q.on-held d) t;
        apart = λ d t.
            ap (has_clock s) (sym (next-number s d)) ∙ not-both (has_clock s (number_at s d)) _ (every-number _ q.apart d) t;
        idle = λ z. eqb-true s.hsnr.0 0 (implied (nothing_held s) _ q.idle (eq-eqb s.held 0 z));
        hsnr-held = λ z. (both_true (is_held s s.hsnr.0) _ (some-held z q).0).0;
        furthest = λ z d l t.
            let w = implied (is_held s (number_at s d)) _ (every-number _ (both_true (is_held s s.hsnr.0) _ (some-held z q).0).1 d) t in
            omega (arith, leb-true (ahead s (number_at s d)) (ahead s s.hsnr.0) w, ahead-at s d l);
        clock-met = λ z. (some-held z q).1;
        tickets = λ n l t. eqb-true (ticket_of s n) 0 (implied (not (is_held s n)) _ (every-at 64 _ q.tickets n l) (ap not t));
      }

  pub good-order : InOrder s → in_order s ≡ true
  unfolding in_order held_in_window clocks_on_held clocks_apart hsnr_furthest tickets_of_held
  good-order o =
      both _ _ (implication (nothing_held s) _ (λ z. eq-eqb s.hsnr.0 0 (o.idle (eqb-true s.held 0 z))))
      (both _ _ (lt-ltb s.nesn.0 64 o.nesn-lt)
      (both _ _ (every-distance _ (λ d l.
      implication (is_held s (number_at s d)) _ (λ t.
      both _ _ (le-leb 1 (ahead s (number_at s d)) (omega (arith, o.window d l t, ahead-at s d l)))
      (le-leb (ahead s (number_at s d)) 31 (omega (arith, o.window d l t, ahead-at s d l))))))
      (both _ _ (every-distance _ (λ d l. implication (has_clock s (number_at s d)) _ (o.on-held d)))
      (both _ _ (every-distance _ (λ d l.
      both-not (has_clock s (number_at s d)) _ (λ t. ap (has_clock s) (next-number s d) ∙ o.apart d t)))
      (both _ _ (implication (not (nothing_held s)) _ (λ t.
      let z : s.held ≢ 0 = eqb-false s.held 0 (not-true (nothing_held s) t) in
      both _ _ (both _ _ (o.hsnr-held z) (every-distance _ (λ d l.
      implication (is_held s (number_at s d)) _ (λ h.
      le-leb (ahead s (number_at s d)) (ahead s s.hsnr.0) (omega (arith, o.furthest z d l h, ahead-at s d l)))))) (o.clock-met z)))
      (every-all 64 _ (λ n l.
      implication (not (is_held s n)) _ (λ t. eq-eqb (ticket_of s n) 0 (o.tickets n l (not-true (is_held s n) t))))))))))
