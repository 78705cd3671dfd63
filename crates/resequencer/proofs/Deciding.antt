-- The code's tests, on both sets rotated by NESN and in one pass over the tickets, decide good
-- order.
-- Assumes nothing.
use mathlib.Core.Path.{◌≡◌, refl, sym, ap, ap₂, ◌∙◌}
use mathlib.Core.Bool.{Bool, true, false, not, cond, ◌&&◌, ◌||◌, false≢true, true≢false}
use mathlib.Core.Logic.{◌≢◌}
use Prim.Native.Nat.{ℕ, zero, suc, ◌+◌, ◌*◌, ◌/◌, ◌%◌, ◌^◌, ◌≤◌, ◌<◌}
use native.Mathlib.Nat.{mod-lt, mod-eq_of_lt, pow-suc, le-div_iff_mul-le}
use native.Mathlib.Decide.{dec_lt}
use native.Mathlib.Omega.{arith}
use lib.Bits.{bit_and}
use lib.Dec.{leb, ltb, eqb, lit<}
use lib.Pow.{pow_pos}
use borrow.Author.Tests.{ltb-true, lt-ltb, leb-true, le-leb, lt-leb, eqb-true, eqb-false, eq-eqb, ne_eqb, not-true}
use Rattle.refusal.proofs.Checks.{both_true}
use Rattle.sequence.specs.Numbers.{in_field}
use Rattle.sequence.proofs.Modular.{distance-lt}
use Rattle.wordset.specs.Sets.{member, digit, difference, rotate, every}
use Rattle.wordset.proofs.Digits.{bit-zero}
use Rattle.wordset.proofs.Sets.{member-bit, low_digit, member-none, member-past, every-at, every-all}
use Rattle.wordset.proofs.Rings.{member-rotate, rotate-lt}
use Rattle.wordset.proofs.Masks.{empty, within, within_none, within-le, apart, apart_none, below, top-member, top_lt, top, cut}
use Rattle.resequencer.specs.declared.Resequencer.{Resequencer}
use Rattle.resequencer.specs.State.{is_held, has_clock, ticket_of, ahead, number_at, meets_clock, clock_below_hsnr, tickets_of_held, in_order}
use Rattle.resequencer.specs.Parts.{window_in_order, hsnr_in_order, ticket_fits}
use Rattle.resequencer.proofs.Order.{around, both, same_test, implied, implication, InOrder, in_order_lem, good-order, number-ahead}

-- ---- the carry: going down from distance d through held numbers a clock is met exactly if h + c,
-- both cut off above bit d, carries out of bit d

same-leb : (a b c d : ℕ) → (a ≤ b → c ≤ d) → (c ≤ d → a ≤ b) → leb a b ≡ leb c d
same-leb a b c d f g = same_test (leb a b) (leb c d) (λ t. le-leb c d (f (leb-true a b t))) (λ t. le-leb a b (g (leb-true c d t)))

-- only the distances up to d matter
pub meets-same : (p q p' q' : ℕ → Bool) (d : ℕ) → ((k : ℕ) → k ≤ d → p k ≡ p' k) → ((k : ℕ) → k ≤ d → q k ≡ q' k) → meets_clock p q d ≡ meets_clock p' q' d
unfolding meets_clock
meets-same p q p' q' zero f g = refl
meets-same p q p' q' (suc d) f g =
    ap₂ (λ (x y : Bool). x && (y || meets_clock p q d)) (f (suc d) (omega arith)) (g (suc d) (omega arith))
    ∙ ap (λ (z : Bool). p' (suc d) && (q' (suc d) || z)) (meets-same p q p' q' d (λ k l. f k (omega arith)) (λ k l. g k (omega arith)))

module _ (h c : ℕ) (low : member h 0 ≡ false) (sub : (d : ℕ) → d < 64 → member c d ≡ true → member h d ≡ true) where
  carry : (d : ℕ) → d < 64 → meets_clock (member h) (member c) d ≡ leb (2 ^ suc d) (h % 2 ^ suc d + c % 2 ^ suc d)
  unfolding meets_clock
  carry zero l = sym (lt-leb (2 ^ 1) (h % 2 ^ 1 + c % 2 ^ 1) (omega (arith, low_digit h, ap digit low)))
  carry (suc d) l =
      go (member h (suc d)) (member c (suc d)) (cut h (suc d)) (cut c (suc d)) (sub (suc d) l) (carry d (omega arith))
    where
      go : (x y : Bool) → h % 2 ^ suc (suc d) ≡ digit x * 2 ^ suc d + h % 2 ^ suc d → c % 2 ^ suc (suc d) ≡ digit y * 2 ^ suc d + c % 2 ^ suc d
          → (y ≡ true → x ≡ true) → meets_clock (member h) (member c) d ≡ leb (2 ^ suc d) (h % 2 ^ suc d + c % 2 ^ suc d)
          → (x && (y || meets_clock (member h) (member c) d)) ≡ leb (2 ^ suc (suc d)) (h % 2 ^ suc (suc d) + c % 2 ^ suc (suc d))
      go true true a b f r = sym (le-leb (2 ^ suc (suc d)) (h % 2 ^ suc (suc d) + c % 2 ^ suc (suc d)) (omega (arith, pow-suc 2 (suc d))))
      go true false a b f r =
          r
          ∙ same-leb (2 ^ suc d) (h % 2 ^ suc d + c % 2 ^ suc d) (2 ^ suc (suc d)) (h % 2 ^ suc (suc d) + c % 2 ^ suc (suc d))
          (λ k. omega (arith, pow-suc 2 (suc d)))
          (λ k. omega (arith, pow-suc 2 (suc d)))
      go false true a b f r = absurd (false≢true (f refl))
      go false false a b f r =
          sym (lt-leb (2 ^ suc (suc d)) (h % 2 ^ suc (suc d) + c % 2 ^ suc (suc d))
          (omega (arith, pow-suc 2 (suc d), mod-lt h (pow_pos (suc d)), mod-lt c (pow_pos (suc d)))))

  -- at the highest held number nothing is cut off
  carry-top : (e : ℕ) → e < 64 → h < 2 ^ suc e → c ≤ h → meets_clock (member h) (member c) e ≡ leb 2 ((h + c) / 2 ^ e)
  carry-top e l a b =
      let x : h % 2 ^ suc e ≡ h = mod-eq_of_lt a in
      let y : c % 2 ^ suc e ≡ c = mod-eq_of_lt (omega arith) in
      let i = le-div_iff_mul-le {k = 2 ^ e} {x = 2} {y = h + c} (pow_pos e) in
      carry e l
      ∙ same-leb (2 ^ suc e) (h % 2 ^ suc e + c % 2 ^ suc e) 2 ((h + c) / 2 ^ e) (λ k. i.1 (omega (arith, pow-suc 2 e))) (λ k. omega (arith, i.0 k, pow-suc 2 e))

-- h + c does not overflow a word
pub sum_fits : (h c : ℕ) → c < 2 ^ 64 → window_in_order h c ≡ true → h + c < 2 ^ 64
unfolding window_in_order
sum_fits h c l e =
    let a = both_true (eqb (h % 2) 0) _ e in
    let b = both_true (ltb h (2 ^ 32)) _ a.1 in
    let d = both_true (eqb (difference 64 c h) 0) _ b.1 in
    let s : c ≤ h = within-le 64 c h l (within 64 c h (eqb-true (difference 64 c h) 0 d.0)) in
    omega (arith, ltb-true h (2 ^ 32) b.0)

-- ---- what the tests say of the words

record Words (h c e n : ℕ) : Type 0 where
  low : member h 0 ≡ false
  window : (d : ℕ) → d < 64 → 32 ≤ d → member h d ≡ false
  on-held : (d : ℕ) → d < 64 → member c d ≡ true → member h d ≡ true
  apart : (d : ℕ) → suc d < 64 → member c d ≡ true → member c (suc d) ≡ false
  none : h ≡ 0 → n ≡ 0
  in_field : h ≢ 0 → n < 64
  top-held : h ≢ 0 → member h e ≡ true
  furthest : h ≢ 0 → (d : ℕ) → d < 64 → e < d → member h d ≡ false
  met : h ≢ 0 → meets_clock (member h) (member c) e ≡ true

module _ (h c e n : ℕ) (hh : h < 2 ^ 64) (hc : c < 2 ^ 64) (he : e < 64) where
  -- the tests on HSNR where something is held
  record Some : Type 0 where
    field-test : n < 64
    top-test : h / 2 ^ e ≡ 1
    carry-test : leb 2 ((h + c) / 2 ^ e) ≡ true

  some : hsnr_in_order h c e n ≡ true → h ≢ 0 → Some
  unfolding hsnr_in_order
  some g z =
      let r : (in_field 64 n && (eqb (h / 2 ^ e) 1 && leb 2 ((h + c) / 2 ^ e))) ≡ true =
      sym (ap (λ (b : Bool). cond b (eqb n 0) (in_field 64 n && (eqb (h / 2 ^ e) 1 && leb 2 ((h + c) / 2 ^ e)))) (ne_eqb h 0 z)) ∙ g in
      let a = both_true (in_field 64 n) _ r in
      let b = both_true (eqb (h / 2 ^ e) 1) _ a.1 in
      record { field-test = ltb-true n 64 a.0; top-test = eqb-true (h / 2 ^ e) 1 b.0; carry-test = b.1 }

  none-zero : hsnr_in_order h c e n ≡ true → h ≡ 0 → n ≡ 0
  unfolding hsnr_in_order
  none-zero g z =
      eqb-true n 0 (sym (ap (λ (b : Bool). cond b (eqb n 0) (in_field 64 n && (eqb (h / 2 ^ e) 1 && leb 2 ((h + c) / 2 ^ e)))) (eq-eqb h 0 z)) ∙ g)

  from-tests : window_in_order h c ≡ true → hsnr_in_order h c e n ≡ true → Words h c e n
  unfolding window_in_order
  from-tests w g =
      let w1 = both_true (eqb (h % 2) 0) _ w in
      let w2 = both_true (ltb h (2 ^ 32)) _ w1.1 in
      let w3 = both_true (eqb (difference 64 c h) 0) _ w2.1 in
      let lowest : member h 0 ≡ false = member-bit h 0 0 (bit-zero h ∙ eqb-true (h % 2) 0 w1.0) in
      let sub = within 64 c h (eqb-true (difference 64 c h) 0 w3.0) in
      record {
        low = lowest;
        window = λ d l k. member-past 32 h d (ltb-true h (2 ^ 32) w2.0) k;
        on-held = sub;
        apart = apart 64 c (eqb-true (bit_and c (c * 2 % 2 ^ 64)) 0 w3.1);
        none = none-zero g;
        in_field = λ z. (some g z).field-test;
        top-held = λ z. top-member h e (some g z).top-test;
        furthest = λ z d l k. member-past (suc e) h d (top_lt h e (some g z).top-test) k;
        met = λ z. carry-top h c lowest sub e he (top_lt h e (some g z).top-test) (within-le 64 c h hc sub) ∙ (some g z).carry-test;
      }

  window-tested : Words h c e n → window_in_order h c ≡ true
  unfolding window_in_order
  window-tested w =
      both _ _ (eq-eqb (h % 2) 0 (low_digit h ∙ ap digit w.low))
      (both _ _ (lt-ltb h (2 ^ 32) (below 64 h 32 hh w.window))
      (both _ _ (eq-eqb (difference 64 c h) 0 (within_none 64 c h w.on-held)) (eq-eqb (bit_and c (c * 2 % 2 ^ 64)) 0 (apart_none 64 c hc w.apart))))

  hsnr-tested : Words h c e n → hsnr_in_order h c e n ≡ true
  unfolding hsnr_in_order
  hsnr-tested w = go (eqb h 0) refl
    where
      go : (b : Bool) → eqb h 0 ≡ b → cond b (eqb n 0) (in_field 64 n && (eqb (h / 2 ^ e) 1 && leb 2 ((h + c) / 2 ^ e))) ≡ true
      go true q = eq-eqb n 0 (w.none (eqb-true h 0 q))
      go false q =
          let z : h ≢ 0 = eqb-false h 0 q in
          let small : h < 2 ^ suc e = below 64 h (suc e) hh (λ d l k. w.furthest z d l k) in
          both _ _ (lt-ltb n 64 (w.in_field z))
          (both _ _ (eq-eqb (h / 2 ^ e) 1 (top h e (w.top-held z) small))
          (sym (carry-top h c w.low w.on-held e he small (within-le 64 c h hc w.on-held)) ∙ w.met z))

-- ---- the words of a state

module _ (s : Resequencer) where
  abbrev h : ℕ
  h = rotate 64 s.held s.nesn.0

  abbrev c : ℕ
  c = rotate 64 s.clocks s.nesn.0

  abbrev e : ℕ
  e = ahead s s.hsnr.0

  held_at : (d : ℕ) → d < 64 → member h d ≡ is_held s (number_at s d)
  held_at d l = member-rotate 64 s.held s.nesn.0 d l

  clock-at : (d : ℕ) → d < 64 → member c d ≡ has_clock s (number_at s d)
  clock-at d l = member-rotate 64 s.clocks s.nesn.0 d l

  h-lt : h < 2 ^ 64
  h-lt = rotate-lt 64 s.held s.nesn.0

  c_lt : c < 2 ^ 64
  c_lt = rotate-lt 64 s.clocks s.nesn.0

  e-lt : e < 64
  e-lt = distance-lt 64 (lit< tt) s.nesn.0 s.hsnr.0

  same_meets : meets_clock (member h) (member c) e ≡ clock_below_hsnr s
  same_meets =
      meets-same (member h) (member c) (λ d. is_held s (number_at s d)) (λ d. has_clock s (number_at s d)) e (λ k l. held_at k (omega (arith, e-lt))) (λ k l. clock-at k (omega (arith, e-lt)))

  none-turned : s.held ≡ 0 → h ≡ 0
  none-turned z = empty 64 h h-lt (λ d l. held_at d l ∙ ap (λ (w : ℕ). member w (number_at s d)) z ∙ member-none (number_at s d))

  none-held : s.held < 2 ^ 64 → h ≡ 0 → s.held ≡ 0
  none-held fit z =
      empty 64 s.held fit (λ n l.
      ap (is_held s) (sym (number-ahead s n l)) ∙ sym (held_at (ahead s n) (distance-lt 64 (lit< tt) s.nesn.0 n))
      ∙ ap (λ (w : ℕ). member w (ahead s n)) z ∙ member-none (ahead s n))

  module _ (fit : s.held < 2 ^ 64) where
    ordered : s.nesn.0 < 64 → Words h c e s.hsnr.0 → tickets_of_held s ≡ true → InOrder s
    unfolding tickets_of_held
    ordered n w t = record {
      nesn-lt = n;
      window = in_window;
      on-held = clocks-held;
      apart = λ d k. ap (has_clock s) (next d) ∙ alone (d % 64) (mod-lt d (lit< tt)) (ap (has_clock s) (around s d) ∙ k);
      idle = λ z. w.none (none-turned z);
      hsnr-held = λ z.
          let q : h ≢ 0 = λ y. z (none-held fit y) in
          ap (is_held s) (sym (number-ahead s s.hsnr.0 (w.in_field q))) ∙ sym (held_at e e-lt) ∙ w.top-held q;
      furthest = λ z d l k. elim (dec_lt e d) [
        | yes a ↦ absurd (true≢false (sym k ∙ sym (held_at d l) ∙ w.furthest (λ y. z (none-held fit y)) d l a))
        | no a ↦ omega arith
      ];
      clock-met = λ z. sym same_meets ∙ w.met (λ y. z (none-held fit y));
      tickets = λ m l k. eqb-true (ticket_of s m) 0 (implied (not (is_held s m)) _ (every-at 64 _ t m l) (ap not k));
    }
      where
        in_window : (d : ℕ) → d < 64 → is_held s (number_at s d) ≡ true → (1 ≤ d) × (d ≤ 31)
        in_window zero l k = absurd (true≢false (sym k ∙ sym (held_at 0 l) ∙ w.low))
        in_window (suc d) l k = elim (dec_lt (suc d) 32) [
          | yes a ↦ (omega arith, omega arith)
          | no a ↦ absurd (true≢false (sym k ∙ sym (held_at (suc d) l) ∙ w.window (suc d) l (omega arith)))
        ]

        clocks-held : (d : ℕ) → has_clock s (number_at s d) ≡ true → is_held s (number_at s d) ≡ true
        clocks-held d k =
            let l : d % 64 < 64 = mod-lt d (lit< tt) in
            ap (is_held s) (sym (around s d)) ∙ sym (held_at (d % 64) l)
            ∙ w.on-held (d % 64) l (clock-at (d % 64) l ∙ ap (has_clock s) (around s d) ∙ k)

        -- distance 64 is distance 0 again: its neighbour 63 has no clock, as nothing is held there
        alone : (d : ℕ) → d < 64 → has_clock s (number_at s d) ≡ true → has_clock s (number_at s (suc d)) ≡ false
        alone d l k = elim (dec_lt (suc d) 64) [
          | yes a ↦ sym (clock-at (suc d) a) ∙ w.apart d a (clock-at d l ∙ k)
          | no a ↦ absurd (true≢false (sym (clocks-held d k) ∙ sym (held_at d l) ∙ w.window d l (omega arith)))
        ]

        next : (d : ℕ) → number_at s (suc d) ≡ number_at s (suc (d % 64))
        next d = omega arith

    words : InOrder s → Words h c e s.hsnr.0
    words o = record {
      low = held_at 0 (lit< tt) ∙ not-held 0 (lit< tt) (λ k. omega (arith, (o.window 0 (lit< tt) k).0));
      window = λ d l k. held_at d l ∙ not-held d l (λ q. omega (arith, (o.window d l q).1));
      on-held = λ d l k. held_at d l ∙ o.on-held d (sym (clock-at d l) ∙ k);
      apart = λ d l k. clock-at (suc d) l ∙ o.apart d (sym (clock-at d (omega arith)) ∙ k);
      none = λ z. o.idle (none-held fit z);
      in_field = in_field;
      top-held = λ z. held_at e e-lt ∙ ap (is_held s) (number-ahead s s.hsnr.0 (in_field z)) ∙ o.hsnr-held (some-held z);
      furthest = λ z d l k. held_at d l ∙ not-held d l (λ q. omega (arith, o.furthest (some-held z) d l q));
      met = λ z. same_meets ∙ o.clock-met (some-held z);
    }
      where
        -- a number whose being held is contradictory is not held
        not-held : (d : ℕ) → d < 64 → (is_held s (number_at s d) ≡ true → ⊥) → is_held s (number_at s d) ≡ false
        not-held d l f = go (is_held s (number_at s d)) f
          where
            go : (b : Bool) → (b ≡ true → ⊥) → b ≡ false
            go true f = absurd (f refl)
            go false f = refl

        some-held : h ≢ 0 → s.held ≢ 0
        some-held z y = z (none-turned y)

        in_field : h ≢ 0 → s.hsnr.0 < 64
        in_field z = elim (dec_lt s.hsnr.0 64) [
          | yes a ↦ a
          | no a ↦ absurd (true≢false (sym (o.hsnr-held (some-held z)) ∙ member-past 64 s.held s.hsnr.0 fit (omega arith)))
        ]

    -- the tests together are good order
    pub decided : in_order s ≡ (in_field 64 s.nesn.0 && (window_in_order h c && (hsnr_in_order h c e s.hsnr.0 && tickets_of_held s)))
    decided =
        same_test (in_order s) _
        (λ t.
        let o = in_order_lem s t in
        let w = words o in
        both _ _ (lt-ltb s.nesn.0 64 o.nesn-lt)
        (both _ _ (window-tested h c e s.hsnr.0 h-lt c_lt e-lt w) (both _ _ (hsnr-tested h c e s.hsnr.0 h-lt c_lt e-lt w) (tickets-tested o))))
        (λ t.
        let a = both_true (in_field 64 s.nesn.0) _ t in
        let b = both_true (window_in_order h c) _ a.1 in
        let d = both_true (hsnr_in_order h c e s.hsnr.0) _ b.1 in
        good-order s (ordered (ltb-true s.nesn.0 64 a.0) (from-tests h c e s.hsnr.0 h-lt c_lt e-lt b.0 d.0) d.1))
      where
        tickets-tested : InOrder s → tickets_of_held s ≡ true
        tickets-tested o = unfold tickets_of_held in every-all 64 _ (λ n l. implication (not (is_held s n)) _ (λ k. eq-eqb (ticket_of s n) 0 (o.tickets n l (not-true (is_held s n) k))))

    -- the same, for the results of the code's calls
    pub decided-by : (x y d : ℕ) (f w g t : Bool) → x ≡ h → y ≡ c → d ≡ e → f ≡ in_field 64 s.nesn.0 → w ≡ window_in_order x y → g ≡ hsnr_in_order x y d s.hsnr.0
        → t ≡ every 64 (ticket_fits s.held s.tickets) → in_order s ≡ (f && (w && (g && t)))
    unfolding tickets_of_held ticket_fits
    decided-by x y d f w g t ex ey ed ef ew eg et =
        let w' : window_in_order h c ≡ w = sym (ew ∙ ap₂ window_in_order ex ey) in
        let g' : hsnr_in_order h c e s.hsnr.0 ≡ g = sym (eg ∙ ap₂ (λ (a b : ℕ). hsnr_in_order a b d s.hsnr.0) ex ey ∙ ap (λ (a : ℕ). hsnr_in_order h c a s.hsnr.0) ed) in
        decided
        ∙ ap₂ (λ (a b : Bool). a && (b && (hsnr_in_order h c e s.hsnr.0 && tickets_of_held s))) (sym ef) w'
        ∙ ap₂ (λ (a b : Bool). f && (w && (a && b))) g' (sym et)
