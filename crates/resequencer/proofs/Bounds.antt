-- By how much NESN goes up: in good order by at most 32.
-- Assumes nothing.
use mathlib.Core.Path.{◌≡◌, refl, sym, ap, ◌∙◌, subst}
use mathlib.Core.Bool.{Bool, true, false, not}
use Prim.Native.Nat.{ℕ, suc, ◌+◌, ◌-◌, ◌%◌, ◌≤◌, ◌<◌}
use native.Mathlib.Omega.{arith}
use lib.Dec.{lit<}
use Rattle.sequence.proofs.Modular.{distance-lt}
use Rattle.wordset.specs.Sets.{member, run}
use Rattle.wordset.proofs.Sets.{first-most}
use Rattle.resequencer.specs.declared.Resequencer.{Resequencer}
use Rattle.resequencer.specs.State.{is_held, has_clock, ahead, number_at}
use Rattle.resequencer.specs.Events.{run_after_nesn, passed_by_clock}
use Rattle.resequencer.proofs.Order.{InOrder, number-ahead, next-number}

module _ (s : Resequencer) (o : InOrder s) where
  -- nothing outside the window is held
  pub past-window : (d : ℕ) → d < 64 → 31 < d → is_held s (number_at s d) ≡ false
  past-window d l k = go (is_held s (number_at s d)) refl
    where
      go : (b : Bool) → is_held s (number_at s d) ≡ b → b ≡ false
      go true e = absurd (omega (arith, (o.window d l e).1))
      go false e = refl

  -- a run after a number of the window ends in the window
  pub run-bound : (d : ℕ) → d ≤ 31 → d + run 64 s.held (number_at s (suc d)) ≤ 31
  run-bound d h =
      let place : (number_at s (suc d) + (31 - d)) % 64 ≡ number_at s 32 = omega arith in
      let stop : run 64 s.held (number_at s (suc d)) ≤ 31 - d =
      first-most 64 (λ j. not (member s.held ((number_at s (suc d) + j) % 64))) (31 - d)
      (ap (λ (n : ℕ). not (member s.held n)) place ∙ ap not (past-window 32 (lit< tt) (omega arith))) in
      omega arith

  pub run-after-bound : run_after_nesn s ≤ 31
  unfolding run_after_nesn
  run-after-bound = omega (arith, run-bound 0 (omega arith))

  -- a number whose clock runs is at distance 1 to 31
  pub clock-window : (n : ℕ) → n < 64 → has_clock s n ≡ true → (1 ≤ ahead s n) × (ahead s n ≤ 31)
  clock-window n l t =
      o.window (ahead s n) (distance-lt 64 (lit< tt) s.nesn.0 n)
      (o.on-held (ahead s n) (ap (has_clock s) (number-ahead s n l) ∙ t))

  pub passed-bound : (n : ℕ) → n < 64 → has_clock s n ≡ true → passed_by_clock s n ≤ 32
  unfolding passed_by_clock
  passed-bound n l t =
      let after : number_at s (suc (ahead s n)) ≡ (n + 1) % 64 = sym (next-number s (ahead s n)) ∙ ap (λ (x : ℕ). (x + 1) % 64) (number-ahead s n l) in
      let b : ahead s n + run 64 s.held ((n + 1) % 64) ≤ 31 =
      subst (λ (x : ℕ). ahead s n + run 64 s.held x ≤ 31) after (run-bound (ahead s n) (clock-window n l t).1) in
      omega arith
