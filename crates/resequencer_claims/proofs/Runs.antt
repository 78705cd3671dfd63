-- By how much NESN goes up on the arrival of NESN and on a clock end: runs of held numbers in a
-- state in good order.
-- Assumes nothing.
use mathlib.Core.Path.{◌≡◌, refl, sym, ap, ap₂, ◌∙◌}
use mathlib.Core.Bool.{Bool, true, false, not}
use mathlib.Core.List.{◌∷◌}
use Prim.Native.Nat.{ℕ, suc, ◌+◌, ◌%◌, ◌≤◌, ◌<◌, zero-le}
use native.Mathlib.Nat.{mod-add-mod}
use native.Mathlib.Numerals.{add-one}
use native.Mathlib.Omega.{arith}
use borrow.Author.Tests.{not-true, not-false}
use Rattle.wordset.specs.Sets.{member, first, run}
use Rattle.wordset.proofs.Sets.{first-picked, first-least}
use Rattle.resequencer.specs.declared.Resequencer.{Resequencer}
use Rattle.resequencer.specs.State.{is_held, has_clock, ahead, number_at}
use Rattle.resequencer.specs.Events.{hand_on, advance, held_tickets, run_after_nesn, hand_on_run, passed_by_clock, take_clock_end}
use Rattle.resequencer.proofs.Order.{number-ahead, next-number}
use Rattle.resequencer.proofs.Bounds.{run-bound, clock-window}
use Rattle.resequencer_claims.proofs.Places.{held_at}
use Rattle.resequencer_claims.proofs.Order.{Ordered, facts}

-- ---- runs of held numbers: r numbers starting at distance a are held, and the next one is not

pub record RunFrom (s : Resequencer) (a r : ℕ) : Type 0 where
  pub all : (j : ℕ) → j < r → held_at s (a + j) ≡ true
  pub stop : held_at s (a + r) ≡ false
  pub most : a + r ≤ 32

abbrev free_from : Resequencer → ℕ → ℕ → Bool
free_from s a j = not (member s.held ((number_at s a + j) % 64))

-- in good order, a run after a number of the window ends in the window
pub run-after : (s : Resequencer) → Ordered s → (d : ℕ) → d ≤ 31 → RunFrom s (suc d) (run 64 s.held (number_at s (suc d)))
run-after s o d h = record {
  all = λ j l. not-false (held_at s (suc d + j)) (sym (place j) ∙ first-least 64 (free_from s (suc d)) j l);
  stop =
      not-true (held_at s (suc d + first 64 (free_from s (suc d))))
      (sym (place (first 64 (free_from s (suc d)))) ∙ first-picked 64 (free_from s (suc d)) (omega (arith, short)));
  most = omega (arith, short);
}
  where
    place : (j : ℕ) → free_from s (suc d) j ≡ not (held_at s (suc d + j))
    place j = ap (λ (n : ℕ). not (is_held s n)) (mod-add-mod (s.nesn.0 + suc d) 64 j ∙ ap (λ (x : ℕ). x % 64) (omega arith))

    short : d + first 64 (free_from s (suc d)) ≤ 31
    short = run-bound s (facts s o) d h

-- ---- the expected number arrives

pub record RunPasses (s : Resequencer) (ticket : ℕ) : Type 0 where
  pub length : ℕ
  pub run_is : RunFrom s 1 length
  pub taken : hand_on_run s ticket ≡ hand_on (ticket ∷ held_tickets s 1 length) (advance s (length + 1))

pub run-passes : (s : Resequencer) → Ordered s → (ticket : ℕ) → RunPasses s ticket
unfolding hand_on_run run_after_nesn
run-passes s o ticket = record { length = run 64 s.held (number_at s 1); run_is = run-after s o 0 zero-le; taken = refl }

-- ---- the clock of n ends: NESN goes past n and past the run after n

pub record ClockPasses (s : Resequencer) (n : ℕ) : Type 0 where
  pub distance : ℕ
  pub at : number_at s distance ≡ n
  pub near : distance ≤ 31
  pub length : ℕ
  pub run_is : RunFrom s (suc distance) length
  pub taken : take_clock_end s n ≡ hand_on (held_tickets s 0 (suc distance + length)) (advance s (suc distance + length))

pub clock-passes : (s : Resequencer) → Ordered s → (n : ℕ) → n < 64 → has_clock s n ≡ true → ClockPasses s n
clock-passes s o n l on =
    let d : ℕ = ahead s n in
    let at : number_at s d ≡ n = number-ahead s n l in
    let near : d ≤ 31 = (clock-window s (facts s o) n l on).1 in
    record {
      distance = d;
      at = at;
      near = near;
      length = run 64 s.held (number_at s (suc d));
      run_is = run-after s o d near;
      taken = told (ap (λ (x : ℕ). (x + 1) % 64) (sym at) ∙ next-number s d);
    }
  where
    told : (n + 1) % 64 ≡ number_at s (suc (ahead s n))
        → take_clock_end s n
        ≡ hand_on (held_tickets s 0 (suc (ahead s n) + run 64 s.held (number_at s (suc (ahead s n))))) (advance s (suc (ahead s n) + run 64 s.held (number_at s (suc (ahead s n)))))
    told p =
        (unfold take_clock_end passed_by_clock in
        ap₂ (λ (x y : ℕ). hand_on (held_tickets s 0 (x + run 64 s.held y)) (advance s (x + run 64 s.held y))) (add-one (ahead s n)) p)
