-- Two states that differ only in their tickets (twins) still do so after the same event, whatever
-- tickets arrive.
-- Assumes nothing.
use mathlib.Core.Path.{◌≡◌, refl, sym, ap, ◌∙◌, subst}
use mathlib.Core.Bool.{Bool, true, false, cond}
use mathlib.Core.List.{List}
use Prim.Native.Nat.{ℕ}
use lib.Dec.{eqb, ltb}
use lib.ListN.{set}
use Rattle.refusal.specs.declared.Refusal.TheVariants.{OutOfRange, NoClock}
use Rattle.refusal.specs.Numbers.{check, Verdict}
use Rattle.sequence.specs.Numbers.{in_field}
use Rattle.resequencer.specs.declared.Resequencer.{Resequencer}
use Rattle.resequencer.specs.declared.Answer.{Answer}
use Rattle.resequencer.specs.State.{is_held, has_clock, ahead, in_order}
use Rattle.resequencer.specs.Events.{plain, hand_on, remaining, advance, starts_clock, hold, run_after_nesn, hand_on_run, take_arrival, arrive_verdict, arrive_by, arrive_of, passed_by_clock, take_clock_end, clock_end_verdict, clock_end_by, clock_end_of}
use Rattle.resequencer_claims.proofs.Answers.{next-plain, next-hand_on}
use Rattle.resequencer.specs.declared.Outcome.{Outcome}
use Rattle.resequencer.specs.declared.Outcome.TheVariants.{Held, Old, Duplicate}
use Rattle.std.specs.Prelude.{Result, Ok, Err}
use Rattle.refusal.specs.declared.Refusal.{Refusal}

-- the state with other tickets
abbrev pub retag : Resequencer → List ℕ → Resequencer
retag s ts = record { nesn = s.nesn; hsnr = s.hsnr; held = s.held; clocks = s.clocks; tickets = ts }

pub record Twins (s u : Resequencer) : Type 0 where
  pub tags : List ℕ
  pub same : u ≡ retag s tags

pub self-twins : (s : Resequencer) → Twins s s
self-twins s = record { tags = s.tickets; same = refl }

-- ---- the states that events lead to

hold-twins : (s : Resequencer) (ts : List ℕ) (n t x : ℕ) → Twins (hold s n t) (hold (retag s ts) n x)
unfolding hold starts_clock
hold-twins s ts n t x = record { tags = set ts n x; same = refl }

advance-twins : (s : Resequencer) (ts : List ℕ) (m : ℕ) → Twins (advance s m) (advance (retag s ts) m)
unfolding advance remaining
advance-twins s ts m = record { tags = (advance (retag s ts) m).tickets; same = refl }

-- ---- answers whose next states are twins

abbrev NextTwins : Answer → Answer → Type 0
NextTwins a b = Twins a.next b.next

plain-twins : (o p : (Result Outcome Refusal)) (s u : Resequencer) → Twins s u → NextTwins (plain o s) (plain p u)
plain-twins o p s u t = record { tags = t.tags; same = next-plain p u ∙ t.same ∙ ap (λ (x : Resequencer). retag x t.tags) (sym (next-plain o s)) }

hand_on-twins : (l k : List ℕ) (s u : Resequencer) → Twins s u → NextTwins (hand_on l s) (hand_on k u)
hand_on-twins l k s u t = record { tags = t.tags; same = next-hand_on k u ∙ t.same ∙ ap (λ (x : Resequencer). retag x t.tags) (sym (next-hand_on l s)) }

cond-twins : (b : Bool) (a c a' c' : Answer) → NextTwins a a' → NextTwins c c' → NextTwins (cond b a c) (cond b a' c')
cond-twins true a c a' c' p q = p
cond-twins false a c a' c' p q = q

module _ (s : Resequencer) (ts : List ℕ) where
  same-sets : Twins s (retag s ts)
  same-sets = record { tags = ts; same = refl }

  run-twins : (t x : ℕ) → NextTwins (hand_on_run s t) (hand_on_run (retag s ts) x)
  unfolding hand_on_run run_after_nesn
  run-twins t x = hand_on-twins _ _ _ _ (advance-twins s ts _)

  take-twins : (n t x : ℕ) → NextTwins (take_arrival s n t) (take_arrival (retag s ts) n x)
  unfolding take_arrival
  take-twins n t x =
      cond-twins (ltb 31 (ahead s n)) _ _ _ _ (plain-twins (Ok Old) (Ok Old) s (retag s ts) same-sets)
      (cond-twins (is_held s n) _ _ _ _ (plain-twins (Ok Duplicate) (Ok Duplicate) s (retag s ts) same-sets)
      (cond-twins (eqb (ahead s n) 0) _ _ _ _ (run-twins t x)
      (plain-twins (Ok Held) (Ok Held) (hold s n t) (hold (retag s ts) n x) (hold-twins s ts n t x))))

  clock-twins : (n : ℕ) → NextTwins (take_clock_end s n) (take_clock_end (retag s ts) n)
  unfolding take_clock_end passed_by_clock
  clock-twins n = hand_on-twins _ _ _ _ (advance-twins s ts _)

  module _ (g : in_order s ≡ true) (h : in_order (retag s ts) ≡ true) where
    arrive-twins : (n t x : ℕ) → NextTwins (arrive_of s n t) (arrive_of (retag s ts) n x)
    unfolding arrive_of arrive_verdict
    arrive-twins n t x = rw (g, h) (go (check (in_field 64 n) OutOfRange (Ok tt)))
      where
        go : (v : Verdict) → NextTwins (arrive_by v s n t) (arrive_by v (retag s ts) n x)
        go (Ok tt) = take-twins n t x
        go (Err why) = plain-twins (Err why) (Err why) s (retag s ts) same-sets

    clock-end-twins : (n : ℕ) → NextTwins (clock_end_of s n) (clock_end_of (retag s ts) n)
    unfolding clock_end_of clock_end_verdict
    clock-end-twins n = rw (g, h) (go (check (in_field 64 n) OutOfRange (check (has_clock s n) NoClock (Ok tt))))
      where
        go : (v : Verdict) → NextTwins (clock_end_by v s n) (clock_end_by v (retag s ts) n)
        go (Ok tt) = clock-twins n
        go (Err why) = plain-twins (Err why) (Err why) s (retag s ts) same-sets

    same_outcome : (n : ℕ) → (clock_end_of s n).outcome ≡ (clock_end_of (retag s ts) n).outcome
    unfolding clock_end_of clock_end_verdict take_clock_end hand_on plain
    same_outcome n = rw (g, h) (go (check (in_field 64 n) OutOfRange (check (has_clock s n) NoClock (Ok tt))))
      where
        go : (v : Verdict) → (clock_end_by v s n).outcome ≡ (clock_end_by v (retag s ts) n).outcome
        go (Ok tt) = refl
        go (Err why) = refl

-- ---- for any twins in good order

pub arrive-like : (s u : Resequencer) (n t x : ℕ) → Twins s u → in_order s ≡ true → in_order u ≡ true → Twins (arrive_of s n t).next (arrive_of u n x).next
arrive-like s u n t x w g h =
    subst (λ (y : Resequencer). Twins (arrive_of s n t).next (arrive_of y n x).next) (sym w.same)
    (arrive-twins s w.tags g (sym (ap in_order w.same) ∙ h) n t x)

pub clock-like : (s u : Resequencer) (n : ℕ) → Twins s u → in_order s ≡ true → in_order u ≡ true → Twins (clock_end_of s n).next (clock_end_of u n).next
clock-like s u n w g h =
    subst (λ (y : Resequencer). Twins (clock_end_of s n).next (clock_end_of y n).next) (sym w.same)
    (clock-end-twins s w.tags g (sym (ap in_order w.same) ∙ h) n)

pub outcome-like : (s u : Resequencer) (n : ℕ) → Twins s u → in_order s ≡ true → in_order u ≡ true → (clock_end_of s n).outcome ≡ (clock_end_of u n).outcome
outcome-like s u n w g h =
    subst (λ (y : Resequencer). (clock_end_of s n).outcome ≡ (clock_end_of y n).outcome) (sym w.same)
    (same_outcome s w.tags g (sym (ap in_order w.same) ∙ h) n)

pub clocks-like : (s u : Resequencer) → Twins s u → (n : ℕ) → has_clock u n ≡ has_clock s n
clocks-like s u w n = ap (λ (y : Resequencer). has_clock y n) w.same
