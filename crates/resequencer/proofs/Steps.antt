-- What an event does to the numbers of a state does not depend on the tickets, and the step that
-- the numbers take, with the tickets, determines the whole answer: `step_answer` equals `arrive_of`
-- and `clock_end_of`.
-- Assumes nothing.
use mathlib.Core.Path.{◌≡◌, refl, sym, ap, ap₂, ◌∙◌, subst}
use mathlib.Core.Bool.{Bool, true, false, not, cond, ◌&&◌, false≢true}
use mathlib.Core.List.{List, [], ◌∷◌, ◌++◌}
use Prim.Native.Nat.{ℕ, ◌+◌, ◌-◌, ◌%◌, ◌≤◌, ◌<◌}
use native.Mathlib.Omega.{arith}
use lib.Dec.{ltb, eqb, lit<}
use lib.ListN.{length, set, replicate, get_or-replicate}
use borrow.Author.Tests.{eq-eqb}
use Rattle.refusal.specs.declared.Refusal.{Refusal}
use Rattle.refusal.specs.declared.Refusal.TheVariants.{OutOfRange, NoClock, NotInOrder}
use Rattle.refusal.specs.Numbers.{check, Verdict}
use Rattle.refusal.proofs.Checks.{check_done}
use Rattle.sequence.specs.declared.LinkNumber.{LinkNumber}
use Rattle.sequence.specs.Modular.{distance}
use Rattle.sequence.specs.Numbers.{in_field}
use Rattle.sequence.proofs.Modular.{distance-at}
use Rattle.wordset.specs.Sets.{member, every}
use Rattle.wordset.proofs.Sets.{every-all}
use Rattle.resequencer.specs.declared.Resequencer.{Resequencer}
use Rattle.resequencer.specs.declared.Numbers.{Numbers}
use Rattle.resequencer.specs.declared.Step.{Step}
use Rattle.resequencer.specs.declared.Answer.{Answer}
use Rattle.resequencer.specs.State.{is_held, has_clock, ahead, implies, nothing_held, hsnr_idle, clock_below_hsnr, held_in_window, clocks_on_held, clocks_apart, hsnr_furthest, tickets_of_held, in_order}
use Rattle.resequencer.specs.Events.{plain, places, hand_on, remaining, advance, held_tickets, starts_clock, hold, run_after_nesn, hand_on_run, take_arrival, arrive_verdict, arrive_by, arrive_of, passed_by_clock, take_clock_end, clock_end_verdict, clock_end_by, clock_end_of}
use Rattle.resequencer.specs.Parts.{ticket_fits, tickets_left, arrived_tickets, held_tickets_from}
use Rattle.resequencer.specs.Numbers.{numbers_of, bare, step_by, arrive_step, clock_end_step, hands_on, holds, StepFits, step_tickets, step_state, step_answer}
use Rattle.resequencer.proofs.Order.{implication, in_order_lem}
use Rattle.resequencer.proofs.Bounds.{run-after-bound, passed-bound}
use Rattle.resequencer.proofs.Handing.{held-from}
use Rattle.resequencer.proofs.Cases.{arrive-done, arrive-refused, arrive-passed, end-done, end_refused, end-passed}
use Rattle.resequencer.specs.declared.Outcome.{Outcome}
use Rattle.resequencer.specs.declared.Outcome.TheVariants.{Held, HandedOn, Old, Duplicate}
use Rattle.std.specs.Prelude.{Result, Ok, Err}

-- ---- good order

-- tickets of 0 fit any numbers
pub bare-fits : (held : ℕ) → every 64 (ticket_fits held (replicate 64 0)) ≡ true
unfolding ticket_fits
bare-fits held = every-all 64 _ (λ n l. implication (not (member held n)) _ (λ t. eq-eqb _ 0 (get_or-replicate 64 n 0 0 l)))

bare-tickets : (m : Numbers) → tickets_of_held (bare m) ≡ true
unfolding tickets_of_held ticket_fits
bare-tickets m = bare-fits m.held

pub and-true : (b : Bool) → (b && true) ≡ b
and-true true = refl
and-true false = refl

-- a state is in good order exactly if its numbers are and its tickets fit them
pub good-split : (s : Resequencer) → in_order s ≡ (tickets_of_held s && in_order (bare (numbers_of s)))
unfolding in_order held_in_window clocks_on_held clocks_apart hsnr_furthest
good-split s =
    split (hsnr_idle s) (in_field 64 s.nesn.0) (held_in_window s) (clocks_on_held s) (clocks_apart s) (implies (not (nothing_held s)) (hsnr_furthest s && clock_below_hsnr s)) (tickets_of_held s) (tickets_of_held (bare (numbers_of s))) (bare-tickets (numbers_of s))
  where
    split : (a b c d e f t u : Bool) → u ≡ true → (a && (b && (c && (d && (e && (f && t)))))) ≡ (t && (a && (b && (c && (d && (e && (f && u)))))))
    split true true true true true true true u q = sym q
    split true true true true true true false u q = refl
    split true true true true true false true u q = refl
    split true true true true true false false u q = refl
    split true true true true false f true u q = refl
    split true true true true false f false u q = refl
    split true true true false e f true u q = refl
    split true true true false e f false u q = refl
    split true true false d e f true u q = refl
    split true true false d e f false u q = refl
    split true false c d e f true u q = refl
    split true false c d e f false u q = refl
    split false b c d e f true u q = refl
    split false b c d e f false u q = refl

-- the same, for the tests that the code makes
pub order-told : (s : Resequencer) (t g : Bool) → t ≡ every 64 (ticket_fits s.held s.tickets) → t ≡ true → g ≡ in_order (bare (numbers_of s)) → g ≡ in_order s
unfolding ticket_fits tickets_of_held
order-told s t g e q r = r ∙ sym (good-split s ∙ ap (λ (b : Bool). b && in_order (bare (numbers_of s))) (sym e ∙ q))

pub order-stray : (s : Resequencer) (t : Bool) → t ≡ every 64 (ticket_fits s.held s.tickets) → t ≡ false → t ≡ in_order s
unfolding ticket_fits tickets_of_held
order-stray s t e q = q ∙ sym (good-split s ∙ ap (λ (b : Bool). b && in_order (bare (numbers_of s))) (sym e ∙ q))

-- ---- the parts of an answer

module _ (s : Resequencer) where
  stays : (o : Result Outcome Refusal) (d n ticket : ℕ) → hands_on o ≡ false → holds o ≡ false → step_answer s (step_by (numbers_of s) (plain o (bare (numbers_of s)))) d n ticket ≡ plain o s
  unfolding step_answer step_tickets step_state step_by plain places
  stays o d n ticket h k = rw (h, k)

-- ---- steps as the code makes them

pub still : (m : Numbers) (o : Result Outcome Refusal) → ◌≡◌ {A = Step} (record { outcome = o; next = m; passed = 0 }) (step_by m (plain o (bare m)))
unfolding step_by plain distance
still m o =
    let z : 0 ≡ (m.nesn.0 + (64 - m.nesn.0 % 64)) % 64 = omega arith in
    ap (λ (k : ℕ). record { outcome = o; next = m; passed = k }) z

pub held-step : (m : Numbers) (n : ℕ) (hsnr : LinkNumber) (held clocks : ℕ) → hsnr ≡ (hold (bare m) n 0).hsnr → held ≡ (hold (bare m) n 0).held → clocks ≡ (hold (bare m) n 0).clocks
    → ◌≡◌ {A = Step} (record { outcome = (Ok Held); next = record { nesn = m.nesn; hsnr = hsnr; held = held; clocks = clocks }; passed = 0 }) (step_by m (plain (Ok Held) (hold (bare m) n 0)))
unfolding step_by plain hold distance
held-step m n hsnr held clocks h w c =
    let z : 0 ≡ (m.nesn.0 + (64 - m.nesn.0 % 64)) % 64 = omega arith in
    ap₂ (λ (x : LinkNumber) (y : ℕ). step x y clocks 0) h w ∙ ap₂ (λ (x k : ℕ). step (hold (bare m) n 0).hsnr (hold (bare m) n 0).held x k) c z
  where
    step : LinkNumber → ℕ → ℕ → ℕ → Step
    step x y u k = record { outcome = (Ok Held); next = record { nesn = m.nesn; hsnr = x; held = y; clocks = u }; passed = k }

pub pass_step : (m : Numbers) (k : ℕ) (next : Numbers) → k < 64 → next ≡ numbers_of (advance (bare m) k)
    → ◌≡◌ {A = Step} (record { outcome = Ok HandedOn; next = next; passed = k }) (step_by m (hand_on [] (advance (bare m) k)))
unfolding step_by hand_on advance
pass_step m k next l e =
    ap₂ (λ (x : Numbers) (y : ℕ). step x y) e (sym (distance-at 64 (lit< tt) m.nesn.0 k l))
  where
    step : Numbers → ℕ → Step
    step x y = record { outcome = Ok HandedOn; next = x; passed = y }

-- the step is the same whichever tickets are handed on
pub any-tickets : (m : Numbers) (xs ys : List ℕ) (s : Resequencer) → step_by m (hand_on xs s) ≡ step_by m (hand_on ys s)
unfolding step_by hand_on
any-tickets m xs ys s = refl

-- ---- a call by its verdict

pub arrive-step : (fits : Bool) (m : Numbers) (n : ℕ) → arrive_step fits m n ≡ step_by m (arrive_by (check fits NotInOrder (arrive_verdict (bare m) n)) (bare m) n 0)
unfolding arrive_step arrive_of
arrive-step true m n = refl
arrive-step false m n = refl

pub end_step : (fits : Bool) (m : Numbers) (n : ℕ) → clock_end_step fits m n ≡ step_by m (clock_end_by (check fits NotInOrder (clock_end_verdict (bare m) n)) (bare m) n)
unfolding clock_end_step clock_end_of
end_step true m n = refl
end_step false m n = refl

module _ (fits : Bool) (m : Numbers) (n : ℕ) where
  pub arrive-taken : check fits NotInOrder (arrive_verdict (bare m) n) ≡ Ok tt → step_by m (take_arrival (bare m) n 0) ≡ arrive_step fits m n
  arrive-taken e = sym (arrive-step fits m n ∙ ap (λ (v : Verdict). step_by m (arrive_by v (bare m) n 0)) e)

  pub arrive-left : (why : Refusal) → check fits NotInOrder (arrive_verdict (bare m) n) ≡ Err why → step_by m (plain (Err why) (bare m)) ≡ arrive_step fits m n
  arrive-left why e = sym (arrive-step fits m n ∙ ap (λ (v : Verdict). step_by m (arrive_by v (bare m) n 0)) e)

  pub arrive-may : check fits NotInOrder (arrive_verdict (bare m) n) ≡ Ok tt → (in_order (bare m) ≡ true) × (n < 64)
  arrive-may e = arrive-passed (bare m) n (check_done fits _ _ e).1

  pub end-taken : check fits NotInOrder (clock_end_verdict (bare m) n) ≡ Ok tt → step_by m (take_clock_end (bare m) n) ≡ clock_end_step fits m n
  end-taken e = sym (end_step fits m n ∙ ap (λ (v : Verdict). step_by m (clock_end_by v (bare m) n)) e)

  pub end-left : (why : Refusal) → check fits NotInOrder (clock_end_verdict (bare m) n) ≡ Err why → step_by m (plain (Err why) (bare m)) ≡ clock_end_step fits m n
  end-left why e = sym (end_step fits m n ∙ ap (λ (v : Verdict). step_by m (clock_end_by v (bare m) n)) e)

  pub end-may : check fits NotInOrder (clock_end_verdict (bare m) n) ≡ Ok tt → (in_order (bare m) ≡ true) × ((n < 64) × (member m.clocks n ≡ true))
  end-may e = end-passed (bare m) n (check_done fits _ _ e).1

-- ---- by how much NESN goes up

module _ (m : Numbers) where
  pub passed-run : (k : ℕ) → k ≡ run_after_nesn (bare m) → step_by m (hand_on [] (advance (bare m) (k + 1))) ≡ step_by m (hand_on_run (bare m) 0)
  unfolding hand_on_run
  passed-run k e = ap (λ (x : ℕ). step_by m (hand_on [] (advance (bare m) (x + 1)))) e ∙ any-tickets m _ _ _

  pub passed-end : (n k : ℕ) → k ≡ passed_by_clock (bare m) n → step_by m (hand_on [] (advance (bare m) k)) ≡ step_by m (take_clock_end (bare m) n)
  unfolding take_clock_end
  passed-end n k e = ap (λ (x : ℕ). step_by m (hand_on [] (advance (bare m) x))) e ∙ any-tickets m _ _ _

-- ---- every step of an arrival and of a clock end meets `StepFits`

module _ (m : Numbers) (d n ticket : ℕ) (one : d ≤ 1) (none : d ≡ 0 → ticket ≡ 0) where
  quiet : (o : Result Outcome Refusal) (s : Resequencer) → hands_on o ≡ false → (holds o ≡ true → n < 64) → StepFits m.nesn.0 (step_by m (plain o s)) d n ticket
  unfolding step_by plain
  quiet o s h l = record {
    own = one;
    none = none;
    nesn-lt = λ t. absurd (false≢true (sym h ∙ t));
    least = λ t. absurd (false≢true (sym h ∙ t));
    most = λ t. absurd (false≢true (sym h ∙ t));
    number = l;
  }

  passing : (xs : List ℕ) (k : ℕ) → m.nesn.0 < 64 → d ≤ k → k ≤ 32 → StepFits m.nesn.0 (step_by m (hand_on xs (advance (bare m) k))) d n ticket
  unfolding step_by hand_on advance
  passing xs k l a b =
      let e : distance 64 m.nesn.0 ((m.nesn.0 + k) % 64) ≡ k = distance-at 64 (lit< tt) m.nesn.0 k (omega arith) in
      record {
        own = one;
        none = none;
        nesn-lt = λ t. l;
        least = λ t. omega arith;
        most = λ t. omega arith;
        number = λ t. absurd (false≢true t);
      }

pub arrive-fits : (fits : Bool) (m : Numbers) (n ticket : ℕ) → StepFits m.nesn.0 (arrive_step fits m n) 1 n ticket
arrive-fits fits m n ticket = go (check fits NotInOrder (arrive_verdict (bare m) n)) refl
  where
    taken : in_order (bare m) ≡ true → n < 64 → (a h z : Bool)
        → StepFits m.nesn.0 (step_by m (cond a (plain (Ok Old) (bare m)) (cond h (plain (Ok Duplicate) (bare m)) (cond z (hand_on_run (bare m) 0) (plain (Ok Held) (hold (bare m) n 0)))))) 1 n ticket
    taken g l true h z = quiet m 1 n ticket (omega arith) (λ e. absurd (omega arith)) (Ok Old) (bare m) refl (λ t. l)
    taken g l false true z = quiet m 1 n ticket (omega arith) (λ e. absurd (omega arith)) (Ok Duplicate) (bare m) refl (λ t. l)
    taken g l false false true =
        let o = in_order_lem (bare m) g in
        unfold hand_on_run in passing m 1 n ticket (omega arith) (λ e. absurd (omega arith)) _ (run_after_nesn (bare m) + 1) o.nesn-lt (omega arith) (omega (arith, run-after-bound (bare m) o))
    taken g l false false false = quiet m 1 n ticket (omega arith) (λ e. absurd (omega arith)) (Ok Held) (hold (bare m) n 0) refl (λ t. l)

    go : (v : Verdict) → check fits NotInOrder (arrive_verdict (bare m) n) ≡ v → StepFits m.nesn.0 (arrive_step fits m n) 1 n ticket
    go (Ok tt) e =
        subst (λ (s : Step). StepFits m.nesn.0 s 1 n ticket) (arrive-taken fits m n e)
        (let p = arrive-may fits m n e in unfold take_arrival in taken p.0 p.1 (ltb 31 (ahead (bare m) n)) (is_held (bare m) n) (eqb (ahead (bare m) n) 0))
    go (Err why) e =
        subst (λ (s : Step). StepFits m.nesn.0 s 1 n ticket) (arrive-left fits m n why e)
        (quiet m 1 n ticket (omega arith) (λ q. absurd (omega arith)) (Err why) (bare m) refl (λ t. absurd (false≢true t)))

pub end_fits : (fits : Bool) (m : Numbers) (n : ℕ) → StepFits m.nesn.0 (clock_end_step fits m n) 0 n 0
end_fits fits m n = go (check fits NotInOrder (clock_end_verdict (bare m) n)) refl
  where
    go : (v : Verdict) → check fits NotInOrder (clock_end_verdict (bare m) n) ≡ v → StepFits m.nesn.0 (clock_end_step fits m n) 0 n 0
    go (Ok tt) e =
        let p = end-may fits m n e in
        let o = in_order_lem (bare m) p.0 in
        subst (λ (s : Step). StepFits m.nesn.0 s 0 n 0) (end-taken fits m n e)
        (unfold take_clock_end in passing m 0 n 0 (omega arith) (λ q. refl) _ (passed_by_clock (bare m) n) o.nesn-lt (omega arith) (passed-bound (bare m) o n p.1.0 p.1.1))
    go (Err why) e =
        subst (λ (s : Step). StepFits m.nesn.0 s 0 n 0) (end-left fits m n why e)
        (quiet m 0 n 0 (omega arith) (λ q. refl) (Err why) (bare m) refl (λ t. absurd (false≢true t)))

-- ---- the whole answer

module _ (s : Resequencer) where
  abbrev m : Numbers
  m = numbers_of s

  hands : (xs : List ℕ) (k d n ticket : ℕ) → k < 64
      → step_answer s (step_by m (hand_on xs (advance (bare m) k))) d n ticket ≡ hand_on (arrived_tickets d ticket ++ held_tickets s d (k - d)) (advance s k)
  unfolding step_answer step_tickets step_state step_by hand_on advance remaining tickets_left
  hands xs k d n ticket l =
      ap (λ (x : ℕ). step_answer s (record { outcome = Ok HandedOn; next = numbers_of (advance (bare m) k); passed = x }) d n ticket) (distance-at 64 (lit< tt) s.nesn.0 k l)

  hands-run : (n ticket : ℕ) → in_order s ≡ true → step_answer s (step_by m (hand_on_run (bare m) 0)) 1 n ticket ≡ hand_on_run s ticket
  unfolding hand_on_run run_after_nesn
  hands-run n ticket g =
      let e : run_after_nesn s + 1 - 1 ≡ run_after_nesn s = omega arith in
      hands _ (run_after_nesn s + 1) 1 n ticket (omega (arith, run-after-bound s (in_order_lem s g)))
      ∙ ap (λ (k : ℕ). hand_on (ticket ∷ held_tickets s 1 k) (advance s (run_after_nesn s + 1))) e

  ends-whole : (n : ℕ) → in_order s ≡ true → n < 64 → has_clock s n ≡ true → step_answer s (step_by m (take_clock_end (bare m) n)) 0 n 0 ≡ take_clock_end s n
  unfolding take_clock_end passed_by_clock
  ends-whole n g l t =
      let e : passed_by_clock s n - 0 ≡ passed_by_clock s n = omega arith in
      hands _ (passed_by_clock s n) 0 n 0 (omega (arith, passed-bound s (in_order_lem s g) n l t))
      ∙ ap (λ (k : ℕ). hand_on (held_tickets s 0 k) (advance s (passed_by_clock s n))) e

  keeps : (n ticket : ℕ) → step_answer s (step_by m (plain (Ok Held) (hold (bare m) n 0))) 1 n ticket ≡ plain (Ok Held) (hold s n ticket)
  unfolding step_answer step_tickets step_state step_by plain hold starts_clock places
  keeps n ticket = refl

  taken-whole : (n ticket : ℕ) → in_order s ≡ true → step_answer s (step_by m (take_arrival (bare m) n 0)) 1 n ticket ≡ take_arrival s n ticket
  unfolding take_arrival
  taken-whole n ticket g = go (ltb 31 (ahead s n)) (is_held s n) (eqb (ahead s n) 0)
    where
      go : (a h z : Bool)
          → step_answer s (step_by m (cond a (plain (Ok Old) (bare m)) (cond h (plain (Ok Duplicate) (bare m)) (cond z (hand_on_run (bare m) 0) (plain (Ok Held) (hold (bare m) n 0)))))) 1 n ticket
          ≡ cond a (plain (Ok Old) s) (cond h (plain (Ok Duplicate) s) (cond z (hand_on_run s ticket) (plain (Ok Held) (hold s n ticket))))
      go true h z = stays s (Ok Old) 1 n ticket refl refl
      go false true z = stays s (Ok Duplicate) 1 n ticket refl refl
      go false false true = hands-run n ticket g
      go false false false = keeps n ticket

  -- if the tickets fit, the verdict on the numbers is the verdict on the state
  same-order : tickets_of_held s ≡ true → in_order s ≡ in_order (bare m)
  same-order t = good-split s ∙ ap (λ (b : Bool). b && in_order (bare m)) t

  no-order : tickets_of_held s ≡ false → in_order s ≡ false
  no-order t = good-split s ∙ ap (λ (b : Bool). b && in_order (bare m)) t

  same-arrive : (n : ℕ) → tickets_of_held s ≡ true → arrive_verdict s n ≡ arrive_verdict (bare m) n
  unfolding arrive_verdict
  same-arrive n t = ap (λ (g : Bool). check g NotInOrder (check (in_field 64 n) OutOfRange (Ok tt))) (same-order t)

  bad-arrive : (n : ℕ) → tickets_of_held s ≡ false → arrive_verdict s n ≡ Err NotInOrder
  unfolding arrive_verdict
  bad-arrive n t = ap (λ (g : Bool). check g NotInOrder (check (in_field 64 n) OutOfRange (Ok tt))) (no-order t)

  same_end : (n : ℕ) → tickets_of_held s ≡ true → clock_end_verdict s n ≡ clock_end_verdict (bare m) n
  unfolding clock_end_verdict
  same_end n t = ap (λ (g : Bool). check g NotInOrder (check (in_field 64 n) OutOfRange (check (has_clock s n) NoClock (Ok tt)))) (same-order t)

  bad-end : (n : ℕ) → tickets_of_held s ≡ false → clock_end_verdict s n ≡ Err NotInOrder
  unfolding clock_end_verdict
  bad-end n t = ap (λ (g : Bool). check g NotInOrder (check (in_field 64 n) OutOfRange (check (has_clock s n) NoClock (Ok tt)))) (no-order t)

  pub arrive-whole : (n ticket : ℕ) → step_answer s (arrive_step (tickets_of_held s) m n) 1 n ticket ≡ arrive_of s n ticket
  arrive-whole n ticket = go (tickets_of_held s) refl
    where
      by-verdict : tickets_of_held s ≡ true → (v : Verdict) → arrive_verdict s n ≡ v → step_answer s (arrive_step true m n) 1 n ticket ≡ arrive_of s n ticket
      by-verdict t (Ok tt) e =
          ap (λ (x : Step). step_answer s x 1 n ticket) (sym (arrive-taken true m n (sym (same-arrive n t) ∙ e)))
          ∙ taken-whole n ticket (arrive-passed s n e).0
          ∙ sym (arrive-done s n ticket e)
      by-verdict t (Err why) e =
          ap (λ (x : Step). step_answer s x 1 n ticket) (sym (arrive-left true m n why (sym (same-arrive n t) ∙ e)))
          ∙ stays s (Err why) 1 n ticket refl refl
          ∙ sym (arrive-refused s n ticket why e)

      go : (b : Bool) → tickets_of_held s ≡ b → step_answer s (arrive_step b m n) 1 n ticket ≡ arrive_of s n ticket
      go true t = by-verdict t (arrive_verdict s n) refl
      go false t =
          ap (λ (x : Step). step_answer s x 1 n ticket) (sym (arrive-left false m n NotInOrder refl))
          ∙ stays s (Err NotInOrder) 1 n ticket refl refl
          ∙ sym (arrive-refused s n ticket NotInOrder (bad-arrive n t))

  pub end_whole : (n : ℕ) → step_answer s (clock_end_step (tickets_of_held s) m n) 0 n 0 ≡ clock_end_of s n
  end_whole n = go (tickets_of_held s) refl
    where
      by-verdict : tickets_of_held s ≡ true → (v : Verdict) → clock_end_verdict s n ≡ v → step_answer s (clock_end_step true m n) 0 n 0 ≡ clock_end_of s n
      by-verdict t (Ok tt) e =
          let p = end-passed s n e in
          ap (λ (x : Step). step_answer s x 0 n 0) (sym (end-taken true m n (sym (same_end n t) ∙ e)))
          ∙ ends-whole n p.0 p.1.0 p.1.1
          ∙ sym (end-done s n e)
      by-verdict t (Err why) e =
          ap (λ (x : Step). step_answer s x 0 n 0) (sym (end-left true m n why (sym (same_end n t) ∙ e)))
          ∙ stays s (Err why) 0 n 0 refl refl
          ∙ sym (end_refused s n why e)

      go : (b : Bool) → tickets_of_held s ≡ b → step_answer s (clock_end_step b m n) 0 n 0 ≡ clock_end_of s n
      go true t = by-verdict t (clock_end_verdict s n) refl
      go false t =
          ap (λ (x : Step). step_answer s x 0 n 0) (sym (end-left false m n NotInOrder refl))
          ∙ stays s (Err NotInOrder) 0 n 0 refl refl
          ∙ sym (end_refused s n NotInOrder (bad-end n t))

-- ---- an answer as the code makes it

-- an arm of the code says first that the call was not refused, and then what happened
pub within : {told : Result Outcome Refusal} {found wanted : Outcome} → told ≡ Ok found → found ≡ wanted → told ≡ Ok wanted
within e f = e ∙ ap Ok f

abbrev answer_with : Step → ℕ → List ℕ → List ℕ → Answer
answer_with step count out left = record {
  outcome = step.outcome;
  count = count;
  tickets = out;
  next = record { nesn = step.next.nesn; hsnr = step.next.hsnr; held = step.next.held; clocks = step.next.clocks; tickets = left };
}

module _ (s : Resequencer) (step : Step) (d n ticket : ℕ) where
  by-outcome : (h k : Bool) → hands_on step.outcome ≡ h → holds step.outcome ≡ k
      → answer_with step (length (cond h (arrived_tickets d ticket ++ held_tickets s d (step.passed - d)) [])) (places (cond h (arrived_tickets d ticket ++ held_tickets s d (step.passed - d)) []))
      (cond h (tickets_left s.tickets s.nesn.0 step.passed) (cond k (set s.tickets n ticket) s.tickets))
      ≡ step_answer s step d n ticket
  unfolding step_answer step_tickets step_state
  by-outcome h k e f =
      sym (ap₂ (λ (h k : Bool).
      answer_with step (length (cond h (arrived_tickets d ticket ++ held_tickets s d (step.passed - d)) [])) (places (cond h (arrived_tickets d ticket ++ held_tickets s d (step.passed - d)) []))
      (cond h (tickets_left s.tickets s.nesn.0 step.passed) (cond k (set s.tickets n ticket) s.tickets))) e f)

  pub answer-handed : (count : ℕ) (out left : List ℕ) → hands_on step.outcome ≡ true
      → count ≡ length (arrived_tickets d ticket ++ held_tickets_from s.held s.tickets (s.nesn.0 + d) (step.passed - d))
      → out ≡ places (arrived_tickets d ticket ++ held_tickets_from s.held s.tickets (s.nesn.0 + d) (step.passed - d))
      → left ≡ tickets_left s.tickets s.nesn.0 step.passed
      → answer_with step count out left ≡ step_answer s step d n ticket
  answer-handed count out left h c o l =
      let e : arrived_tickets d ticket ++ held_tickets_from s.held s.tickets (s.nesn.0 + d) (step.passed - d) ≡ arrived_tickets d ticket ++ held_tickets s d (step.passed - d) =
      ap (λ (x : List ℕ). arrived_tickets d ticket ++ x) (held-from s d (step.passed - d)) in
      ap₂ (λ (x : ℕ) (y : List ℕ). answer_with step x y left) (c ∙ ap length e) (o ∙ ap places e)
      ∙ ap (answer_with step (length (arrived_tickets d ticket ++ held_tickets s d (step.passed - d))) (places (arrived_tickets d ticket ++ held_tickets s d (step.passed - d)))) l
      ∙ by-outcome true (holds step.outcome) h refl

  pub answer-kept : hands_on step.outcome ≡ false → holds step.outcome ≡ true → answer_with step 0 (replicate 32 0) (set s.tickets n ticket) ≡ step_answer s step d n ticket
  unfolding places
  answer-kept h k = by-outcome false true h k

  pub answer-still : hands_on step.outcome ≡ false → holds step.outcome ≡ false → answer_with step 0 (replicate 32 0) s.tickets ≡ step_answer s step d n ticket
  unfolding places
  answer-still h k = by-outcome false false h k

module _ (s : Resequencer) (fits : Bool) (m : Numbers) (n ticket : ℕ) (step : Step) (em : m ≡ numbers_of s) where
  pub arrive-asks : step ≡ arrive_step fits m n → StepFits s.nesn.0 step 1 n ticket
  arrive-asks e = subst (λ (x : Step). StepFits s.nesn.0 x 1 n ticket) (sym (e ∙ ap (λ (x : Numbers). arrive_step fits x n) em)) (arrive-fits fits (numbers_of s) n ticket)

  pub arrive-told : (r : Answer) → fits ≡ every 64 (ticket_fits s.held s.tickets) → step ≡ arrive_step fits m n → r ≡ step_answer s step 1 n ticket → r ≡ arrive_of s n ticket
  unfolding ticket_fits tickets_of_held
  arrive-told r f e q =
      q ∙ ap (λ (x : Step). step_answer s x 1 n ticket) (e ∙ ap₂ (λ (b : Bool) (x : Numbers). arrive_step b x n) f em) ∙ arrive-whole s n ticket

  pub end-asks : step ≡ clock_end_step fits m n → StepFits s.nesn.0 step 0 n 0
  end-asks e = subst (λ (x : Step). StepFits s.nesn.0 x 0 n 0) (sym (e ∙ ap (λ (x : Numbers). clock_end_step fits x n) em)) (end_fits fits (numbers_of s) n)

  pub end-told : (r : Answer) → fits ≡ every 64 (ticket_fits s.held s.tickets) → step ≡ clock_end_step fits m n → r ≡ step_answer s step 0 n 0 → r ≡ clock_end_of s n
  unfolding ticket_fits tickets_of_held
  end-told r f e q =
      q ∙ ap (λ (x : Step). step_answer s x 0 n 0) (e ∙ ap₂ (λ (b : Bool) (x : Numbers). clock_end_step b x n) f em) ∙ end_whole s n
