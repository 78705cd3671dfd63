-- What a call writes and returns, by the verdict of its checks. The premises are the tests that the
-- code makes and what its step gives.
-- Assumes nothing.
use mathlib.Core.Path.{◌≡◌, refl, sym, ap, ap₂, ◌∙◌, subst}
use mathlib.Core.Bool.{Bool, true, false, cond}
use mathlib.Core.List.{List, ◌++◌}
use mathlib.Core.Logic.{◌≢◌}
use Prim.Native.Nat.{ℕ, ◌≤◌, ◌<◌}
use native.Mathlib.Omega.{arith}
use lib.Dec.{eqb}
use lib.ListN.{length, take, drop, take-append-drop}
use borrow.Author.Tests.{le-leb, lt-leb, eq-eqb, ne_eqb}
use Rattle.refusal.specs.declared.Refusal.{Refusal}
use Rattle.refusal.specs.declared.Refusal.TheVariants.{OutOfRange, OutputTooShort, NoClock, NotInOrder}
use Rattle.refusal.specs.Numbers.{number_of, check, and_then, refusal_number, Verdict}
use Rattle.refusal.proofs.Numbers.{number-range}
use Rattle.sequence.specs.Numbers.{in_field}
use Rattle.resequencer.specs.declared.Resequencer.{Resequencer}
use Rattle.resequencer.specs.declared.Step.{Step}
use Rattle.resequencer.specs.declared.Answer.{Answer}
use Rattle.resequencer.specs.State.{has_clock, in_order}
use Rattle.resequencer.specs.Events.{plain, arrive_verdict, arrive_of, clock_end_verdict, clock_end_of}
use Rattle.resequencer.specs.Numbers.{step_answer}
use Rattle.resequencer.proofs.Cases.{arrive-refused, end_refused}
use Rattle.resequencer.proofs.OutcomeNumbers.{arrive-number, end-number}
use Rattle.resequencer_bytes.specs.Stored.{is_state, state_in, state_bytes, packed_answer, arrive_checks, clock_end_checks, answer_by, bytes_by, tickets_by}
use Rattle.resequencer_bytes.proofs.Calls.{Ends}
use Rattle.std.specs.Prelude.{Ok, Err}

-- the number returned (r), and the bytes (b') and places (out') after a call
abbrev After : Verdict → Answer → List ℕ → List ℕ → ℕ → List ℕ → List ℕ → Type 0
After v a b out r b' out' = (r ≡ answer_by v a) × ((b' ≡ bytes_by v a b) × (out' ≡ tickets_by v a out))

-- ---- the checks

-- without further checks
then-nothing : (v : Verdict) → and_then v (Ok tt) ≡ v
then-nothing (Ok tt) = refl
then-nothing (Err why) = refl

-- the checks of the resequencer, by what they test: good order, SN, and the clock
abbrev arrive_tests : Bool → Bool → Verdict
arrive_tests g f = check g NotInOrder (check f OutOfRange (Ok tt))

abbrev end_tests : Bool → Bool → Bool → Verdict
end_tests g f c = check g NotInOrder (check f OutOfRange (check c NoClock (Ok tt)))

-- the checks of an arrival are the first two of a clock end
same_tests : (g f c : Bool) → and_then (arrive_tests g f) (end_tests g f c) ≡ end_tests g f c
same_tests true true c = refl
same_tests true false c = refl
same_tests false f c = refl

-- the checks of an arrival with too few places: t is whether the bytes are a state
abbrev short_tests : Bool → Verdict → Verdict
short_tests t v = check t NotInOrder (and_then v (Err OutputTooShort))

-- with too few places: the number returned is that of an arrival without any place
short-arrival : (t : Bool) (v : Verdict) (a : Answer) (b out : List ℕ)
    → After (short_tests t v) a b out (refusal_number (short_tests t v)) b out
short-arrival true (Ok tt) a b out = (refl, (refl, refl))
short-arrival true (Err why) a b out = (refl, (refl, refl))
short-arrival false v a b out = (refl, (refl, refl))

short-end : (t : Bool) (v w : Verdict) (a : Answer) (b out : List ℕ)
    → After (and_then (short_tests t v) w) a b out (refusal_number (short_tests t v)) b out
short-end true (Ok tt) w a b out = (refl, (refl, refl))
short-end true (Err why) w a b out = (refl, (refl, refl))
short-end false v w a b out = (refl, (refl, refl))

module _ (b : List ℕ) (count n : ℕ) where
  abbrev s : Resequencer
  s = state_in b

  -- bytes that are no state
  arrive_none : length b ≢ 146 → arrive_checks b count n ≡ Err NotInOrder
  unfolding arrive_checks
  arrive_none h = rw (ne_eqb (length b) 146 h)

  end_none : length b ≢ 146 → clock_end_checks b count n ≡ Err NotInOrder
  unfolding arrive_checks clock_end_checks
  end_none h = rw (ne_eqb (length b) 146 h)

  -- too few places
  arrive-short : count < 32 → short_tests (is_state b) (arrive_verdict s n) ≡ arrive_checks b count n
  unfolding arrive_checks
  arrive-short h = ap (λ (t : Bool). check (is_state b) NotInOrder (and_then (arrive_verdict s n) (check t OutputTooShort (Ok tt)))) (sym (lt-leb 32 count h))

  end_short : count < 32 → and_then (short_tests (is_state b) (arrive_verdict s n)) (clock_end_verdict s n) ≡ clock_end_checks b count n
  unfolding clock_end_checks
  end_short h = ap (λ (v : Verdict). and_then v (clock_end_verdict s n)) (arrive-short h)

  module _ (l : length b ≡ 146) where
    -- enough places: the checks are those of the resequencer. For the calls, and for
    -- `resequencer_claims`
    pub arrive-roomy : 32 ≤ count → arrive_verdict s n ≡ arrive_checks b count n
    unfolding arrive_checks
    arrive-roomy h =
        sym (ap₂ (λ (x y : Bool). check x NotInOrder (and_then (arrive_verdict s n) (check y OutputTooShort (Ok tt)))) (eq-eqb (length b) 146 l) (le-leb 32 count h) ∙ then-nothing (arrive_verdict s n))

    pub end-roomy : 32 ≤ count → clock_end_verdict s n ≡ clock_end_checks b count n
    unfolding clock_end_checks arrive_verdict clock_end_verdict
    end-roomy h =
        sym (ap (λ (v : Verdict). and_then v (clock_end_verdict s n)) (sym (arrive-roomy h)) ∙ same_tests (in_order s) (in_field 64 n) (has_clock s n))

-- ---- a step that was carried out

-- what `answer` promises, said of the answer a, where o are the 32 places lent to it
abbrev Written : Answer → List ℕ → List ℕ → ℕ → List ℕ → List ℕ → Type 0
Written a b o r b' o' =
    (r ≡ packed_answer a)
    × ((b' ≡ cond (eqb (refusal_number a.outcome) 0) (state_bytes a.next) b)
    × (o' ≡ cond (eqb (refusal_number a.outcome) 0) a.tickets o))

as_written : (b : List ℕ) (step : Step) (d n ticket : ℕ) (a : Answer) → step_answer (state_in b) step d n ticket ≡ a
    → (o : List ℕ) (r : ℕ) (b' o' : List ℕ) → Ends b step d n ticket o r b' o' → Written a b o r b' o'
unfolding step_answer
as_written b step d n ticket a e o r b' o' w = subst (λ (x : Answer). Written x b o r b' o') e w

-- a refused answer hands nothing on and has the same state
abbrev Refuses : Verdict → Resequencer → Answer → Type 0
Refuses v s a = (why : Refusal) → v ≡ Err why → a ≡ plain (Err why) s

plain-packed : (why : Refusal) (s : Resequencer) → packed_answer (plain (Err why) s) ≡ number_of why
unfolding packed_answer plain
plain-packed why s = omega arith

-- the first 32 places are lent, and those past them keep what they held
done : (v : Verdict) (s : Resequencer) (a : Answer) (b out : List ℕ) → refusal_number a.outcome ≡ refusal_number v → Refuses v s a
    → (r : ℕ) (b' o' : List ℕ) → length o' ≡ 32 → Written a b (take 32 out) r b' o' → After v a b out r b' (o' ++ drop 32 out)
done (Ok tt) s a b out number refuses r b' o' l w =
    let t : eqb (refusal_number a.outcome) 0 ≡ true = eq-eqb (refusal_number a.outcome) 0 number in
    let tickets : o' ≡ a.tickets = w.1.1 ∙ ap (λ (q : Bool). cond q a.tickets (take 32 out)) t in (
      w.0,
      (
        w.1.0 ∙ ap (λ (q : Bool). cond q (state_bytes a.next) b) t,
        ap₂ (λ (x : List ℕ) (k : ℕ). x ++ drop k out) tickets (sym l ∙ ap length tickets),
      ),
    )
done (Err why) s a b out number refuses r b' o' l w =
    let f : eqb (refusal_number a.outcome) 0 ≡ false = ne_eqb (refusal_number a.outcome) 0 (λ z. absurd (omega (arith, number, (number-range why).0))) in (
      w.0 ∙ ap packed_answer (refuses why refl) ∙ plain-packed why s,
      (
        w.1.0 ∙ ap (λ (q : Bool). cond q (state_bytes a.next) b) f,
        ap (λ (x : List ℕ). x ++ drop 32 out) (w.1.1 ∙ ap (λ (q : Bool). cond q a.tickets (take 32 out)) f) ∙ take-append-drop 32 out,
      ),
    )

-- ---- the calls

module _ (b out : List ℕ) (n : ℕ) where
  pub arrive-no-state : (a : Answer) → length b ≢ 146 → After (arrive_checks b (length out) n) a b out 14 b out
  arrive-no-state a h = subst (λ (v : Verdict). After v a b out 14 b out) (sym (arrive_none b (length out) n h)) (refl, (refl, refl))

  pub end-no-state : (a : Answer) → length b ≢ 146 → After (clock_end_checks b (length out) n) a b out 14 b out
  end-no-state a h = subst (λ (v : Verdict). After v a b out 14 b out) (sym (end_none b (length out) n h)) (refl, (refl, refl))

  -- too few places; d is the lent memory, which the code takes as the array b
  module _ (d : List ℕ) (same : b ≡ d) (h : length out < 32) (a : Answer) (r : ℕ) (q : r ≡ refusal_number (arrive_checks b 0 n)) where
    short-number : r ≡ refusal_number (short_tests (is_state b) (arrive_verdict (state_in b) n))
    unfolding arrive_checks
    short-number = q

    pub arrive-few : After (arrive_checks d (length out) n) a d out r b out
    arrive-few =
        subst (λ (x : List ℕ). After (arrive_checks x (length out) n) a x out r b out) same
        (subst (λ (v : Verdict). After v a b out r b out) (arrive-short b (length out) n h)
        (subst (λ (x : ℕ). After (short_tests (is_state b) (arrive_verdict (state_in b) n)) a b out x b out) (sym short-number) (short-arrival (is_state b) (arrive_verdict (state_in b) n) a b out)))

    pub end-few : After (clock_end_checks d (length out) n) a d out r b out
    end-few =
        subst (λ (x : List ℕ). After (clock_end_checks x (length out) n) a x out r b out) same
        (subst (λ (v : Verdict). After v a b out r b out) (end_short b (length out) n h)
        (subst (λ (x : ℕ). After (and_then (short_tests (is_state b) (arrive_verdict (state_in b) n)) (clock_end_verdict (state_in b) n)) a b out x b out) (sym short-number) (short-end (is_state b) (arrive_verdict (state_in b) n) (clock_end_verdict (state_in b) n) a b out)))

  -- enough places: o' are the first 32 of them after the call
  module _ (d : List ℕ) (same : b ≡ d) (l : length d ≡ 146) (h : 32 ≤ length out) (step : Step) (r : ℕ) (b' o' : List ℕ) (j : length o' ≡ 32) where
    pub arrive-done : (ticket : ℕ) → step_answer (state_in b) step 1 n ticket ≡ arrive_of (state_in b) n ticket → Ends b step 1 n ticket (take 32 out) r b' o'
        → After (arrive_checks d (length out) n) (arrive_of (state_in d) n ticket) d out r b' (o' ++ drop 32 out)
    arrive-done ticket e w =
        let a = arrive_of (state_in b) n ticket in
        let l = ap length same ∙ l in
        subst (λ (x : List ℕ). After (arrive_checks x (length out) n) (arrive_of (state_in x) n ticket) x out r b' (o' ++ drop 32 out)) same
        (subst (λ (v : Verdict). After v a b out r b' (o' ++ drop 32 out)) (arrive-roomy b (length out) n l h)
        (done (arrive_verdict (state_in b) n) (state_in b) a b out (arrive-number (state_in b) n ticket) (arrive-refused (state_in b) n ticket) r b' o' j (as_written b step 1 n ticket a e (take 32 out) r b' o' w)))

    pub end-done : step_answer (state_in b) step 0 n 0 ≡ clock_end_of (state_in b) n → Ends b step 0 n 0 (take 32 out) r b' o'
        → After (clock_end_checks d (length out) n) (clock_end_of (state_in d) n) d out r b' (o' ++ drop 32 out)
    end-done e w =
        let a = clock_end_of (state_in b) n in
        let l = ap length same ∙ l in
        subst (λ (x : List ℕ). After (clock_end_checks x (length out) n) (clock_end_of (state_in x) n) x out r b' (o' ++ drop 32 out)) same
        (subst (λ (v : Verdict). After v a b out r b' (o' ++ drop 32 out)) (end-roomy b (length out) n l h)
        (done (clock_end_verdict (state_in b) n) (state_in b) a b out (end-number (state_in b) n) (end_refused (state_in b) n) r b' o' j (as_written b step 0 n 0 a e (take 32 out) r b' o' w)))
