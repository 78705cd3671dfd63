-- The answers to an arrival and to a clock end in a state in good order, one equation for each
-- case, and the tickets that an answer hands on.
-- Assumes nothing.
use mathlib.Core.Path.{◌≡◌, refl, sym, ap, ◌∙◌}
use mathlib.Core.Bool.{Bool, true, false, cond}
use mathlib.Core.List.{List, []}
use mathlib.Core.Logic.{◌⊎◌, inl, inr}
use Prim.Native.Nat.{ℕ, ◌-◌, ◌≤◌, ◌<◌}
use native.Mathlib.Decide.{dec_lt}
use native.Mathlib.Omega.{arith}
use lib.Dec.{ltb, eqb}
use lib.ListN.{length, replicate}
use lib.Seq.{take-append_seam}
use borrow.Author.Tests.{lt-ltb, le-ltb}
use Rattle.refusal.specs.declared.Refusal.{Refusal}
use Rattle.refusal.specs.declared.Refusal.TheVariants.{OutOfRange}
use Rattle.sequence.specs.Numbers.{in_field}
use Rattle.resequencer.specs.declared.Resequencer.{Resequencer}
use Rattle.resequencer.specs.declared.Answer.{Answer}
use Rattle.resequencer.specs.State.{is_held, has_clock, ahead, in_order}
use Rattle.resequencer.specs.Events.{plain, places, hand_on, hold, hand_on_run, take_arrival, arrive_verdict, arrive_of, take_clock_end, clock_end_verdict, clock_end_of, handed}
use Rattle.resequencer.proofs.Cases.{old, duplicate, expected, held_on, arrive-done, arrive-refused, end-done, end_refused, end-passed}
use Rattle.refusal.specs.Numbers.{Verdict}
use Rattle.resequencer.specs.declared.Outcome.{Outcome}
use Rattle.resequencer.specs.declared.Outcome.TheVariants.{Held, HandedOn, Old, Duplicate}
use Rattle.std.specs.Prelude.{Result, Ok, Err}

-- ---- what an answer hands on

pub handed-plain : (o : Result Outcome Refusal) (s : Resequencer) → handed (plain o s) ≡ []
unfolding handed plain
handed-plain o s = refl

pub handed-hand_on : (ts : List ℕ) (s : Resequencer) → handed (hand_on ts s) ≡ ts
unfolding handed hand_on places
handed-hand_on ts s = take-append_seam ts (replicate (32 - length ts) 0)

pub next-plain : (o : Result Outcome Refusal) (s : Resequencer) → (plain o s).next ≡ s
unfolding plain
next-plain o s = refl

pub next-hand_on : (ts : List ℕ) (s : Resequencer) → (hand_on ts s).next ≡ s
unfolding hand_on
next-hand_on ts s = refl

-- ---- arrivals

-- an arrival that passes the checks has no refusal as its outcome
never-refused : (s : Resequencer) (n ticket : ℕ) (why : Refusal) (old here now : Bool)
    → (cond old (plain (Ok Old) s) (cond here (plain (Ok Duplicate) s) (cond now (hand_on_run s ticket) (plain (Ok Held) (hold s n ticket))))).outcome ≡ Err why → ⊥
unfolding plain hand_on_run hand_on
never-refused s n ticket why true here now q = let z : ◌≡◌ {A = ℕ} 0 1 = cc in absurd (omega arith)
never-refused s n ticket why false true now q = let z : ◌≡◌ {A = ℕ} 0 1 = cc in absurd (omega arith)
never-refused s n ticket why false false true q = let z : ◌≡◌ {A = ℕ} 0 1 = cc in absurd (omega arith)
never-refused s n ticket why false false false q = let z : ◌≡◌ {A = ℕ} 0 1 = cc in absurd (omega arith)

module _ (s : Resequencer) (n ticket : ℕ) (g : in_order s ≡ true) where
  pub arrive-stray : 64 ≤ n → arrive_of s n ticket ≡ plain (Err OutOfRange) s
  unfolding arrive_verdict
  arrive-stray h = let e : in_field 64 n ≡ false = le-ltb n 64 h in arrive-refused s n ticket OutOfRange (simp (g, e))

  arrive-taken : n < 64 → arrive_of s n ticket ≡ take_arrival s n ticket
  unfolding arrive_verdict
  arrive-taken h = let e : in_field 64 n ≡ true = lt-ltb n 64 h in arrive-done s n ticket (simp (g, e))

  pub arrive-old : n < 64 → 31 < ahead s n → arrive_of s n ticket ≡ plain (Ok Old) s
  arrive-old l h = arrive-taken l ∙ old s n ticket h

  pub arrive-duplicate : n < 64 → ahead s n ≤ 31 → is_held s n ≡ true → arrive_of s n ticket ≡ plain (Ok Duplicate) s
  arrive-duplicate l h e = arrive-taken l ∙ duplicate s n ticket h e

  pub arrive-expected : n < 64 → ahead s n ≡ 0 → is_held s n ≡ false → arrive_of s n ticket ≡ hand_on_run s ticket
  arrive-expected l h e = arrive-taken l ∙ expected s n ticket h e

  pub arrive-early : n < 64 → 1 ≤ ahead s n → ahead s n ≤ 31 → is_held s n ≡ false → arrive_of s n ticket ≡ plain (Ok Held) (hold s n ticket)
  arrive-early l b h e = arrive-taken l ∙ held_on s n ticket h e (λ q. omega arith)

  -- a refused arrival has an SN over 63
  pub arrive-refuses : (why : Refusal) → (arrive_of s n ticket).outcome ≡ Err why → 63 < n
  unfolding take_arrival
  arrive-refuses why e = go (dec_lt n 64)
    where
      go : Dec (n < 64) → 63 < n
      go (no l) = omega arith
      go (yes l) =
          absurd (never-refused s n ticket why (ltb 31 (ahead s n)) (is_held s n) (eqb (ahead s n) 0) (sym (ap (λ (a : Answer). a.outcome) (arrive-taken l)) ∙ e))

-- ---- clock ends

-- either number n has a clock and the clock end hands on, or the clock end is refused and the state
-- stays
abbrev pub ClockCases : Resequencer → ℕ → Type 0
ClockCases s n =
    ((n < 64) × (has_clock s n ≡ true) × (clock_end_of s n ≡ take_clock_end s n)) ⊎ ((why : Refusal) × (clock_end_of s n ≡ plain (Err why) s))

pub clock-cases : (s : Resequencer) (n : ℕ) → ClockCases s n
clock-cases s n = go (clock_end_verdict s n) refl
  where
    go : (v : Verdict) → clock_end_verdict s n ≡ v → ClockCases s n
    go (Ok tt) e = let w = end-passed s n e in inl (w.1.0, w.1.1, end-done s n e)
    go (Err why) e = inr (why, end_refused s n why e)

-- a clock end with a refusal as its outcome leaves the state unchanged
pub clock-refuses : (s : Resequencer) (n : ℕ) (why : Refusal) → (clock_end_of s n).outcome ≡ Err why → clock_end_of s n ≡ plain (Err why) s
clock-refuses s n why e = go (clock-cases s n)
  where
    taken-says : (take_clock_end s n).outcome ≡ Ok HandedOn
    taken-says = unfold take_clock_end hand_on in refl

    plain-says : (w : Refusal) → (plain (Err w) s).outcome ≡ Err w
    plain-says w = unfold plain in refl

    go : ClockCases s n → clock_end_of s n ≡ plain (Err why) s
    go (inl w) =
        let q : (Ok HandedOn) ≡ Err why = sym (ap (λ (a : Answer). a.outcome) w.2 ∙ taken-says) ∙ e in
        let z : ◌≡◌ {A = ℕ} 0 1 = cc in
        absurd (omega arith)
    go (inr w) =
        let q : Err w.0 ≡ Err why = sym (ap (λ (a : Answer). a.outcome) w.1 ∙ plain-says w.0) ∙ e in
        let r : w.0 ≡ why = cc in
        w.1 ∙ ap (λ (x : Refusal). plain (Err x) s) r

-- if a clock runs for n, its end hands on
pub clock-taken : (s : Resequencer) (n : ℕ) → in_order s ≡ true → n < 64 → has_clock s n ≡ true → clock_end_of s n ≡ take_clock_end s n
unfolding clock_end_verdict
clock-taken s n g l h = let e : in_field 64 n ≡ true = lt-ltb n 64 l in end-done s n (simp (g, e, h))

pub clock-taken-says : (s : Resequencer) (n : ℕ) → clock_end_of s n ≡ take_clock_end s n → (clock_end_of s n).outcome ≡ Ok HandedOn
unfolding take_clock_end hand_on
clock-taken-says s n e = ap (λ (a : Answer). a.outcome) e

pub clock-refused-says : (s : Resequencer) (n : ℕ) (why : Refusal) → clock_end_of s n ≡ plain (Err why) s → (clock_end_of s n).outcome ≡ Err why
unfolding plain
clock-refused-says s n why e = ap (λ (a : Answer). a.outcome) e

pub hand_on-says : (ts : List ℕ) (s : Resequencer) → (hand_on ts s).outcome ≡ Ok HandedOn
unfolding hand_on
hand_on-says ts s = refl
