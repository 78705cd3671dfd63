-- A state without its tickets, and what an arrival and a clock end do to it: document 01, "The
-- resequencer". For the code of this crate and for `resequencer_bytes`, which keeps the tickets in
-- lent bytes. No rule of document 01 is defined here: each definition applies State.antt and
-- Events.antt to the state with the same numbers and all tickets 0. proofs/Steps.antt shows that a
-- step, with the tickets, determines the whole answer: `step_answer` equals `arrive_of` and
-- `clock_end_of`.
-- Assumes nothing.
use Rattle.std.specs.Prelude.{◌≡◌, Bool, true, false, cond, List, [], ◌++◌, ℕ, ◌-◌, ◌≤◌, ◌<◌, length, set, replicate, Result, Ok, Err}
use Rattle.refusal.specs.declared.Refusal.TheVariants.{NotInOrder}
use Rattle.sequence.specs.Modular.{distance}
use Rattle.resequencer.specs.declared.Resequencer.{Resequencer}
use Rattle.resequencer.specs.declared.Numbers.{Numbers}
use Rattle.resequencer.specs.declared.Step.{Step}
use Rattle.resequencer.specs.declared.Answer.{Answer}
use Rattle.resequencer.specs.State.{in_order}
use Rattle.resequencer.specs.Events.{plain, places, held_tickets, arrive_of, clock_end_of}
use Rattle.resequencer.specs.Parts.{tickets_left, arrived_tickets}
use Rattle.resequencer.specs.declared.Outcome.{Outcome}
use Rattle.resequencer.specs.declared.Outcome.TheVariants.{Held, HandedOn, Old, Duplicate}
use Rattle.refusal.specs.declared.Refusal.{Refusal}

-- a state without its tickets
abbrev pub numbers_of : Resequencer → Numbers
numbers_of s = record { nesn = s.nesn; hsnr = s.hsnr; held = s.held; clocks = s.clocks }

-- the state with these numbers and all tickets 0
abbrev pub bare : Numbers → Resequencer
bare m = record { nesn = m.nesn; hsnr = m.hsnr; held = m.held; clocks = m.clocks; tickets = replicate 64 0 }

-- every clause of good order except "tickets of numbers not held are 0", which tickets of 0 meet
abbrev pub numbers_in_order : Numbers → Bool
numbers_in_order m = in_order (bare m)

-- ---- what a call does to the numbers

-- an answer as a step: its outcome, its next state without the tickets, and by how much NESN went
-- up
unfoldable pub step_by : Numbers → Answer → Step
step_by m a = record { outcome = a.outcome; next = numbers_of a.next; passed = distance 64 m.nesn.0 a.next.nesn.0 }

-- the step of an arrival of number n. `fits` is whether the tickets, wherever they are kept, are 0
-- for all numbers not held; if not, the state is not in good order (refusal 14)
unfoldable pub arrive_step : Bool → Numbers → ℕ → Step
arrive_step fits m n = step_by m (cond fits (arrive_of (bare m) n 0) (plain (Err NotInOrder) (bare m)))

-- the step of a clock end of number n
unfoldable pub clock_end_step : Bool → Numbers → ℕ → Step
clock_end_step fits m n = step_by m (cond fits (clock_end_of (bare m) n) (plain (Err NotInOrder) (bare m)))

-- ---- the answer that a step gives in a state. d is 1 for an arrival and 0 for a clock end, which
-- has no ticket of its own

-- the call handed on
abbrev pub hands_on : Result Outcome Refusal → Bool
hands_on (Ok Held) = false
hands_on (Ok HandedOn) = true
hands_on (Ok Old) = false
hands_on (Ok Duplicate) = false
hands_on (Err why) = false

-- the call held a packet
abbrev pub holds : Result Outcome Refusal → Bool
holds (Ok Held) = true
holds (Ok HandedOn) = false
holds (Ok Old) = false
holds (Ok Duplicate) = false
holds (Err why) = false

-- what the code requires of a step before it moves tickets
pub record StepFits (nesn : ℕ) (step : Step) (d n ticket : ℕ) : Type 0 where
  -- d is 0 or 1, and a clock end has no ticket
  pub own : d ≤ 1
  pub none : d ≡ 0 → ticket ≡ 0
  -- a step that hands on starts at NESN below 64 and passes at least the arrived packet and at most
  -- 32 numbers, the places of an answer
  pub nesn-lt : hands_on step.outcome ≡ true → nesn < 64
  pub least : hands_on step.outcome ≡ true → d ≤ step.passed
  pub most : hands_on step.outcome ≡ true → step.passed ≤ 32
  -- a number that is held is below 64
  pub number : holds step.outcome ≡ true → n < 64

-- the tickets handed on: the arrived packet's own if d is 1, then those of the held numbers among
-- the other numbers passed
unfoldable pub step_tickets : Resequencer → Step → ℕ → ℕ → List ℕ
step_tickets s step d ticket = cond (hands_on step.outcome) (arrived_tickets d ticket ++ held_tickets s d (step.passed - d)) []

-- the next state: after handing on, the tickets of the numbers passed are 0; a packet that is held
-- has its ticket at its number n
unfoldable pub step_state : Resequencer → Step → ℕ → ℕ → Resequencer
step_state s step n ticket = record {
  nesn = step.next.nesn;
  hsnr = step.next.hsnr;
  held = step.next.held;
  clocks = step.next.clocks;
  tickets =
      cond (hands_on step.outcome) (tickets_left s.tickets s.nesn.0 step.passed)
      (cond (holds step.outcome) (set s.tickets n ticket) s.tickets);
}

-- the whole answer
unfoldable pub step_answer : Resequencer → Step → ℕ → ℕ → ℕ → Answer
step_answer s step d n ticket = record {
  outcome = step.outcome;
  count = length (step_tickets s step d ticket);
  tickets = places (step_tickets s step d ticket);
  next = step_state s step n ticket;
}
