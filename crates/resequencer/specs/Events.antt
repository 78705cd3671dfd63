-- Arrivals and clock ends: document 01, "The resequencer", from "Arrival of number s" to "HSNR
-- becomes 0". `arrive_of` and `clock_end_of` define the whole answer of a call: the outcome, the
-- count, the tickets in order with the unused places 0, and the next state. In the quotes s is a
-- sequence number and d its distance from NESN; in the definitions s is the state, n the sequence
-- number and `ahead s n` its distance from NESN.
-- Assumes nothing.
use Rattle.std.specs.Prelude.{Bool, not, cond, ◌&&◌, ◌||◌, List, [], ◌∷◌, ◌++◌, ℕ, zero, suc, ◌+◌, ◌-◌, ◌%◌, ltb, eqb, length, set, take, replicate, Result, Ok, Err}
use Rattle.refusal.specs.declared.Refusal.TheVariants.{OutOfRange, NoClock, NotInOrder}
use Rattle.refusal.specs.Numbers.{check, Verdict}
use Rattle.lists.specs.Lists.{list_from}
use Rattle.sequence.specs.Numbers.{link, in_field}
use Rattle.wordset.specs.Sets.{member, set_of, with, run}
use Rattle.resequencer.specs.declared.Resequencer.{Resequencer}
use Rattle.resequencer.specs.declared.Answer.{Answer}
use Rattle.resequencer.specs.State.{is_held, has_clock, ticket_of, ahead, number_at, in_order}
use Rattle.resequencer.specs.declared.Outcome.{Outcome}
use Rattle.resequencer.specs.declared.Outcome.TheVariants.{Held, HandedOn, Old, Duplicate}
use Rattle.refusal.specs.declared.Refusal.{Refusal}

-- ---- answers

-- an answer that hands nothing on: count 0 and all 32 places 0
unfoldable pub plain : Result Outcome Refusal → Resequencer → Answer
plain outcome s = record { outcome = outcome; count = 0; tickets = replicate 32 0; next = s }

-- the 32 places of an answer: the tickets handed on, then "unused places 0"
unfoldable pub places : List ℕ → List ℕ
places tickets = tickets ++ replicate (32 - length tickets) 0

-- an answer that hands these tickets on, with the next state s
unfoldable pub hand_on : List ℕ → Resequencer → Answer
hand_on tickets s = record { outcome = Ok HandedOn; count = length tickets; tickets = places tickets; next = s }

-- the tickets that an answer hands on: the first `count` places
unfoldable pub handed : Answer → List ℕ
handed a = take a.count a.tickets

-- ---- NESN goes up by m: the m numbers starting at NESN are passed

-- number n is one of the m numbers passed: its distance from NESN is below m
abbrev pub is_passed : Resequencer → ℕ → ℕ → Bool
is_passed s m n = ltb (ahead s n) m

-- the numbers of the set w that are not passed
unfoldable pub remaining : Resequencer → ℕ → ℕ → ℕ
remaining s m w = set_of 64 (λ n. member w n && not (is_passed s m n))

-- the state after it: the numbers passed are no longer held, their clocks stop and their tickets
-- become 0; "when nothing is left held, HSNR becomes 0"
unfoldable pub advance : Resequencer → ℕ → Resequencer
advance s m = record {
  nesn = link (number_at s m);
  hsnr = cond (eqb (remaining s m s.held) 0) (link 0) s.hsnr;
  held = remaining s m s.held;
  clocks = remaining s m s.clocks;
  tickets = list_from 0 64 (λ n. cond (is_passed s m n) 0 (ticket_of s n));
}

-- the tickets of the held numbers at distances d to d + m - 1, in window order
unfoldable pub held_tickets : Resequencer → ℕ → ℕ → List ℕ
held_tickets s d zero = []
held_tickets s d (suc m) = cond (is_held s (number_at s d)) (ticket_of s (number_at s d) ∷ []) [] ++ held_tickets s (suc d) m

-- ---- arrival of number n with its ticket

-- whether a clock starts for n: "If no clock runs, HSNR is s and a clock starts for s. If one runs
-- and s is further from NESN than HSNR + 1, the same."
unfoldable pub starts_clock : Resequencer → ℕ → Bool
starts_clock s n = eqb s.clocks 0 || ltb (ahead s s.hsnr.0 + 1) (ahead s n)

-- n is HSNR + 1: "If s is HSNR + 1, HSNR is s, no new clock."
abbrev pub follows_hsnr : Resequencer → ℕ → Bool
follows_hsnr s n = eqb (ahead s n) (ahead s s.hsnr.0 + 1)

-- "else s is held": the state with n held. HSNR becomes n if a clock starts for n or n is HSNR + 1;
-- "Else nothing more."
unfoldable pub hold : Resequencer → ℕ → ℕ → Resequencer
hold s n ticket = record {
  nesn = s.nesn;
  hsnr = cond (starts_clock s n || follows_hsnr s n) (link n) s.hsnr;
  held = with 64 s.held n;
  clocks = cond (starts_clock s n) (with 64 s.clocks n) s.clocks;
  tickets = set s.tickets n ticket;
}

-- the length of "the unbroken run of held numbers after" NESN
unfoldable pub run_after_nesn : Resequencer → ℕ
run_after_nesn s = run 64 s.held (number_at s 1)

-- the expected number arrives: "d = 0: hand on its ticket and those of the unbroken run of held
-- numbers after it; NESN becomes one past the last"
unfoldable pub hand_on_run : Resequencer → ℕ → Answer
hand_on_run s ticket = hand_on (ticket ∷ held_tickets s 1 (run_after_nesn s)) (advance s (run_after_nesn s + 1))

-- an arrival that is not refused, in document 01's order: "d over 31: old, dropped. s already held:
-- duplicate, dropped. Neither changes the state."; "d = 0"; "else s is held"
unfoldable pub take_arrival : Resequencer → ℕ → ℕ → Answer
take_arrival s n ticket =
    cond (ltb 31 (ahead s n)) (plain (Ok Old) s)
    (cond (is_held s n) (plain (Ok Duplicate) s)
    (cond (eqb (ahead s n) 0) (hand_on_run s ticket)
    (plain (Ok Held) (hold s n ticket))))

-- whether the arrival is refused. "Order: 14, then 1": good order first, then SN at most 63
unfoldable pub arrive_verdict : Resequencer → ℕ → Verdict
arrive_verdict s n =
    check (in_order s) NotInOrder
    (check (in_field 64 n) OutOfRange
    (Ok tt))

-- the answer by that verdict: a refusal hands nothing on and returns the same state
abbrev pub arrive_by : Verdict → Resequencer → ℕ → ℕ → Answer
arrive_by (Ok tt) s n ticket = take_arrival s n ticket
arrive_by (Err why) s n ticket = plain (Err why) s

-- the answer to the arrival
unfoldable pub arrive_of : Resequencer → ℕ → ℕ → Answer
arrive_of s n ticket = arrive_by (arrive_verdict s n) s n ticket

-- ---- end of the clock of number n

-- by how much NESN goes up when "NESN becomes the first number after s that is not held": to one
-- past n, and past the run of held numbers after n
unfoldable pub passed_by_clock : Resequencer → ℕ → ℕ
passed_by_clock s n = ahead s n + 1 + run 64 s.held ((n + 1) % 64)

-- a clock end that is not refused: "All held numbers now passed are handed on in window order and
-- their clocks stop."
unfoldable pub take_clock_end : Resequencer → ℕ → Answer
take_clock_end s n = hand_on (held_tickets s 0 (passed_by_clock s n)) (advance s (passed_by_clock s n))

-- whether the clock end is refused. "Order: 14, then 1, then others": good order, SN at most 63,
-- then 7, "no clock runs for that number"
unfoldable pub clock_end_verdict : Resequencer → ℕ → Verdict
clock_end_verdict s n =
    check (in_order s) NotInOrder
    (check (in_field 64 n) OutOfRange
    (check (has_clock s n) NoClock
    (Ok tt)))

-- the answer by that verdict: a refusal hands nothing on and returns the same state
abbrev pub clock_end_by : Verdict → Resequencer → ℕ → Answer
clock_end_by (Ok tt) s n = take_clock_end s n
clock_end_by (Err why) s n = plain (Err why) s

-- the answer to the clock end
unfoldable pub clock_end_of : Resequencer → ℕ → Answer
clock_end_of s n = clock_end_by (clock_end_verdict s n) s n
