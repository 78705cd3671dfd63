-- The claims of document 01, "The resequencer", "Wanted over any accepted events from a fresh
-- state", except the last one (Rising.antt). Here they are claimed over any calls, refused ones
-- included. proofs/Wanted.antt proves `Wanted cs` for every list of calls cs, proofs/AtMost.antt
-- `AtMost32` and proofs/Keeping.antt `KeepsOrder`.
-- Assumes nothing.
use Rattle.std.specs.Prelude.{◌≡◌, true, false, ◌⊎◌, List, [], ◌∷◌, ℕ, ◌+◌, ◌^◌, ◌≤◌, ◌<◌, Result, Ok, Err}
use Rattle.wordset.specs.Sets.{count}
use Rattle.resequencer.specs.declared.Resequencer.{Resequencer}
use Rattle.resequencer.specs.State.{fresh_state, in_order, has_clock}
use Rattle.resequencer.specs.Events.{arrive_of}
use Rattle.resequencer_claims.specs.Calls.{Call, arrival, clock_end, answer_to, after_calls, state_after}
use Rattle.resequencer.specs.declared.Outcome.{Outcome}
use Rattle.resequencer.specs.declared.Outcome.TheVariants.{Held, HandedOn, Old, Duplicate}
use Rattle.refusal.specs.declared.Refusal.{Refusal}

-- 1 for the outcome of an arrival that is taken: "arrivals taken (neither refused, old nor
-- duplicate)"
abbrev pub is_taken : Result Outcome Refusal → ℕ
is_taken (Ok Held) = 1
is_taken (Ok HandedOn) = 1
is_taken (Ok Old) = 0
is_taken (Ok Duplicate) = 0
is_taken (Err why) = 0

-- 1 for a call that is an arrival taken
abbrev pub takes : Resequencer → Call → ℕ
takes s (arrival sn ticket) = is_taken (arrive_of s sn ticket).outcome
takes s (clock_end sn) = 0

-- the number of arrivals taken by a list of calls, starting in s
unfoldable pub arrivals_taken : Resequencer → List Call → ℕ
arrivals_taken s [] = 0
arrivals_taken s (c ∷ cs) = takes s c + arrivals_taken (answer_to s c).next cs

-- the number of "tickets handed on" by a list of calls, starting in s
unfoldable pub ticket_count : Resequencer → List Call → ℕ
ticket_count s [] = 0
ticket_count s (c ∷ cs) = (answer_to s c).count + ticket_count (answer_to s c).next cs

-- the clocks of these numbers end in turn, "with no arrival between"
unfoldable pub clock_ends : List ℕ → List Call
clock_ends [] = []
clock_ends (sn ∷ sns) = clock_end sn ∷ clock_ends sns

-- n is in the list
unfoldable pub Among : ℕ → List ℕ → Type 0
Among n [] = ⊥
Among n (m ∷ ms) = (n ≡ m) ⊎ Among n ms

-- "At most 32 tickets leave in one event": of every state, damaged ones too, and every call
abbrev pub AtMost32 : Type 0
AtMost32 = (s : Resequencer) (c : Call) → (answer_to s c).count ≤ 32

-- one call keeps good order, in any state in good order and not only in one that calls from a fresh
-- state have made. The two sets fit their 64 bits, as in every state that the code can hold; else
-- the claim is false. With NESN 0, HSNR 69, the held set {5, 69} and the clock set {5} the state is
-- in good order, and the arrival of 0 leaves HSNR 69 and the held set {5}. In a fresh state with
-- the clock set {64}, the arrival of 1 starts no clock
abbrev pub KeepsOrder : Type 0
KeepsOrder =
    (s : Resequencer) (c : Call) → s.held < 2 ^ 64 → s.clocks < 2 ^ 64
    → in_order s ≡ true → in_order (answer_to s c).next ≡ true

pub record Wanted (cs : List Call) : Type 0 where
  -- "good order lasts"
  pub in_order : in_order (state_after cs) ≡ true
  -- "something is held exactly if a clock runs"
  pub none-held : (state_after cs).clocks ≡ 0 → (state_after cs).held ≡ 0
  pub none-running : (state_after cs).held ≡ 0 → (state_after cs).clocks ≡ 0
  -- "at most 16 clocks run"
  pub at-most-16 : count 64 (state_after cs).clocks ≤ 16
  -- "once each running clock has ended or stopped with no arrival between, nothing is held": sns
  -- are the clocks that end, and each clock that runs before is among them or does not run after
  -- them
  pub drained : (sns : List ℕ)
      → ((n : ℕ) → n < 64 → has_clock (state_after cs) n ≡ true → Among n sns ⊎ (has_clock (after_calls (state_after cs) (clock_ends sns)) n ≡ false))
      → (after_calls (state_after cs) (clock_ends sns)).held ≡ 0
  -- "At most 32 tickets leave in one event": in the next call, whatever it is
  pub at-most-32 : (c : Call) → (answer_to (state_after cs) c).count ≤ 32
  -- "arrivals taken .. equal tickets handed on plus numbers held"
  pub total : arrivals_taken fresh_state cs ≡ ticket_count fresh_state cs + count 64 (state_after cs).held
