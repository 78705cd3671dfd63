-- Lists of calls of the resequencer, and the state after them, for the claims of document 01, "The
-- resequencer", "Wanted over any accepted events". Each call gets the state that the last one
-- returned. `arrive_of` and `clock_end_of` are the answers as `resequencer` defines them.
-- Assumes nothing.
use Rattle.std.specs.Prelude.{List, [], ◌∷◌, ℕ}
use Rattle.resequencer.specs.declared.Resequencer.{Resequencer}
use Rattle.resequencer.specs.declared.Answer.{Answer}
use Rattle.resequencer.specs.State.{fresh_state}
use Rattle.resequencer.specs.Events.{arrive_of, clock_end_of}

-- a call: `arrival sn ticket`, of any SN with any ticket, or `clock_end sn`, of any SN
pub data Call : Type 0 where
  arrival : ℕ → ℕ → Call
  clock_end : ℕ → Call

-- the answer to a call in the state s
abbrev pub answer_to : Resequencer → Call → Answer
answer_to s (arrival sn ticket) = arrive_of s sn ticket
answer_to s (clock_end sn) = clock_end_of s sn

-- the state after the calls, starting in s
unfoldable pub after_calls : Resequencer → List Call → Resequencer
after_calls s [] = s
after_calls s (c ∷ cs) = after_calls (answer_to s c).next cs

-- the state after the calls, "from a fresh state"
abbrev pub state_after : List Call → Resequencer
state_after cs = after_calls fresh_state cs
