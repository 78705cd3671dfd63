-- Lists of events in true numbers, for demand 3 and for document 01, "The resequencer", "In demand
-- 3 ..": what the calls hand on, and which true numbers have arrived. Each call gets the state that
-- the last one returned. In all definitions T gives the ticket of each true number.
-- Assumes nothing.
use Rattle.std.specs.Prelude.{Bool, false, ◌||◌, List, [], ◌∷◌, ◌++◌, ℕ, ◌%◌, eqb}
use Rattle.resequencer.specs.declared.Resequencer.{Resequencer}
use Rattle.resequencer.specs.declared.Answer.{Answer}
use Rattle.resequencer.specs.Events.{handed}
use Rattle.resequencer_claims.specs.Calls.{Call, arrival, clock_end as end_of_clock, answer_to}

-- an event. `packet n`: the packet with the true number n arrives. `stray sn ticket`: an arrival
-- that is refused and "carries no true number"; the claims require its SN to be over 63. `clock_end
-- sn`: the clock of the sequence number sn ends
pub data Event : Type 0 where
  packet : ℕ → Event
  stray : ℕ → ℕ → Event
  clock_end : ℕ → Event

-- the call that an event makes. The packet with the true number n is "sent modulo 64", with the
-- ticket T n: "one ticket per true number"
abbrev pub call_of : (ℕ → ℕ) → Event → Call
call_of T (packet n) = arrival (n % 64) (T n)
call_of T (stray sn ticket) = arrival sn ticket
call_of T (clock_end sn) = end_of_clock sn

-- the answer to an event in the state s
abbrev pub answer : (ℕ → ℕ) → Resequencer → Event → Answer
answer T s e = answer_to s (call_of T e)

-- "the tickets handed on by all answers in turn"
unfoldable pub handed_on : (ℕ → ℕ) → Resequencer → List Event → List ℕ
handed_on T s [] = []
handed_on T s (e ∷ es) = handed (answer T s e) ++ handed_on T (answer T s e).next es

-- the event brings the true number n: "an arrival with SN over 63 is refused and carries no true
-- number; any other has arrived, even if old or duplicate"
abbrev pub brings : Event → ℕ → Bool
brings (packet m) n = eqb m n
brings (stray sn ticket) n = false
brings (clock_end sn) n = false

-- which true numbers have arrived, as a test: none at first
abbrev pub nothing : ℕ → Bool
nothing n = false

-- after an event: those that had arrived before (`has`) and the one that the event brings
unfoldable pub more : (ℕ → Bool) → Event → ℕ → Bool
more has e n = has n || brings e n

-- after a list of events, where `has` had arrived before it
unfoldable pub arrived_after : (ℕ → Bool) → List Event → ℕ → Bool
arrived_after has [] = has
arrived_after has (e ∷ es) = arrived_after (more has e) es

-- after a list of events from the beginning
abbrev pub arrived : List Event → ℕ → Bool
arrived es = arrived_after nothing es
