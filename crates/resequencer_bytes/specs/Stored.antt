-- The resequencer's state (document 01, "The resequencer") in 146 bytes that a caller lends, and
-- the calls on them. Byte 0 is NESN and byte 1 HSNR; bytes 2 to 9 are the held set and bytes 10 to
-- 17 the clock set, one bit per sequence number; bytes 18 to 145 are the 64 tickets of two bytes
-- each. In each word the lowest byte comes first. In the definitions b is the list of lent bytes.
-- Assumes nothing.
use Rattle.std.specs.Prelude.{Bool, cond, ◌&&◌, List, ◌∷◌, ◌++◌, ℕ, ◌+◌, ◌*◌, leb, eqb, length, get_or, take, drop, Result, Ok, Err}
use Rattle.refusal.specs.declared.Refusal.TheVariants.{OutputTooShort, NotInOrder}
use Rattle.refusal.specs.Numbers.{number_of, check, and_then, Verdict, refusal_number}
use Rattle.lists.specs.Lists.{over}
use Rattle.little.specs.Little.{little_of, little_bytes, little_list, list_bytes}
use Rattle.sequence.specs.Numbers.{link}
use Rattle.resequencer.specs.declared.Resequencer.{Resequencer}
use Rattle.resequencer.specs.declared.Answer.{Answer}
use Rattle.resequencer.specs.State.{fresh_state, in_order}
use Rattle.resequencer.specs.Events.{arrive_verdict, arrive_of, clock_end_verdict, clock_end_of}
use Rattle.resequencer.specs.declared.Outcome.{Outcome}
use Rattle.resequencer.specs.declared.Outcome.TheVariants.{Held, HandedOn, Old, Duplicate}
use Rattle.refusal.specs.declared.Refusal.{Refusal}

-- ---- the bytes of a state

-- there are as many bytes as a state has
abbrev pub is_state : List ℕ → Bool
is_state b = eqb (length b) 146

-- the state that the bytes encode
unfoldable pub state_in : List ℕ → Resequencer
state_in b = record {
  nesn = link (get_or b 0 0);
  hsnr = link (get_or b 1 0);
  held = little_of (take 8 (drop 2 b));
  clocks = little_of (take 8 (drop 10 b));
  tickets = little_list 2 64 (drop 18 b);
}

-- the bytes of a state
unfoldable pub state_bytes : Resequencer → List ℕ
state_bytes s = s.nesn.0 ∷ s.hsnr.0 ∷ (little_bytes 8 s.held ++ (little_bytes 8 s.clocks ++ list_bytes 2 s.tickets))

-- ---- an answer in one number

-- the outcome as a number: 0 held, 1 handed on, 2 old, 3 duplicate; 0 for a refusal, which has its
-- refusal number
abbrev pub outcome_kind : Result Outcome Refusal → ℕ
outcome_kind (Ok Held) = 0
outcome_kind (Ok HandedOn) = 1
outcome_kind (Ok Old) = 2
outcome_kind (Ok Duplicate) = 3
outcome_kind (Err why) = 0

-- the refusal number in the lowest byte, the outcome in the next, the count of tickets handed on
-- above
unfoldable pub packed_answer : Answer → ℕ
packed_answer a = refusal_number a.outcome + 256 * outcome_kind a.outcome + 65536 * a.count

-- ---- a call. `places` is the number of lent places for tickets

-- the checks of an arrival, in the order 14, 1, 5: bytes of another length are no state in good
-- order; then those of the resequencer; then there are 32 places, else "lent output shorter than
-- needed"
unfoldable pub arrive_checks : List ℕ → ℕ → ℕ → Verdict
arrive_checks b places n =
    check (is_state b) NotInOrder
    (and_then (arrive_verdict (state_in b) n)
    (check (leb 32 places) OutputTooShort
    (Ok tt)))

-- the checks of a clock end, in the order 14, 1, 5, 7: those of an arrival, then that the clock of
-- n runs, which is the last check of `clock_end_verdict`
unfoldable pub clock_end_checks : List ℕ → ℕ → ℕ → Verdict
clock_end_checks b places n = and_then (arrive_checks b places n) (clock_end_verdict (state_in b) n)

-- the number that a call returns, where a is the resequencer's answer: a refusal returns its number
-- alone
abbrev pub answer_by : Verdict → Answer → ℕ
answer_by (Ok tt) a = packed_answer a
answer_by (Err why) a = number_of why

-- the state's bytes after the call; a refusal writes nothing
abbrev pub bytes_by : Verdict → Answer → List ℕ → List ℕ
bytes_by (Ok tt) a b = state_bytes a.next
bytes_by (Err why) a b = b

-- the places for tickets after the call: the answer's 32 places are written, the unused ones with
-- 0, and places past them keep what they held; a refusal writes nothing
abbrev pub tickets_by : Verdict → Answer → List ℕ → List ℕ
tickets_by (Ok tt) a out = over a.tickets out
tickets_by (Err why) a out = out

-- ---- the arrival of number n with its ticket: the number returned, the bytes and the places for
-- tickets afterwards

abbrev pub arrive_answer : List ℕ → ℕ → ℕ → ℕ → ℕ
arrive_answer b places n ticket = answer_by (arrive_checks b places n) (arrive_of (state_in b) n ticket)

abbrev pub arrive_bytes : List ℕ → ℕ → ℕ → ℕ → List ℕ
arrive_bytes b places n ticket = bytes_by (arrive_checks b places n) (arrive_of (state_in b) n ticket) b

abbrev pub arrive_tickets : List ℕ → List ℕ → ℕ → ℕ → List ℕ
arrive_tickets b out n ticket = tickets_by (arrive_checks b (length out) n) (arrive_of (state_in b) n ticket) out

-- ---- the end of the clock of number n: the number returned, the bytes and the places for tickets
-- afterwards

abbrev pub clock_end_answer : List ℕ → ℕ → ℕ → ℕ
clock_end_answer b places n = answer_by (clock_end_checks b places n) (clock_end_of (state_in b) n)

abbrev pub clock_end_bytes : List ℕ → ℕ → ℕ → List ℕ
clock_end_bytes b places n = bytes_by (clock_end_checks b places n) (clock_end_of (state_in b) n) b

abbrev pub clock_end_tickets : List ℕ → List ℕ → ℕ → List ℕ
clock_end_tickets b out n = tickets_by (clock_end_checks b (length out) n) (clock_end_of (state_in b) n) out

-- ---- a fresh state, and good order

-- 0, or 14 if there are not 146 bytes
unfoldable pub fresh_answer : List ℕ → ℕ
fresh_answer b = cond (is_state b) 0 (number_of NotInOrder)

-- the bytes afterwards: those of a fresh state, or unchanged if there are not 146
unfoldable pub fresh_bytes : List ℕ → List ℕ
fresh_bytes b = cond (is_state b) (state_bytes fresh_state) b

-- 0 if the bytes are a state in good order, else 14
unfoldable pub order_answer : List ℕ → ℕ
order_answer b = cond (is_state b && in_order (state_in b)) 0 (number_of NotInOrder)
