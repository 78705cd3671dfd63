-- Demand 3 of the calls on lent bytes (document 01, "The resequencer": "As soon as arrivals and
-- clock ends can be called, the whole of demand 3 is owed of them"). The caller has 146 bytes,
-- which it makes fresh, and lends each call some places for tickets, whatever they hold. The state
-- is what the last call left in the bytes, and what is handed on is read off the number that a call
-- returns and the places. proofs/Bytes.antt proves `Demand3OfBytes`.
-- Assumes nothing.
use Rattle.std.specs.Prelude.{◌≡◌, Bool, true, ◌≢◌, List, [], ◌∷◌, ◌++◌, ℕ, suc, ◌+◌, ◌/◌, ◌%◌, ◌^◌, ◌≤◌, ◌<◌, length, take}
use Rattle.resequencer_bytes.specs.Stored.{fresh_bytes, arrive_answer, arrive_bytes, arrive_tickets, clock_end_answer, clock_end_bytes, clock_end_tickets}
use Rattle.resequencer_claims.specs.Calls.{Call, arrival, clock_end as end_of_clock}
use Rattle.resequencer_claims.specs.Events.{Event, packet, stray, clock_end, call_of, nothing, more, arrived}
use Rattle.resequencer_claims.specs.Demand3.{Lowest, tickets_from}

-- ---- a call on the bytes b, with the places `out` for tickets: the number that it returns, and
-- the bytes and the places afterwards

abbrev pub number_from : List ℕ → List ℕ → Call → ℕ
number_from b out (arrival sn ticket) = arrive_answer b (length out) sn ticket
number_from b out (end_of_clock sn) = clock_end_answer b (length out) sn

abbrev pub bytes_after : List ℕ → List ℕ → Call → List ℕ
bytes_after b out (arrival sn ticket) = arrive_bytes b (length out) sn ticket
bytes_after b out (end_of_clock sn) = clock_end_bytes b (length out) sn

abbrev pub places_after : List ℕ → List ℕ → Call → List ℕ
places_after b out (arrival sn ticket) = arrive_tickets b out sn ticket
places_after b out (end_of_clock sn) = clock_end_tickets b out sn

-- what a call hands on, as a caller reads it: the count is in the bits of the number from 16 up,
-- and that many places hold the tickets
abbrev pub handed_from : List ℕ → List ℕ → Call → List ℕ
handed_from b out c = take (number_from b out c / 65536) (places_after b out c)

-- ---- a list of events. `lent i` are the places that call i gets; T gives the ticket of each true
-- number

-- "the tickets handed on by all answers in turn", from call i on, with the bytes b before it
unfoldable pub handed_on_from : (ℕ → ℕ) → (ℕ → List ℕ) → ℕ → List ℕ → List Event → List ℕ
handed_on_from T lent i b [] = []
handed_on_from T lent i b (e ∷ es) =
    handed_from b (lent i) (call_of T e) ++ handed_on_from T lent (suc i) (bytes_after b (lent i) (call_of T e)) es

-- the event is one that the demand allows; as `AllowedCall`, but that a clock end is refused is
-- read off the number that it returns
abbrev pub AllowedOn : List ℕ → List ℕ → (ℕ → Bool) → Event → Type 0
AllowedOn b out has (packet n) = (expected : ℕ) → Lowest has expected → (expected ≤ n + 32) × (n ≤ expected + 31)
AllowedOn b out has (stray sn ticket) = 63 < sn
AllowedOn b out has (clock_end sn) = clock_end_answer b (length out) sn % 256 ≢ 0

-- every event of the list is allowed. "Each call gets the state the last one returned, and nobody
-- else changes it."
unfoldable pub AllowedFrom : (ℕ → ℕ) → (ℕ → List ℕ) → ℕ → List ℕ → (ℕ → Bool) → List Event → Type 0
AllowedFrom T lent i b has [] = Unit {0}
AllowedFrom T lent i b has (e ∷ es) =
    AllowedOn b (lent i) has e × AllowedFrom T lent (suc i) (bytes_after b (lent i) (call_of T e)) (more has e) es

-- ---- the memory of a caller: 146 bytes with any content, which are then made fresh, and for each
-- call 32 places or more, with any content
pub record Memory : Type 0 where
  pub bytes : List ℕ
  pub lent : ℕ → List ℕ
  pub state-size : length bytes ≡ 146
  pub enough-places : (i : ℕ) → 32 ≤ length (lent i)

-- the list is allowed from a fresh state in that memory
abbrev pub AllowedIn : (ℕ → ℕ) → Memory → List Event → Type 0
AllowedIn T m es = AllowedFrom T m.lent 0 (fresh_bytes m.bytes) nothing es

-- what it hands on
abbrev pub handed_on_in : (ℕ → ℕ) → Memory → List Event → List ℕ
handed_on_in T m es = handed_on_from T m.lent 0 (fresh_bytes m.bytes) es

-- the two sentences of the demand, as in `Demand3`; in the second one, each list has memory of its
-- own
pub record Demand3InBytes (T : ℕ → ℕ) : Type 0 where
  pub in_order : (m : Memory) (es : List Event) → AllowedIn T m es
      → (lowest : ℕ) × Lowest (arrived es) lowest × (handed_on_in T m es ≡ tickets_from T 0 lowest)
  pub begins : (m k : Memory) (es fs : List Event) → AllowedIn T m es → AllowedIn T k fs
      → ((n : ℕ) → arrived es n ≡ true → arrived fs n ≡ true)
      → (rest : List ℕ) × (handed_on_in T k fs ≡ handed_on_in T m es ++ rest)

-- the demand, for tickets that fit their 16 bits, "chosen at will, equal ones allowed"
abbrev pub Demand3OfBytes : Type 0
Demand3OfBytes = (T : ℕ → ℕ) → ((n : ℕ) → T n < 2 ^ 16) → Demand3InBytes T
