-- Demand 3, as one claim about the whole list of events (document 01, "The resequencer", "Demand 3
-- is one claim about the whole list"). The quotes are from the demand. proofs/Demand3.antt proves
-- `Demand3 T` for every T, the tickets "chosen at will, equal ones allowed".
-- Assumes nothing.
use Rattle.std.specs.Prelude.{◌≡◌, Bool, true, false, List, [], ◌∷◌, ◌++◌, ℕ, zero, suc, ◌+◌, ◌≤◌, ◌<◌, Err}
use Rattle.refusal.specs.declared.Refusal.{Refusal}
use Rattle.resequencer.specs.declared.Resequencer.{Resequencer}
use Rattle.resequencer.specs.State.{fresh_state}
use Rattle.resequencer.specs.Events.{clock_end_of}
use Rattle.resequencer_claims.specs.Events.{Event, packet, stray, clock_end, answer, handed_on, nothing, more, arrived}

-- "the lowest true number that has not arrived", where `has` is which have: all below it have
-- arrived, and it has not
pub record Lowest (has : ℕ → Bool) (lowest : ℕ) : Type 0 where
  pub below : (n : ℕ) → n < lowest → has n ≡ true
  pub missing : has lowest ≡ false

-- The event is one that the demand allows, in the state s before it and where `has` is which true
-- numbers have arrived before it. "Each arrival's true number is at most 32 behind and 31 ahead of
-- the one then expected, the lowest that has not arrived"; an arrival without a true number has an
-- SN over 63, so that it is refused; "Every clock end in the list is one that document 01 refuses".
abbrev pub AllowedCall : Resequencer → (ℕ → Bool) → Event → Type 0
AllowedCall s has (packet n) = (expected : ℕ) → Lowest has expected → (expected ≤ n + 32) × (n ≤ expected + 31)
AllowedCall s has (stray sn ticket) = 63 < sn
AllowedCall s has (clock_end sn) = (why : Refusal) × ((clock_end_of s sn).outcome ≡ Err why)

-- every event of the list is allowed. "Each call gets the state the last one returned, and nobody
-- else changes it."
unfoldable pub Allowed : (ℕ → ℕ) → Resequencer → (ℕ → Bool) → List Event → Type 0
Allowed T s has [] = Unit {0}
Allowed T s has (e ∷ es) = AllowedCall s has e × Allowed T (answer T s e).next (more has e) es

-- the list is allowed "from a fresh resequencer"
abbrev pub AllowedList : (ℕ → ℕ) → List Event → Type 0
AllowedList T es = Allowed T fresh_state nothing es

-- the tickets of the m true numbers n, n + 1 and so on, in order
unfoldable pub tickets_from : (ℕ → ℕ) → ℕ → ℕ → List ℕ
tickets_from T n zero = []
tickets_from T n (suc m) = T n ∷ tickets_from T (suc n) m

pub record Demand3 (T : ℕ → ℕ) : Type 0 where
  -- "after every such list the tickets handed on by all answers in turn are exactly those of 0 up
  -- to, not including, the lowest true number that has not arrived, in order"
  pub in_order : (es : List Event) → AllowedList T es
      → (lowest : ℕ) × Lowest (arrived es) lowest × (handed_on T fresh_state es ≡ tickets_from T 0 lowest)
  -- "Take any two such lists under the same tickets, whatever the order in each. If every true
  -- number that arrives in the first also arrives in the second, what the second hands on begins
  -- with everything the first did, in the same order."
  pub begins : (es fs : List Event) → AllowedList T es → AllowedList T fs
      → ((n : ℕ) → arrived es n ≡ true → arrived fs n ≡ true)
      → (rest : List ℕ) × (handed_on T fresh_state fs ≡ handed_on T fresh_state es ++ rest)
