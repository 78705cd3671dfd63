-- The claim about lists in which clocks may end: document 01, "The resequencer", "If each arrival
-- is at most 32 behind and 31 ahead of the number expected as told next, which after a clock end
-- need not be the lowest missing, true numbers handed on strictly rise, clocks ending or not." The
-- number expected is defined by the paragraph after it. proofs/Rising.antt proves the claim.
-- Assumes nothing.
use Rattle.std.specs.Prelude.{◌≡◌, Bool, true, false, List, [], ◌∷◌, map, ℕ, suc, ◌+◌, ◌%◌, ◌≤◌, ◌<◌, Ok, Err}
use Rattle.refusal.specs.declared.Refusal.{Refusal}
use Rattle.resequencer.specs.declared.Resequencer.{Resequencer}
use Rattle.resequencer.specs.State.{fresh_state}
use Rattle.resequencer.specs.Events.{clock_end_of}
use Rattle.resequencer_claims.specs.Events.{Event, packet, stray, clock_end, answer, handed_on, nothing, more, arrived}
use Rattle.resequencer.specs.declared.Outcome.TheVariants.{HandedOn}

-- `found` is the first number from `from` up that has not arrived, where `has` is which have
pub record FirstMissing (has : ℕ → Bool) (from found : ℕ) : Type 0 where
  pub up : from ≤ found
  pub between : (n : ℕ) → from ≤ n → n < found → has n ≡ true
  pub missing : has found ≡ false

-- `next` is the number expected after the event. Before it the number expected was `expected` and
-- the state was s; `has` is which true numbers have arrived, this event included. "After an arrival
-- it is the first from there up that has not arrived; after a clock end that isn't refused, the
-- first such past the clock's number, the one with that SN among the expected and the next 31." A
-- refused call leaves it unchanged.
abbrev pub ExpectedNext : Resequencer → (ℕ → Bool) → ℕ → Event → ℕ → Type 0
ExpectedNext s has expected (packet n) next = FirstMissing has expected next
ExpectedNext s has expected (stray sn ticket) next = next ≡ expected
ExpectedNext s has expected (clock_end sn) next =
    ((why : Refusal) → (clock_end_of s sn).outcome ≡ Err why → next ≡ expected)
    × ((clock_end_of s sn).outcome ≡ Ok HandedOn → (c : ℕ) × (expected ≤ c) × (c ≤ expected + 31) × (c % 64 ≡ sn) × FirstMissing has (suc c) next)

-- the event is one that the claim allows: "each arrival is at most 32 behind and 31 ahead of the
-- number expected"; an arrival without a true number has an SN over 63; any clock end is allowed
abbrev pub Near : ℕ → Event → Type 0
Near expected (packet n) = (expected ≤ n + 32) × (n ≤ expected + 31)
Near expected (stray sn ticket) = 63 < sn
Near expected (clock_end sn) = Unit {0}

-- every event of the list is allowed, by the number expected when it comes
unfoldable pub NearList : (ℕ → ℕ) → Resequencer → (ℕ → Bool) → ℕ → List Event → Type 0
NearList T s has expected [] = Unit {0}
NearList T s has expected (e ∷ es) =
    Near expected e
    × ((next : ℕ) → ExpectedNext s (more has e) expected e next → NearList T (answer T s e).next (more has e) next es)

-- the numbers of a list strictly rise, and the first is at least `low`
unfoldable pub StrictlyRise : ℕ → List ℕ → Type 0
StrictlyRise low [] = Unit {0}
StrictlyRise low (n ∷ ns) = (low ≤ n) × StrictlyRise (suc n) ns

-- p is true of each number of a list
unfoldable pub Each : (ℕ → Bool) → List ℕ → Type 0
Each p [] = Unit {0}
Each p (n ∷ ns) = (p n ≡ true) × Each p ns

-- the tickets by which the true numbers handed on are seen: the ticket of each true number is the
-- number itself
abbrev pub own_number : ℕ → ℕ
own_number n = n

-- the true numbers handed on by all answers, in order
abbrev pub numbers_handed_on : List Event → List ℕ
numbers_handed_on es = handed_on own_number fresh_state es

pub record Rising (es : List Event) : Type 0 where
  -- "true numbers handed on strictly rise"
  pub rise : StrictlyRise 0 (numbers_handed_on es)
  -- each of them has arrived
  pub have-arrived : Each (arrived es) (numbers_handed_on es)
  -- under any other tickets T, the tickets of the same true numbers are handed on, in the same
  -- order
  pub any-tickets : (T : ℕ → ℕ) → handed_on T fresh_state es ≡ map T (numbers_handed_on es)

-- "The number expected is 0 at first." The condition is about the run that the caller has, with the
-- caller's own tickets T, whatever they are
abbrev pub RisingClaim : Type 0
RisingClaim = (T : ℕ → ℕ) (es : List Event) → NearList T fresh_state nothing 0 es → Rising es
