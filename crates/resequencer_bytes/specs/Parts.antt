-- What the private functions of `resequencer_bytes` compute and require (document 01, "The
-- resequencer"): the two parts of a stored state, the first 18 bytes and the tickets.
-- proofs/Writing.antt shows that together they are `state_bytes`.
-- Assumes nothing.
use Rattle.std.specs.Prelude.{◌≡◌, true, false, List, ◌∷◌, ◌++◌, ℕ, ◌+◌, ◌≤◌, length, take, drop, replicate}
use Rattle.little.specs.Little.{little_bytes, little_list, list_bytes}
use Rattle.resequencer.specs.declared.Numbers.{Numbers}
use Rattle.resequencer.specs.declared.Step.{Step}
use Rattle.resequencer.specs.State.{in_order}
use Rattle.resequencer.specs.Numbers.{numbers_of, hands_on, holds, StepFits}
use Rattle.resequencer_bytes.specs.Stored.{state_in}

-- the 64 tickets that 128 bytes encode
abbrev pub tickets_in : List ℕ → List ℕ
tickets_in bytes = little_list 2 64 bytes

-- the first 18 bytes of a state: NESN, HSNR, the held set and the clock set
unfoldable pub numbers_bytes : Numbers → List ℕ
numbers_bytes m = m.nesn.0 ∷ m.hsnr.0 ∷ (little_bytes 8 m.held ++ little_bytes 8 m.clocks)

-- the bytes b with the first 18 replaced
unfoldable pub with_numbers : List ℕ → Numbers → List ℕ
with_numbers b m = numbers_bytes m ++ drop 18 b

-- the bytes b with the tickets replaced
unfoldable pub with_tickets : List ℕ → List ℕ → List ℕ
with_tickets b ts = take 18 b ++ list_bytes 2 ts

-- what `hand_on` requires: b are the bytes of a state in good order, `out` are the 32 places, all
-- 0, `held` is the state's held set, and the m numbers start at distance d from NESN. d is 1 for an
-- arrival, with its ticket, and 0 for a clock end, which has none. At most 32 numbers are passed
pub record HandOnFits (b out : List ℕ) (held start d ticket m : ℕ) : Type 0 where
  pub cleared : out ≡ replicate 32 0
  pub order : in_order (state_in b) ≡ true
  pub held-is : held ≡ (state_in b).held
  pub start_is : start ≡ (state_in b).nesn.0 + d
  pub own : d ≤ 1
  pub most : d + m ≤ 32
  pub none : d ≡ 0 → ticket ≡ 0

-- what `answer` requires: b are the bytes of a state with the numbers m, there are 32 places, and
-- the step fits m. A step that hands on was made in good order, and one that neither hands on nor
-- holds leaves the numbers unchanged
pub record AnswerFits (b out : List ℕ) (m : Numbers) (step : Step) (d n ticket : ℕ) : Type 0 where
  pub places : length out ≡ 32
  pub numbers-are : m ≡ numbers_of (state_in b)
  pub fits : StepFits m.nesn.0 step d n ticket
  pub order : hands_on step.outcome ≡ true → in_order (state_in b) ≡ true
  pub stays : hands_on step.outcome ≡ false → holds step.outcome ≡ false → step.next ≡ m
