-- The claim that refusals change nothing, for the resequencer's calls: document 01, "Refusal
-- numbers", "A refusal returns its number, counts of 0, unused places 0 and the same state". `plain
-- outcome s` is the answer with that outcome, count 0, all places 0 and the next state s.
-- proofs/Refusing.antt proves the claim.
-- Assumes nothing.
use Rattle.std.specs.Prelude.{◌≡◌, ◌≢◌, ℕ}
use Rattle.resequencer.specs.declared.Resequencer.{Resequencer}
use Rattle.resequencer.specs.Events.{plain, arrive_of, clock_end_of}
use Rattle.refusal.specs.Numbers.{refusal_number}

-- in any state s, an arrival or a clock end whose outcome has a refusal number other than 0 hands
-- nothing on and returns s
pub record RefusalsChangeNothing : Type 0 where
  pub arrival : (s : Resequencer) (n ticket : ℕ) → refusal_number (arrive_of s n ticket).outcome ≢ 0
      → arrive_of s n ticket ≡ plain (arrive_of s n ticket).outcome s
  pub clock-end : (s : Resequencer) (n : ℕ) → refusal_number (clock_end_of s n).outcome ≢ 0 → clock_end_of s n ≡ plain (clock_end_of s n).outcome s
