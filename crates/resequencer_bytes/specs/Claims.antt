-- The claims about the stored state: a state written to bytes is read back the same, bytes read are
-- written back the same, and a refusal changes nothing (document 01, "Refusal numbers").
-- proofs/Claims.antt proves them.
-- Assumes nothing.
use Rattle.std.specs.Prelude.{◌≡◌, List, ◌≢◌, ℕ, ◌%◌, ◌^◌, ◌<◌, length}
use Rattle.little.specs.Law.{Below}
use Rattle.resequencer.specs.declared.Resequencer.{Resequencer}
use Rattle.resequencer_bytes.specs.Stored.{state_in, state_bytes, arrive_answer, arrive_bytes, arrive_tickets, clock_end_answer, clock_end_bytes, clock_end_tickets}

-- the state fits the types of the code: NESN and HSNR in a byte, the two sets in 64 bits, and 64
-- tickets of 16 bits
pub record FitsTypes (s : Resequencer) : Type 0 where
  pub nesn : s.nesn.0 < 256
  pub hsnr : s.hsnr.0 < 256
  pub held : s.held < 2 ^ 64
  pub clocks : s.clocks < 2 ^ 64
  pub count : length s.tickets ≡ 64
  pub tickets : Below (2 ^ 16) s.tickets

-- `Below 256 b`: every element of b is a byte
pub record RoundTrips : Type 0 where
  pub read_back : (s : Resequencer) → FitsTypes s → state_in (state_bytes s) ≡ s
  pub written_back : (b : List ℕ) → length b ≡ 146 → Below 256 b → state_bytes (state_in b) ≡ b

-- "A refusal returns its number, counts of 0, unused places 0 and the same state; no lent byte
-- changes." The refusal number is the lowest byte of the number returned. If it is not 0, the rest
-- of the number returned is 0, and no byte of the state and no place for a ticket changes.
pub record RefusalsChangeNothing : Type 0 where
  pub arrival : (b out : List ℕ) (n ticket : ℕ) → arrive_answer b (length out) n ticket % 256 ≢ 0
      → (arrive_answer b (length out) n ticket < 256)
      × (arrive_bytes b (length out) n ticket ≡ b)
      × (arrive_tickets b out n ticket ≡ out)
  pub clock-end : (b out : List ℕ) (n : ℕ) → clock_end_answer b (length out) n % 256 ≢ 0
      → (clock_end_answer b (length out) n < 256)
      × (clock_end_bytes b (length out) n ≡ b)
      × (clock_end_tickets b out n ≡ out)
