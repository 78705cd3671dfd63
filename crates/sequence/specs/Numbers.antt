-- The two kinds of sequence number, and which numbers fit a field: document 01, "The two counters"
-- and, for refusal 1, "Refusal numbers".
-- Assumes nothing.
use Rattle.std.specs.Prelude.{ℕ, Bool, nat_lt}
use Rattle.sequence.specs.declared.LinkNumber.{LinkNumber}
use Rattle.sequence.specs.declared.PacketNumber.{PacketNumber}

-- n as a link sequence number (SN)
abbrev pub link : ℕ → LinkNumber
link n = record { 0 = n }

-- n as a packet sequence number (PS or PR)
abbrev pub packet : ℕ → PacketNumber
packet n = record { 0 = n }

-- n fits a field that counts modulo m: it is below m. Refusal 1 is "SN over 63" (m is 64), and "PS
-- or PR over 15" (m is 16).
abbrev pub in_field : ℕ → ℕ → Bool
in_field m n = nat_lt n m
