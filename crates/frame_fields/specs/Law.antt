-- The law of rows of fields, for any widths (document 01, "Forms and frames"). proofs/Rows.antt
-- proves it (`row-law`).
-- Assumes nothing.
use Rattle.std.specs.Prelude.{◌≡◌, List, ℕ, ◌^◌, ◌<◌}
use Rattle.frame_fields.specs.Rows.{total, pack, unpack, InRange}

-- ws and us are widths, vs are values, n is a number
pub record RowLaw : Type 0 where
  -- values that are packed and then unpacked are the same again
  pub unpack-pack : (ws vs : List ℕ) → InRange ws vs → unpack ws (pack ws vs) ≡ vs
  -- a number that is unpacked and then packed is the same again
  pub pack-unpack : (ws : List ℕ) (n : ℕ) → n < 2 ^ total ws → pack ws (unpack ws n) ≡ n
  -- values that are packed by ws, split and put together again by other widths us of the same sum,
  -- and unpacked by ws are the same again: so a header is written as bytes and read from bytes
  pub re_read : (ws us vs : List ℕ) → total ws ≡ total us → InRange ws vs → unpack ws (pack us (unpack us (pack ws vs))) ≡ vs
