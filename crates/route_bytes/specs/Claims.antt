-- The claims about tables in bytes: the bytes hold the same as the table by value, and "A refusal
-- returns its number, counts of 0 .. no lent byte changes" (document 01, "Refusal numbers").
-- proofs/Claims.antt proves them.
-- Assumes nothing.
use Rattle.std.specs.Prelude.{◌≡◌, List, ◌≢◌, ℕ, ◌/◌, ◌%◌, length}
use Rattle.little.specs.Law.{Below}
use Rattle.route.specs.declared.Table.{Table}
use Rattle.route.specs.Meaning.{IsTable}
use Rattle.route_bytes.specs.Stored.{table_in, table_bytes, empty_answer, empty_bytes, codes_answer, count_answer, choose_answer, choose_among_answer, update_answer, update_bytes, update_lost}

-- a table that is written is read back, and 512 bytes that are read are written back
pub record RoundTrips : Type 0 where
  pub read_back : (t : Table) → IsTable t → table_in (table_bytes t) ≡ t
  pub written_back : (b : List ℕ) → length b ≡ 512 → Below 256 b → table_bytes (table_in b) ≡ b

-- an answer whose lowest byte is not 0 is a refusal: its value is 0, and the lent bytes are
-- unchanged
pub record RefusalsChangeNothing : Type 0 where
  pub empty : (b : List ℕ) → empty_answer b % 256 ≢ 0 → (empty_answer b / 256 ≡ 0) × (empty_bytes b ≡ b)
  pub codes : (b : List ℕ) (a : ℕ) → codes_answer b a % 256 ≢ 0 → codes_answer b a / 256 ≡ 0
  pub count : (b : List ℕ) (a : ℕ) → count_answer b a % 256 ≢ 0 → count_answer b a / 256 ≡ 0
  pub choose : (b : List ℕ) (a last failed : ℕ) → choose_answer b a last failed % 256 ≢ 0 → choose_answer b a last failed / 256 ≡ 0
  pub choose-among : (codes last failed : ℕ) → choose_among_answer codes last failed % 256 ≢ 0 → choose_among_answer codes last failed / 256 ≡ 0
  pub update : (b list lost : List ℕ) → update_answer b list (length lost) % 256 ≢ 0
      → (update_answer b list (length lost) / 256 ≡ 0) × (update_bytes b list (length lost) ≡ b) × (update_lost b list lost ≡ lost)
