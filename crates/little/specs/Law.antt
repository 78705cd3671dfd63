-- The law of numbers in bytes, for any number k of bytes: a number that is written is read back the
-- same, and bytes that are read are written back the same. `little-law` in proofs/Little.antt
-- proves it.
-- Assumes nothing.
use Rattle.std.specs.Prelude.{◌≡◌, List, ℕ, ◌*◌, ◌^◌, ◌<◌, length, get_or}
use Rattle.little.specs.Little.{little_of, little_bytes, little_list, list_bytes}

-- every element of the list is below m: bytes are below 256, numbers of k bytes below 256 ^ k
abbrev pub Below : ℕ → List ℕ → Type 0
Below m xs = (i : ℕ) → i < length xs → get_or xs i 0 < m

pub record LittleLaw : Type 0 where
  -- one number
  pub read_back : (k n : ℕ) → n < 256 ^ k → little_of (little_bytes k n) ≡ n
  pub written_back : (bs : List ℕ) → Below 256 bs → little_bytes (length bs) (little_of bs) ≡ bs
  -- a list of numbers of k bytes each
  pub list-read-back : (k : ℕ) (xs : List ℕ) → Below (256 ^ k) xs → little_list k (length xs) (list_bytes k xs) ≡ xs
  pub list-written-back : (k n : ℕ) (bs : List ℕ) → length bs ≡ n * k → Below 256 bs → list_bytes k (little_list k n bs) ≡ bs
