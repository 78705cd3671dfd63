-- Numbers in bytes, lowest byte first: how the states of the crates named `.._bytes` are stored in
-- the bytes that a caller lends. Document 01 does not say how a state is stored; the layout is the
-- library's own.
-- Assumes nothing.
use Rattle.std.specs.Prelude.{Bool, cond, List, [], ◌∷◌, ◌++◌, ℕ, zero, suc, ◌+◌, ◌*◌, ◌/◌, ◌%◌, take, drop}

-- a flag as a byte: 1 for true, 0 for false
abbrev pub flag : Bool → ℕ
flag b = cond b 1 0

-- the number that the bytes encode, lowest byte first
unfoldable pub little_of : List ℕ → ℕ
little_of [] = 0
little_of (b ∷ bs) = b + 256 * little_of bs

-- `little_bytes k n`: the number n in k bytes, lowest byte first
unfoldable pub little_bytes : ℕ → ℕ → List ℕ
little_bytes zero n = []
little_bytes (suc k) n = n % 256 ∷ little_bytes k (n / 256)

-- `little_list k n bytes`: the n numbers that `bytes` encode, k bytes each, one after the other
unfoldable pub little_list : ℕ → ℕ → List ℕ → List ℕ
little_list k zero bytes = []
little_list k (suc n) bytes = little_of (take k bytes) ∷ little_list k n (drop k bytes)

-- `list_bytes k xs`: the numbers xs in k bytes each, one after the other
unfoldable pub list_bytes : ℕ → List ℕ → List ℕ
list_bytes k [] = []
list_bytes k (x ∷ xs) = little_bytes k x ++ list_bytes k xs
