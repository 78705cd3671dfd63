-- Rows of fields: a number read as values side by side, each with its own width in bits, the first
-- one in the highest bits (document 01, "Forms and frames": "Fields, first bit highest").
-- Assumes nothing.
use Rattle.std.specs.Prelude.{List, [], ◌∷◌, ℕ, ◌+◌, ◌*◌, ◌/◌, ◌%◌, ◌^◌, ◌<◌, replicate}

-- the number of bits of fields with these widths
abbrev pub total : List ℕ → ℕ
total [] = 0
total (w ∷ ws) = w + total ws

-- the number whose bits are those of a, followed by these values in these widths; a missing value
-- is 0
abbrev pub pack_after : ℕ → List ℕ → List ℕ → ℕ
pack_after a [] vs = a
pack_after a (w ∷ ws) [] = pack_after (a * 2 ^ w) ws []
pack_after a (w ∷ ws) (v ∷ vs) = pack_after (a * 2 ^ w + v) ws vs

-- the number whose fields of these widths hold these values
abbrev pub pack : List ℕ → List ℕ → ℕ
pack ws vs = pack_after 0 ws vs

-- the values in the fields of n that have these widths; the last field is in the lowest bits of n
abbrev pub unpack : List ℕ → ℕ → List ℕ
unpack [] n = []
unpack (w ∷ ws) n = n / 2 ^ total ws % 2 ^ w ∷ unpack ws n

-- there are as many values as widths, and each fits its width
abbrev pub InRange : List ℕ → List ℕ → Type 0
InRange [] [] = Unit {0}
InRange [] (v ∷ vs) = ⊥
InRange (w ∷ ws) [] = ⊥
InRange (w ∷ ws) (v ∷ vs) = (v < 2 ^ w) × InRange ws vs

-- the widths of k bytes: a byte is a field of eight bits
abbrev pub eights : ℕ → List ℕ
eights k = replicate k 8

-- the k bytes of a number, the highest first
abbrev pub bytes_of : ℕ → ℕ → List ℕ
bytes_of k n = unpack (eights k) n

-- the number that the first k of these bytes encode, the highest first
abbrev pub number_in : ℕ → List ℕ → ℕ
number_in k bytes = pack (eights k) bytes

-- every element is a byte
abbrev pub AreBytes : List ℕ → Type 0
AreBytes [] = Unit {0}
AreBytes (b ∷ bs) = (b < 256) × AreBytes bs
