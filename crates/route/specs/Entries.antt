-- Route lists: document 01, "Interrogators and ground addresses": "A route list has entries II 4,
-- AD 1, ND 3, then ND + 1 address bytes (000, 5.2.5.3.3.9). Each entry is read as the rest of the
-- list from where the last one ended."
-- Assumes nothing.
use Rattle.std.specs.Prelude.{Bool, false, not, cond, ◌&&◌, ◌||◌, List, [], ◌∷◌, ℕ, zero, suc, ◌+◌, ◌/◌, ◌%◌, leb, eqb, length, take, drop}

-- An entry: the code II, whether it adds (AD = 1) or deletes (AD = 0), and the addresses that it
-- names.
pub record Entry : Type 0 where
  pub code : ℕ
  pub adding : Bool
  pub addresses : List ℕ

-- the entry with first byte b, before the bytes `rest`: II is the high 4 bits of b, AD the bit
-- below them, ND the low 3 bits; the addresses are the first ND + 1 bytes of `rest`
abbrev pub entry : ℕ → List ℕ → Entry
entry b rest = record { code = b / 16; adding = eqb (b / 8 % 2) 1; addresses = take (b % 8 + 1) rest }

-- The result of reading a list: its entries in their order if all are whole, or `cut` if the last
-- entry is cut.
pub data Parsed : Type 0 where
  cut : Parsed
  whole : List Entry → Parsed

-- an entry in front of the entries after it; `cut` if one of those is cut
abbrev pub follow : Entry → Parsed → Parsed
follow e cut = cut
follow e (whole es) = whole (e ∷ es)

-- the entries of a list, at most n of them: an entry is cut if fewer than ND + 1 bytes come after
-- its first byte
unfoldable pub parse : ℕ → List ℕ → Parsed
parse zero list = whole []
parse (suc n) [] = whole []
parse (suc n) (b ∷ rest) = cond (leb (b % 8 + 1) (length rest)) (follow (entry b rest) (parse n (drop (b % 8 + 1) rest))) cut

-- all entries of a list: a list of n bytes has at most n of them
unfoldable pub entries_in : List ℕ → Parsed
entries_in list = parse (length list) list

-- ---- a list of entries as two sets of pairs of code and address

-- a is in the list
unfoldable pub is_in : ℕ → List ℕ → Bool
is_in a [] = false
is_in a (x ∷ xs) = eqb a x || is_in a xs

-- the entry names the pair of code i and address a: its code is i, and a is one of its addresses
abbrev pub names : Entry → ℕ → ℕ → Bool
names e i a = eqb i e.code && is_in a e.addresses

-- an entry with AD = 1 names the pair of code i and address a
unfoldable pub adds : List Entry → ℕ → ℕ → Bool
adds [] i a = false
adds (e ∷ es) i a = (e.adding && names e i a) || adds es i a

-- an entry with AD = 0 names the pair of code i and address a
unfoldable pub deletes : List Entry → ℕ → ℕ → Bool
deletes [] i a = false
deletes (e ∷ es) i a = (not e.adding && names e i a) || deletes es i a
