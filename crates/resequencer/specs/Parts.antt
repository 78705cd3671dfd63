-- What the private functions of `resequencer` compute (document 01, "The resequencer"): good order
-- as the code tests it on whole words, and the parts of handing on. proofs/Deciding.antt shows that
-- the tests together equal `in_order`; proofs/Passing.antt and proofs/Handing.antt connect the rest
-- with `advance` and `held_tickets`.
-- Assumes nothing.
use Rattle.std.specs.Prelude.{Bool, not, cond, ◌&&◌, List, [], ◌∷◌, ◌++◌, ℕ, zero, suc, ◌+◌, ◌*◌, ◌/◌, ◌%◌, ◌^◌, leb, ltb, eqb, get_or}
use Rattle.std.specs.Int.Bits.{bit_and, bit_or}
use Rattle.sequence.specs.Modular.{distance}
use Rattle.sequence.specs.declared.LinkNumber.{LinkNumber}
use Rattle.sequence.specs.Numbers.{link, in_field}
use Rattle.wordset.specs.Sets.{member, set_of, difference}
use Rattle.resequencer.specs.State.{implies}
use Rattle.lists.specs.Lists.{list_from}

-- ---- good order. h and c are the held set and the clock set, rotated so that bit d is the number
-- at distance d from NESN; e is the distance of HSNR

-- "held numbers at distance 1 to 31": bit 0 of h is 0 and h is below 2^32; "every clock on a held
-- number"; "no clocks on neighbours": c and c shifted up by one have no bit in common
unfoldable pub window_in_order : ℕ → ℕ → Bool
window_in_order h c = eqb (h % 2) 0 && (ltb h (2 ^ 32) && (eqb (difference 64 c h) 0 && eqb (bit_and c (c * 2 % 2 ^ 64)) 0))

-- "HSNR 0 when nothing is held"; else HSNR is at most 63, bit e is the highest bit of h ("HSNR is
-- the furthest"), and h + c carries out of bit e, which is so exactly if "going down from it
-- through held numbers a clock is met before a number that isn't held"
unfoldable pub hsnr_in_order : ℕ → ℕ → ℕ → ℕ → Bool
hsnr_in_order h c e hsnr = cond (eqb h 0) (eqb hsnr 0) (in_field 64 hsnr && (eqb (h / 2 ^ e) 1 && leb 2 ((h + c) / 2 ^ e)))

-- "tickets of numbers not held are 0", for number n
unfoldable pub ticket_fits : ℕ → List ℕ → ℕ → Bool
ticket_fits held tickets n = implies (not (member held n)) (eqb (get_or tickets n 0) 0)

-- one ticket added to `stray`, the bitwise or of the tickets of numbers not held
unfoldable pub gather_stray : ℕ → Bool → ℕ → ℕ
gather_stray stray is_held ticket = cond is_held stray (bit_or stray ticket)

-- ---- NESN goes up by m: the m numbers starting at NESN are passed

-- the set of the numbers passed
unfoldable pub passed_numbers : ℕ → ℕ → ℕ
passed_numbers nesn m = set_of 64 (λ n. ltb (distance 64 nesn n) m)

-- the 64 tickets after it: 0 for each number passed
unfoldable pub tickets_left : List ℕ → ℕ → ℕ → List ℕ
tickets_left tickets nesn m = list_from 0 64 (λ n. cond (ltb (distance 64 nesn n) m) 0 (get_or tickets n 0))

-- HSNR after it, where `held` is the held set after it: "when nothing is left held, HSNR becomes 0"
abbrev pub hsnr_left : ℕ → LinkNumber → LinkNumber
hsnr_left held hsnr = cond (eqb held 0) (link 0) hsnr

-- the ticket of the packet that has just arrived: one ticket for an arrival (d = 1), none for a
-- clock end (d = 0)
abbrev pub arrived_tickets : ℕ → ℕ → List ℕ
arrived_tickets zero ticket = []
arrived_tickets (suc n) ticket = ticket ∷ []

-- the tickets of the held numbers among the m numbers starting at `start`, modulo 64, in that order
unfoldable pub held_tickets_from : ℕ → List ℕ → ℕ → ℕ → List ℕ
held_tickets_from held tickets start zero = []
held_tickets_from held tickets start (suc m) = cond (member held (start % 64)) (get_or tickets (start % 64) 0 ∷ []) [] ++ held_tickets_from held tickets (suc start) m
