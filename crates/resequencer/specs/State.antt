-- The state of the resequencer, and its good order: document 01, "The resequencer", first paragraph
-- and the one that begins "Good order". In these definitions s is a state, n a sequence number and
-- d a distance from NESN.
-- Assumes nothing.
use Rattle.std.specs.Prelude.{Bool, false, not, ◌&&◌, ◌||◌, ℕ, zero, suc, ◌+◌, ◌%◌, leb, eqb, get_or, replicate}
use Rattle.sequence.specs.Modular.{distance}
use Rattle.sequence.specs.Numbers.{link, in_field}
use Rattle.wordset.specs.Sets.{member, every}
use Rattle.resequencer.specs.declared.Resequencer.{Resequencer}

-- "A fresh state has NESN 0 and all else 0."
abbrev pub fresh_state : Resequencer
fresh_state = record { nesn = link 0; hsnr = link 0; held = 0; clocks = 0; tickets = replicate 64 0 }

-- ---- reading a state

-- number n is held: bit n of the held set is 1
abbrev pub is_held : Resequencer → ℕ → Bool
is_held s n = member s.held n

-- a clock runs for number n: bit n of the clock set is 1
abbrev pub has_clock : Resequencer → ℕ → Bool
has_clock s n = member s.clocks n

-- the ticket of number n
abbrev pub ticket_of : Resequencer → ℕ → ℕ
ticket_of s n = get_or s.tickets n 0

-- the distance from NESN to number n, modulo 64
abbrev pub ahead : Resequencer → ℕ → ℕ
ahead s n = distance 64 s.nesn.0 n

-- the number at distance d from NESN
abbrev pub number_at : Resequencer → ℕ → ℕ
number_at s d = (s.nesn.0 + d) % 64

-- ---- good order, clause by clause

-- if a then b
abbrev pub implies : Bool → Bool → Bool
implies a b = not a || b

-- the held set is empty
abbrev pub nothing_held : Resequencer → Bool
nothing_held s = eqb s.held 0

-- "HSNR 0 when nothing is held"
abbrev pub hsnr_idle : Resequencer → Bool
hsnr_idle s = implies (nothing_held s) (eqb s.hsnr.0 0)

-- "held numbers at distance 1 to 31"
unfoldable pub held_in_window : Resequencer → Bool
held_in_window s = every 64 (λ n. implies (is_held s n) (leb 1 (ahead s n) && leb (ahead s n) 31))

-- "every clock on a held number"
unfoldable pub clocks_on_held : Resequencer → Bool
clocks_on_held s = every 64 (λ n. implies (has_clock s n) (is_held s n))

-- "no clocks on neighbours": never on both n and n + 1; 63 and 0 are neighbours
unfoldable pub clocks_apart : Resequencer → Bool
clocks_apart s = every 64 (λ n. not (has_clock s n && has_clock s ((n + 1) % 64)))

-- "HSNR is the furthest": it is held, and no held number is further from NESN
unfoldable pub hsnr_furthest : Resequencer → Bool
hsnr_furthest s = is_held s s.hsnr.0 && every 64 (λ n. implies (is_held s n) (leb (ahead s n) (ahead s s.hsnr.0)))

-- "going down from it through held numbers a clock is met before a number that isn't held",
-- starting at distance d. `held` and `clock` are whether the number at a distance is held and has a
-- clock. The search ends with false at the first distance whose number is not held, and with true
-- at the first that has a clock; distance 0 is NESN, which is not held
unfoldable pub meets_clock : (ℕ → Bool) → (ℕ → Bool) → ℕ → Bool
meets_clock held clock zero = false
meets_clock held clock (suc d) = held (suc d) && (clock (suc d) || meets_clock held clock d)

-- the same, starting at HSNR
abbrev pub clock_below_hsnr : Resequencer → Bool
clock_below_hsnr s = meets_clock (λ d. is_held s (number_at s d)) (λ d. has_clock s (number_at s d)) (ahead s s.hsnr.0)

-- "tickets of numbers not held are 0"
unfoldable pub tickets_of_held : Resequencer → Bool
tickets_of_held s = every 64 (λ n. implies (not (is_held s n)) (eqb (ticket_of s n) 0))

-- good order: all clauses in document 01's order. `in_field 64` is "NESN at most 63"; the clauses
-- on the furthest held number and its clock apply "if any is held"
unfoldable pub in_order : Resequencer → Bool
in_order s =
    hsnr_idle s
    && (in_field 64 s.nesn.0
    && (held_in_window s
    && (clocks_on_held s
    && (clocks_apart s
    && (implies (not (nothing_held s)) (hsnr_furthest s && clock_below_hsnr s)
    && tickets_of_held s)))))
