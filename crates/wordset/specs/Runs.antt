-- Counts of trailing ones and zeros in a rotated word: document 02, Q-2, as claims with the width k
-- of the word as a parameter. `run-law`, `lowest-law` and `first-law` in proofs/Runs.antt prove
-- them for every k; `TrailingCounts` has them at the two widths that the request names.
-- Assumes nothing.
use Rattle.std.specs.Prelude.{◌≡◌, ℕ, ◌+◌, ◌-◌, ◌%◌, ◌^◌, ◌<◌, ◌≤◌, true, false}
use Rattle.std.specs.Int.Count.{count_trailing_zeros}
use Rattle.wordset.specs.Sets.{member, lowest, rotate, run, first_from}
use Rattle.wordset.specs.Laws.{IsLowest}

-- the number of ones at the low end of a word of k bits: of zeros at that end of its complement
abbrev pub trailing_ones : ℕ → ℕ → ℕ
trailing_ones k w = count_trailing_zeros k (2 ^ k - 1 - w)

-- ---- the run of ones

-- r is the length of the run of ones in w that starts at place s and goes on past k - 1 to 0: each
-- place of the run has a one, and the place after it has a zero, unless the run is the whole word
pub record IsRun (k w s r : ℕ) : Type 0 where
  pub at_most : r ≤ k
  pub ones : (j : ℕ) → j < r → member w ((s + j) % k) ≡ true
  pub ends : r < k → member w ((s + r) % k) ≡ false

pub record RunLaw (k : ℕ) : Type 0 where
  -- the trailing ones of the word rotated down by s are the run that starts at s
  pub counted : (w s : ℕ) → IsRun k w s (trailing_ones k (rotate k w s))
  -- no other number is its length
  pub only : (w s r : ℕ) → IsRun k w s r → r ≡ trailing_ones k (rotate k w s)
  -- this count is the `run` of the promises
  pub is-run : (w s : ℕ) → trailing_ones k (rotate k w s) ≡ run k w s
  -- the run of a word of ones is the whole word, from any start
  pub full : (s : ℕ) → run k (2 ^ k - 1) s ≡ k
  -- where the start has a zero the run is empty
  pub none : (w s : ℕ) → member w (s % k) ≡ false → run k w s ≡ 0

-- ---- the lowest one

pub record LowestLaw (k : ℕ) : Type 0 where
  -- the trailing zeros of a word of k bits that is not 0 are the place of its lowest one
  pub counted : (w : ℕ) → 0 < w → w < 2 ^ k → IsLowest w (count_trailing_zeros k w)
  pub below : (w : ℕ) → 0 < w → w < 2 ^ k → count_trailing_zeros k w < k
  -- no other place is
  pub only : (w n : ℕ) → w < 2 ^ k → IsLowest w n → n ≡ count_trailing_zeros k w
  -- this count is the `lowest` of the promises, for the word 0 too, where it is k
  pub is-lowest : (w : ℕ) → count_trailing_zeros k w ≡ lowest k w

-- ---- the first one from a start

-- n is the first place of a one in w, going up from place s and on past k - 1 to 0
pub record IsFirst (k w s n : ℕ) : Type 0 where
  pub steps : ℕ
  pub near : steps < k
  pub place : n ≡ (s + steps) % k
  pub in-set : member w n ≡ true
  pub none_before : (j : ℕ) → j < steps → member w ((s + j) % k) ≡ false

pub record FirstLaw (k : ℕ) : Type 0 where
  -- in a word that is not 0, as many steps as the word rotated down by s has trailing zeros lead
  -- from s to the first one
  pub counted : (w s : ℕ) → 0 < w → w < 2 ^ k → IsFirst k w s ((s + count_trailing_zeros k (rotate k w s)) % k)
  -- no other place is the first one
  pub only : (w s n : ℕ) → IsFirst k w s n → n ≡ first_from k w s
  -- this place is the `first_from` of the promises
  pub is-first : (w s : ℕ) → 0 < w → w < 2 ^ k → first_from k w s ≡ (s + count_trailing_zeros k (rotate k w s)) % k
  pub of_none : (s : ℕ) → first_from k 0 s ≡ k
  -- from the start 0 it is the lowest one
  pub from_zero : (w : ℕ) → first_from k w 0 ≡ lowest k w

-- ---- the request's two sentences, and the same at the other width

pub record TrailingCounts : Type 0 where
  -- "for every 64-bit word and start that the count is the length of the run of ones from there, on
  -- past 63 to 0, at most 64"
  pub runs-in-64 : RunLaw 64
  -- "for every nonzero 16-bit word the place of its lowest one"
  pub lowest-in-16 : LowestLaw 16
  pub runs-in-16 : RunLaw 16
  pub lowest-in-64 : LowestLaw 64
  -- for the choice that begins at a start code
  pub first-in-16 : FirstLaw 16
