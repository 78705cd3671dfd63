-- The laws of sets in words of k bits, as one claim with the width k as a parameter: `set-laws` in
-- proofs/Sets.antt proves it for every k.
-- Assumes nothing.
use Rattle.std.specs.Prelude.{◌≡◌, ℕ, ◌+◌, ◌%◌, ◌^◌, ◌<◌, ◌≤◌, Bool, true, false, not, ◌&&◌, ◌||◌, ◌==◌, nat_lt}
use Rattle.std.specs.Int.Count.{ones}
use Rattle.wordset.specs.Sets.{member, set_of, with, union, difference, count, lowest, without_lowest, rotate, stretch}

-- n is the lowest number in the set w
pub record IsLowest (w n : ℕ) : Type 0 where
  pub in-set : member w n ≡ true
  pub least : (j : ℕ) → j < n → member w j ≡ false

pub record SetLaws (k : ℕ) : Type 0 where
  -- membership after each operation
  pub member-with : (w n j : ℕ) → j < k → member (with k w n) j ≡ (member w j || j == n)
  pub member_union : (a b j : ℕ) → j < k → member (union k a b) j ≡ (member a j || member b j)
  pub member-difference : (a b j : ℕ) → j < k → member (difference k a b) j ≡ (member a j && not (member b j))
  pub member-without : (w j : ℕ) → j < k → member (without_lowest k w) j ≡ (member w j && not (j == lowest k w))
  pub member-rotate : (w s j : ℕ) → j < k → member (rotate k w s) j ≡ member w ((s + j) % k)
  pub member-stretch : (w s n j : ℕ) → j < k → member (stretch k w s n) j ≡ (member w ((s + j) % k) && nat_lt j n)
  -- each operation gives a word of k bits, and such a word has only members below k
  pub fits : (p : ℕ → Bool) → set_of k p < 2 ^ k
  pub member-past : (w j : ℕ) → w < 2 ^ k → k ≤ j → member w j ≡ false
  -- two words of k bits with the same members are equal
  pub same : (a b : ℕ) → a < 2 ^ k → b < 2 ^ k → ((j : ℕ) → j < k → member a j ≡ member b j) → a ≡ b
  -- the machine's count of ones is the number of members
  pub count_ones : (w : ℕ) → w < 2 ^ k → ones w ≡ count k w
  -- the lowest member; k for an empty set
  pub lowest-none : lowest k 0 ≡ k
  pub lowest-is : (w : ℕ) → lowest k w < k → IsLowest w (lowest k w)
  pub lowest-below : (w : ℕ) → 0 < w → w < 2 ^ k → lowest k w < k
