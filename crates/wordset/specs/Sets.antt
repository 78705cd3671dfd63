-- Sets of small numbers in one word: document 01, "The resequencer": "Both sets are words with one
-- bit per sequence number", and "Interrogators and ground addresses": "a set of the 16 codes II".
-- Bit j of the word, counted from the lowest, is 1 exactly if j is in the set; a word of k bits
-- holds a set of numbers below k. Every operation is defined by which numbers its result has as
-- members; only `bit` and `set_of` depend on how a set is encoded.
-- Assumes nothing.
use Rattle.std.specs.Prelude.{ℕ, zero, suc, ◌+◌, ◌*◌, ◌/◌, ◌%◌, ◌^◌, Bool, true, false, cond, not, ◌&&◌, ◌||◌, ◌==◌, nat_lt}

-- bit j of the word w, 0 or 1
unfoldable pub bit : ℕ → ℕ → ℕ
bit w j = w / 2 ^ j % 2

-- j is in the set w
unfoldable pub member : ℕ → ℕ → Bool
member w j = bit w j == 1

-- 1 for true, 0 for false
abbrev pub digit : Bool → ℕ
digit true = 1
digit false = 0

-- the set of the numbers below k for which p is true
unfoldable pub set_of : ℕ → (ℕ → Bool) → ℕ
set_of zero p = 0
set_of (suc k) p = digit (p 0) + 2 * set_of k (λ j. p (suc j))

-- for how many of the numbers below k p is true
unfoldable pub how_many : ℕ → (ℕ → Bool) → ℕ
how_many zero p = 0
how_many (suc k) p = digit (p 0) + how_many k (λ j. p (suc j))

-- the lowest number below k for which p is true; k if there is none
unfoldable pub first : ℕ → (ℕ → Bool) → ℕ
first zero p = 0
first (suc k) p = cond (p 0) 0 (suc (first k (λ j. p (suc j))))

-- ---- the operations on sets of numbers below k

-- the set with n added; a number n that is not below k changes nothing
abbrev pub with : ℕ → ℕ → ℕ → ℕ
with k w n = set_of k (λ j. member w j || j == n)

-- the numbers that are in a or in b
abbrev pub union : ℕ → ℕ → ℕ → ℕ
union k a b = set_of k (λ j. member a j || member b j)

-- the numbers that are in a and not in b
abbrev pub difference : ℕ → ℕ → ℕ → ℕ
difference k a b = set_of k (λ j. member a j && not (member b j))

-- how many numbers are in the set
abbrev pub count : ℕ → ℕ → ℕ
count k w = how_many k (member w)

-- the lowest number in the set; k if it is empty
abbrev pub lowest : ℕ → ℕ → ℕ
lowest k w = first k (member w)

-- the set without its lowest number
abbrev pub without_lowest : ℕ → ℕ → ℕ
without_lowest k w = set_of k (λ j. member w j && not (j == lowest k w))

-- ---- numbers modulo k: k - 1 is followed by 0

-- the set w rotated down by s: j is in it exactly if s + j modulo k is in w
abbrev pub rotate : ℕ → ℕ → ℕ → ℕ
rotate k w s = set_of k (λ j. member w ((s + j) % k))

-- how many numbers starting at s are in the set without a gap, modulo k; at most k
abbrev pub run : ℕ → ℕ → ℕ → ℕ
run k w s = first k (λ j. not (member w ((s + j) % k)))

-- the numbers in the set among the n numbers starting at s, modulo k, each as its distance from s
abbrev pub stretch : ℕ → ℕ → ℕ → ℕ → ℕ
stretch k w s n = set_of k (λ j. member w ((s + j) % k) && nat_lt j n)

-- how far up from s the first number in the set is, modulo k; k if the set is empty
abbrev pub ahead : ℕ → ℕ → ℕ → ℕ
ahead k w s = first k (λ j. member w ((s + j) % k))

-- the first number in the set going up from s, modulo k; k if the set is empty
abbrev pub first_from : ℕ → ℕ → ℕ → ℕ
first_from k w s = cond (nat_lt (ahead k w s) k) ((s + ahead k w s) % k) k

-- ---- a test of every number below k: whether p is true for all of them

unfoldable pub every : ℕ → (ℕ → Bool) → Bool
every zero p = true
every (suc k) p = p k && every k p
