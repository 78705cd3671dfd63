-- What follows if a list of checks has the verdict `Done`, and which numbers it never has.
-- Assumes nothing.
use mathlib.Core.Path.{◌≡◌, refl}
use mathlib.Core.Bool.{Bool, true, false, ◌&&◌}
use mathlib.Core.Logic.{◌≢◌}
use Prim.Native.Nat.{ℕ}
use native.Mathlib.Omega.{arith}
use Rattle.refusal.specs.declared.Refusal.{Refusal}
use Rattle.refusal.specs.Numbers.{number_of, check, and_then, refusal_number, Verdict}
use Rattle.refusal.specs.Positions.{Checked, check_at, and_then_at, all_at, from, fault_number}
use Rattle.std.specs.Prelude.{Ok, Err}

-- the check held, and all after it
pub check_done : (b : Bool) (why : Refusal) (rest : Verdict) → check b why rest ≡ (Ok tt) → (b ≡ true) × (rest ≡ (Ok tt))
check_done true why rest e = (refl, e)
check_done false why rest e = let z : ◌≡◌ {A = ℕ} 0 1 = cc in absurd (omega arith)

-- both tests held
pub both_true : (a b : Bool) → (a && b) ≡ true → (a ≡ true) × (b ≡ true)
both_true true b e = (refl, e)
both_true false b e = let z : ◌≡◌ {A = ℕ} 0 1 = cc in absurd (omega arith)

-- both verdicts are `Done`
pub then-done : (v w : Verdict) → and_then v w ≡ (Ok tt) → (v ≡ (Ok tt)) × (w ≡ (Ok tt))
then-done (Ok tt) w e = (refl, e)
then-done (Err why) w e = let z : ◌≡◌ {A = ℕ} 0 1 = cc in absurd (omega arith)

-- checks never have the number n if none of their refusals has it
pub check-never : (n : ℕ) (b : Bool) (why : Refusal) (rest : Verdict) → number_of why ≢ n → refusal_number rest ≢ n → refusal_number (check b why rest) ≢ n
check-never n true why rest this later = later
check-never n false why rest this later = this

pub then_never : (n : ℕ) (v w : Verdict) → refusal_number v ≢ n → refusal_number w ≢ n → refusal_number (and_then v w) ≢ n
then_never n (Ok tt) w first later = later
then_never n (Err why) w first later = first

-- ---- checks with a position

-- the check held, and all after it
pub at-passed : (b : Bool) (why : Refusal) (at : ℕ) (rest : Checked) → check_at b why at rest ≡ (Ok tt) → (b ≡ true) × (rest ≡ (Ok tt))
at-passed true why at rest e = (refl, e)
at-passed false why at rest e = let z : ◌≡◌ {A = ℕ} 0 1 = cc in absurd (omega arith)

-- both lists of checks passed
pub both-passed : (c d : Checked) → and_then_at c d ≡ (Ok tt) → (c ≡ (Ok tt)) × (d ≡ (Ok tt))
both-passed (Ok tt) d e = (refl, e)
both-passed (Err fault) d e = let z : ◌≡◌ {A = ℕ} 0 1 = cc in absurd (omega arith)

-- counting from another place does not change whether checks passed
pub from-passed : (start : ℕ) (c : Checked) → from start c ≡ (Ok tt) → c ≡ (Ok tt)
from-passed start (Ok tt) e = refl
from-passed start (Err fault) e = let z : ◌≡◌ {A = ℕ} 0 1 = cc in absurd (omega arith)

-- nor does one place for all
pub all-passed : (at : ℕ) (v : Verdict) → all_at at v ≡ (Ok tt) → v ≡ (Ok tt)
all-passed at (Ok tt) e = refl
all-passed at (Err why) e = let z : ◌≡◌ {A = ℕ} 0 1 = cc in absurd (omega arith)

-- checks never have the number n if none of their refusals has it
pub at-never : (n : ℕ) (b : Bool) (why : Refusal) (at : ℕ) (rest : Checked) → number_of why ≢ n → fault_number rest ≢ n → fault_number (check_at b why at rest) ≢ n
at-never n true why at rest this later = later
at-never n false why at rest this later = this

pub then-at-never : (n : ℕ) (c d : Checked) → fault_number c ≢ n → fault_number d ≢ n → fault_number (and_then_at c d) ≢ n
then-at-never n (Ok tt) d first later = later
then-at-never n (Err fault) d first later = first
