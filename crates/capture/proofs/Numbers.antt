-- Numbers of four bytes in lists, written at an index.
-- Assumes nothing.
use mathlib.Core.Path.{◌≡◌, ap, ◌∙◌}
use mathlib.Core.List.{List, ◌++◌}
use Prim.Native.Nat.{ℕ, ◌+◌, ◌≤◌}
use native.Mathlib.Omega.{arith}
use lib.ListN.{length, drop, length-append}
use lib.Seq.{paste, length-paste}
use Rattle.lists.proofs.Copying.{paste-after}
use Rattle.frame_fields.specs.Rows.{bytes_of}

-- a number written right after what has been written
pub record Grown (done o₀ out : List ℕ) (at n : ℕ) : Type 0 where
  pub long : length (done ++ bytes_of 4 n) ≡ at + 4
  pub text : out ≡ (done ++ bytes_of 4 n) ++ drop (at + 4) o₀

pub grows : (done o₀ o out : List ℕ) (at n : ℕ) → length done ≡ at → o ≡ done ++ drop at o₀ → out ≡ paste o at (bytes_of 4 n) 4 → Grown done o₀ out at n
grows done o₀ o out at n el et eo = record {
  long = length-append done (bytes_of 4 n) ∙ ap (λ (x : ℕ). x + 4) el;
  text = eo ∙ ap (λ (x : List ℕ). paste x at (bytes_of 4 n) 4) et ∙ paste-after done o₀ (bytes_of 4 n) at el;
}

-- a number written leaves the length
pub put-kept : (o out : List ℕ) (at n : ℕ) → at + 4 ≤ length o → out ≡ paste o at (bytes_of 4 n) 4 → length out ≡ length o
put-kept o out at n h e = ap length e ∙ length-paste o at (bytes_of 4 n) 4 h (omega arith)
