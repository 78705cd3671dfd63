-- `frame_writer::row` meets its contract: the first byte goes above the places.
-- Assumes nothing.
use mathlib.Core.Path.{◌≡◌, refl, ap, ap₂}
use mathlib.Core.Bool.{Bool, ◌&&◌, ◌||◌}
use Prim.Native.Nat.{ℕ, ◌+◌, ◌-◌, ◌*◌, ◌%◌, ◌^◌, ◌<◌, ◌≤◌}
use native.Mathlib.Omega.{arith}
use lib.Dec.{eqb}
use lib.Pow.{pow_mono, shl_exact, shl_lt}
use Rattle.frame_writer.proofs.row.Goals as goal

-- the first of n bytes as the highest of seven at most
highest : (f n : ℕ) → f < 2 ^ 8 → 1 ≤ n → n ≤ 7
    → ((f * 2 ^ (8 * n - 8)) % 2 ^ 64 ≡ f * 2 ^ (8 * n - 8)) × (f * 2 ^ (8 * n - 8) < 2 ^ 56)
highest f n h some few =
    let k = 8 * n - 8 in
    let p : 2 ^ (8 + k) ≤ 2 ^ 56 = pow_mono {i = 8 + k} {j = 56} (omega arith) in
    (shl_exact 8 k 64 h (omega arith), omega (arith, p, shl_lt 8 k h))

pub overflow_add-number : goal.overflow_add-number
overflow_add-number c =
    let first : let a = c.args in
    ((a.first * 2 ^ (8 * a.size - 8)) % 2 ^ 64 ≡ a.first * 2 ^ (8 * a.size - 8)) × (a.first * 2 ^ (8 * a.size - 8) < 2 ^ 56) = highest c.args.first c.args.size c.ranges.first.fits c.requires.0 c.requires.1 in omega (arith, first.0, first.1, c.all_at.ensures.few)

pub returns : goal.returns
returns c =
    let first : let a = c.args in
    ((a.first * 2 ^ (8 * a.size - 8)) % 2 ^ 64 ≡ a.first * 2 ^ (8 * a.size - 8)) × (a.first * 2 ^ (8 * a.size - 8) < 2 ^ 56) = highest c.args.first c.args.size c.ranges.first.fits c.requires.0 c.requires.1 in
    let a = c.args in
    record {
      fits = ap (λ (t : Bool). t && (a.lv || eqb a.user 0)) c.all_below.ensures;
      size = refl;
      lv = refl;
      number = ap₂ ◌+◌ first.0 c.all_at.ensures.value;
      few = omega (arith, first.0, first.1, c.all_at.ensures.few);
    }
