-- `frame_writer::at` meets its contract: a byte with at most 47 bits below it loses none.
-- Assumes nothing.
use mathlib.Core.Path.{◌≡◌, ap, ◌∙◌}
use mathlib.Core.Bool.{Bool, true, false, cond, not}
use Prim.Native.Nat.{ℕ, ◌+◌, ◌*◌, ◌%◌, ◌^◌, ◌<◌, ◌≤◌}
use native.Mathlib.Nat.{zero-mul, one-mul, mul-zero}
use native.Mathlib.Omega.{arith}
use lib.Dec.{eqb}
use lib.Pow.{pow_mono, shl_exact, shl_lt}
use mir.Val.{bool_byte}
use Rattle.refusal.proofs.Clauses.{two}
use Rattle.frame_writer.proofs.at.Goals as goal

-- the code's product, where `none` is whether the field has 0 bits
abbrev product : Bool → ℕ → ℕ → ℕ
product none v k = v * ((bool_byte (not none) * 2 ^ k) % 2 ^ 64)

whole : (none : Bool) (v k : ℕ) → v < 2 ^ 8 → k < 48 → (product none v k ≡ cond none 0 (v * 2 ^ k)) × (product none v k < 2 ^ 55)
whole true v k h few =
    let e : v * ((0 * 2 ^ k) % 2 ^ 64) ≡ 0 = ap (λ (x : ℕ). v * (x % 2 ^ 64)) (zero-mul (2 ^ k)) ∙ mul-zero v in
    (e, omega (arith, e))
whole false v k h few =
    let e : v * ((1 * 2 ^ k) % 2 ^ 64) ≡ v * 2 ^ k =
    ap (λ (x : ℕ). v * x) (shl_exact 1 k 64 (omega arith) (omega arith) ∙ one-mul (2 ^ k)) in
    let p : 2 ^ (8 + k) ≤ 2 ^ 55 = pow_mono {i = 8 + k} {j = 55} (omega arith) in
    (e, omega (arith, e, p, shl_lt 8 k h))

pub overflow_mul-result : goal.overflow_mul-result
overflow_mul-result c =
    let facts : let a = c.args in let k = a.shift % 64 % 48 in let none = eqb (a.width % 16) 0 in
    (product none a.value k ≡ cond none 0 (a.value * 2 ^ k)) × (product none a.value k < 2 ^ 55) = whole (eqb (c.args.width % 16) 0) c.args.value (c.args.shift % 64 % 48) c.ranges.value.fits (omega arith) in let f = facts.1 in omega (arith, f)

pub returns : goal.returns
returns c =
    two (λ p q. record { value = p; few = q })
    (let facts : let a = c.args in let k = a.shift % 64 % 48 in let none = eqb (a.width % 16) 0 in
    (product none a.value k ≡ cond none 0 (a.value * 2 ^ k)) × (product none a.value k < 2 ^ 55) = whole (eqb (c.args.width % 16) 0) c.args.value (c.args.shift % 64 % 48) c.ranges.value.fits (omega arith) in facts)
