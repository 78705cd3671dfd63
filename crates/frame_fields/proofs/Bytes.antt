-- The bytes of a number in a wider word: shifted to the word's highest bytes, they come first.
-- Assumes nothing.
use mathlib.Core.Path.{◌≡◌, refl, sym, ap, ap₂, ◌∙◌}
use mathlib.Core.List.{List, [], ◌∷◌, ◌++◌}
use Prim.Native.Nat.{ℕ, zero, suc, ◌+◌, ◌-◌, ◌*◌, ◌/◌, ◌%◌, ◌^◌, ◌≤◌}
use native.Mathlib.Nat.{add_comm, mul_assoc, mul-mod_left, zero-mul, zero-add}
use native.Mathlib.Omega.{arith}
use lib.ListN.{replicate, replicate-append-replicate}
use lib.Pow.{pow-add, shl-shr, shr-shr}
use Rattle.frame_fields.specs.Rows.{total, unpack, eights, bytes_of}
use Rattle.frame_fields.proofs.Rows.{unpack-pack, pack-unpack, unpack-range, total-append}
use Rattle.frame_fields.proofs.Masks.{eights-total}

-- bits above the fields are not looked at
pub unpack-low : (ws : List ℕ) (n : ℕ) → unpack ws (n % 2 ^ total ws) ≡ unpack ws n
unpack-low ws n =
    let r = n % 2 ^ total ws in
    let e = pack-unpack 0 ws n ∙ ap (λ (x : ℕ). x + r) (zero-mul (2 ^ total ws)) ∙ zero-add r in
    sym (ap (unpack ws) e) ∙ unpack-pack 0 ws (unpack ws n) (unpack-range ws n)

-- the fields ws above the fields us
pub unpack-append : (ws us : List ℕ) (n : ℕ) → unpack (ws ++ us) n ≡ unpack ws (n / 2 ^ total us) ++ unpack us n
unpack-append [] us n = refl
unpack-append (w ∷ ws) us n =
    let e : n / 2 ^ total (ws ++ us) ≡ n / 2 ^ total us / 2 ^ total ws =
    ap (λ (x : ℕ). n / 2 ^ x) (total-append ws us ∙ add_comm (total ws) (total us)) ∙ sym (shr-shr n (total us) (total ws)) in
    λ i. e i % 2 ^ w ∷ unpack-append ws us n i

bytes-zero : (r n : ℕ) → bytes_of r (n * 2 ^ total (eights r)) ≡ replicate r 0
bytes-zero zero n = refl
bytes-zero (suc r) n =
    let t = total (eights r) in
    let e : n * 2 ^ (8 + t) ≡ n * 2 ^ 8 * 2 ^ t = ap (λ (x : ℕ). n * x) (pow-add 2 8 t) ∙ sym (mul_assoc n (2 ^ 8) (2 ^ t)) in
    let z : n * 2 ^ (8 + t) / 2 ^ t % 2 ^ 8 ≡ 0 =
    ap (λ (x : ℕ). x / 2 ^ t % 2 ^ 8) e ∙ ap (λ (x : ℕ). x % 2 ^ 8) (shl-shr (n * 2 ^ 8) t) ∙ mul-mod_left n (2 ^ 8) in
    λ i. z i ∷ (ap (bytes_of r) e ∙ bytes-zero r (n * 2 ^ 8)) i

-- s bytes in a word of eight: those after them are 0
pub bytes_high : (s n : ℕ) → s ≤ 8 → bytes_of 8 ((n * 2 ^ (64 - 8 * s)) % 2 ^ 64) ≡ bytes_of s n ++ replicate (8 - s) 0
bytes_high s n h =
    let r = 8 - s in
    let t = total (eights r) in
    let x = n * 2 ^ t in
    let wide : 64 - 8 * s ≡ t = omega (arith, eights-total r) in
    let all : 8 ≡ s + r = omega arith in
    unpack-low (eights 8) (n * 2 ^ (64 - 8 * s))
    ∙ ap (λ (k : ℕ). bytes_of 8 (n * 2 ^ k)) wide
    ∙ ap (λ (k : ℕ). bytes_of k x) all
    ∙ ap (λ (ws : List ℕ). unpack ws x) (sym (replicate-append-replicate s r 8))
    ∙ unpack-append (eights s) (eights r) x
    ∙ ap₂ ◌++◌ (ap (bytes_of s) (shl-shr n t)) (bytes-zero r n)
