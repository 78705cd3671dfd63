-- Bytes that are 0: counted one by one, and as the end of a number.
-- Assumes nothing.
use mathlib.Core.Path.{◌≡◌, refl, sym, ap, ◌∙◌, subst}
use mathlib.Core.Bool.{Bool, true, false, cond, ◌&&◌}
use mathlib.Core.List.{List, [], ◌∷◌, ◌++◌}
use Prim.Native.Nat.{ℕ, zero, suc, ◌+◌, ◌-◌, ◌*◌, ◌/◌, ◌%◌, ◌^◌, ◌<◌, ◌≤◌}
use native.Mathlib.Numerals.{add-one}
use native.Mathlib.Nat.{mod-eq_of_lt}
use native.Mathlib.Omega.{arith}
use lib.Count.{count_trailing_zeros, trailing_le, under}
use lib.Dec.{eqb}
use lib.ListN.{length, take, drop, get_or, take-append-drop, length-drop, replicate-append-replicate}
use lib.Pow.{pow_pos, shr_le, low, field, mod-mod-pow, mod-pow-add}
use lib.Seq.{drop-cons, drop-drop, take_all}
use borrow.Author.Tests.{eq-eqb, ne_eqb}
use Rattle.refusal.proofs.Checks.{both_true}
use Rattle.frame_fields.specs.Rows.{total, pack_after, InRange, eights, number_in, AreBytes}
use Rattle.frame_fields.proofs.Rows.{pack-leads, pack-append, bytes-range}
use Rattle.frame_fields.proofs.Masks.{eights-total}
use Rattle.frame_form.specs.Frames.{all_zero}
use Rattle.frame_reader.specs.Faults.{zeros_first}

-- ---- one by one

-- a zero byte is counted, and the count goes on
pub count-step : (i : ℕ) (s : List ℕ) → i < length s → get_or s i 0 ≡ 0 → i + zeros_first (drop i s) ≡ i + 1 + zeros_first (drop (i + 1) s)
count-step i s h e =
    let one : zeros_first (drop i s) ≡ suc (zeros_first (drop (i + 1) s)) = rw (add-one, drop-cons s i 0 h, e) in
    omega (arith, one)

-- a byte that is not zero ends it
pub count-stop : (i : ℕ) (s : List ℕ) → i < length s → eqb (get_or s i 0) 0 ≡ false → zeros_first (drop i s) ≡ 0
count-stop i s h e = rw (drop-cons s i 0 h, e)

-- the count is the length exactly if all bytes are 0
pub count-all : (s : List ℕ) → all_zero s ≡ true → zeros_first s ≡ length s
count-all [] h = refl
count-all (b ∷ bs) h =
    let p = both_true (eqb b 0) (all_zero bs) h in
    ap (λ (t : Bool). cond t (suc (zeros_first bs)) 0) p.0 ∙ ap suc (count-all bs p.1)

pub count-some : (s : List ℕ) → all_zero s ≡ false → zeros_first s < length s
count-some [] h = let z : ◌≡◌ {A = ℕ} 0 1 = cc in absurd (omega arith)
count-some (b ∷ bs) h = go (λ e. count-some bs e) (eqb b 0) refl
  where
    go : (all_zero bs ≡ false → zeros_first bs < length bs) → (t : Bool) → eqb b 0 ≡ t → cond (eqb b 0) (suc (zeros_first bs)) 0 < suc (length bs)
    go rest true e =
        let here = ap (λ (t : Bool). cond t (suc (zeros_first bs)) 0) e in
        let later = rest (sym (ap (λ (t : Bool). t && all_zero bs) e) ∙ h) in
        omega (arith, here, later)
    go rest false e = let here = ap (λ (t : Bool). cond t (suc (zeros_first bs)) 0) e in omega (arith, here)

pub count-le : (s : List ℕ) → zeros_first s ≤ length s
count-le s = go (all_zero s) refl
  where
    go : (b : Bool) → all_zero s ≡ b → zeros_first s ≤ length s
    go true e = omega (arith, count-all s e)
    go false e = omega (arith, count-some s e)

-- the bytes after the first n: all are 0, or one that is not stands before the end
pub all_after : (n : ℕ) (s : List ℕ) → all_zero (drop n s) ≡ true → length s ≤ n + zeros_first (drop n s)
all_after n s e = omega (arith, count-all (drop n s) e, length-drop n s)

pub some_after : (n : ℕ) (s : List ℕ) → all_zero (drop n s) ≡ false → n + zeros_first (drop n s) < length s
some_after n s e = omega (arith, count-some (drop n s) e, length-drop n s)

pub all-counted : (n : ℕ) (s : List ℕ) → n ≤ length s → eqb (n + zeros_first (drop n s)) (length s) ≡ all_zero (drop n s)
all-counted n s h = go (all_zero (drop n s)) refl
  where
    go : (b : Bool) → all_zero (drop n s) ≡ b → eqb (n + zeros_first (drop n s)) (length s) ≡ b
    go true e = eq-eqb (n + zeros_first (drop n s)) (length s) (omega (arith, h, count-all (drop n s) e, length-drop n s))
    go false e = ne_eqb (n + zeros_first (drop n s)) (length s) (λ x. omega (arith, x, some_after n s e))

-- ---- the end of a number

-- a number that ends in m zeros
trailing-mod : (m k n : ℕ) → m ≤ count_trailing_zeros k n → n % 2 ^ m ≡ 0
unfolding count_trailing_zeros
trailing-mod zero k n h = omega arith
trailing-mod (suc m) zero n h = absurd (omega (arith, h))
trailing-mod (suc m) (suc k) n h = go (λ x. trailing-mod m k (n / 2) x) (n % 2) refl
  where
    go : (m ≤ count_trailing_zeros k (n / 2) → n / 2 % 2 ^ m ≡ 0) → (d : ℕ) → n % 2 ≡ d → n % 2 ^ suc m ≡ 0
    go rest zero e =
        let more : suc m ≤ suc (count_trailing_zeros k (n / 2)) = subst (λ (d : ℕ). suc m ≤ under d (count_trailing_zeros k (n / 2))) e h in
        let high = rest (omega (arith, more)) in
        ap (λ (x : ℕ). n % 2 ^ x) (sym (add-one m)) ∙ mod-pow-add n m 1 ∙ omega (arith, high, e)
    go rest (suc d) e =
        let none : suc m ≤ 0 = subst (λ (x : ℕ). suc m ≤ under x (count_trailing_zeros k (n / 2))) e h in
        absurd (omega (arith, none))

-- bytes whose number is a multiple of their range are all 0, whatever is before them
zeros-low : (a j : ℕ) (ys : List ℕ) → InRange (eights j) ys → pack_after a (eights j) ys % 2 ^ total (eights j) ≡ 0 → all_zero ys ≡ true
zeros-low a zero [] r e = refl
zeros-low a zero (y ∷ ys) r e = absurd r
zeros-low a (suc j) [] r e = absurd r
zeros-low a (suc j) (y ∷ ys) r e =
    let t = total (eights j) in
    let n = pack_after (a * 2 ^ 8 + y) (eights j) ys in
    let lead : n / 2 ^ t ≡ a * 2 ^ 8 + y = pack-leads (a * 2 ^ 8 + y) (eights j) ys r.1 in
    let first : y ≡ 0 / 2 ^ t =
    sym (low a 8 r.0) ∙ ap (λ (x : ℕ). x % 2 ^ 8) (sym lead) ∙ sym (field n 8 t) ∙ ap (λ (x : ℕ). x / 2 ^ t) e in
    let none : y ≡ 0 = omega (arith, first, shr_le 0 t) in
    let rest : n % 2 ^ t ≡ 0 = sym (mod-mod-pow n 8 t) ∙ ap (λ (x : ℕ). x % 2 ^ t) e ∙ mod-eq_of_lt (pow_pos t) in
    rw (eq-eqb y 0 none) (zeros-low (a * 2 ^ 8 + y) j ys r.1 rest)

-- every byte of a list is one
pub bytes-all : (s : List ℕ) → ((i : ℕ) → get_or s i 0 < 256) → AreBytes s
bytes-all [] h = tt
bytes-all (b ∷ bs) h = (h 0, bytes-all bs (λ i. h (suc i)))

pub bytes_drop : (n : ℕ) (s : List ℕ) → AreBytes s → AreBytes (drop n s)
bytes_drop zero s h = h
bytes_drop (suc n) [] h = tt
bytes_drop (suc n) (b ∷ bs) h = bytes_drop n bs h.1

-- the last j of m + j bytes are 0 if their number ends in 8 j zeros
ends_low : (m j : ℕ) (s : List ℕ) → AreBytes s → length s ≡ m + j → number_in (m + j) s % 2 ^ (8 * j) ≡ 0 → all_zero (drop m s) ≡ true
ends_low m j s are len e =
    let left : InRange (eights m) (take m s) = bytes-range m s (omega (arith, len)) are in
    let short : length (drop m s) ≤ j = simp length-drop (omega (arith, len)) in
    let right : InRange (eights j) (drop m s) =
    subst (InRange (eights j)) (take_all j (drop m s) short) (bytes-range j (drop m s) (simp length-drop (omega (arith, len))) (bytes_drop m s are)) in
    let number : pack_after (pack_after 0 (eights m) (take m s)) (eights j) (drop m s) ≡ number_in (m + j) s =
    sym (pack-append 0 (eights m) (take m s) (eights j) (drop m s) left)
    ∙ ap (pack_after 0 (eights m ++ eights j)) (take-append-drop m s)
    ∙ ap (λ (ws : List ℕ). pack_after 0 ws s) (replicate-append-replicate m j 8) in
    zeros-low (pack_after 0 (eights m) (take m s)) j (drop m s) right (ap (λ (x : ℕ). x % 2 ^ total (eights j)) number ∙ ap (λ (x : ℕ). number_in (m + j) s % 2 ^ x) (eights-total j) ∙ e)

pub ends-zero : (s : List ℕ) (start from : ℕ) → AreBytes s → start + 8 ≡ length s → from ≤ length s
    → 8 * (length s - from) ≤ count_trailing_zeros 64 (number_in 8 (drop start s)) → all_zero (drop from s) ≡ true
ends-zero s start from are len room h =
    let j = length s - from in
    let few : j ≤ 8 = omega (arith, h, trailing_le 64 (number_in 8 (drop start s))) in
    let m = 8 - j in
    let eight : m + j ≡ 8 = omega arith in
    let there : start + m ≡ from = omega (arith, len) in
    let part : length (drop start s) ≡ m + j = simp length-drop (omega (arith, len)) in
    let e : number_in (m + j) (drop start s) % 2 ^ (8 * j) ≡ 0 =
    ap (λ (x : ℕ). number_in x (drop start s) % 2 ^ (8 * j)) eight ∙ trailing-mod (8 * j) 64 (number_in 8 (drop start s)) h in
    ap all_zero (ap (λ (x : ℕ). drop x s) (sym there) ∙ sym (drop-drop m start s)) ∙ ends_low m j (drop start s) (bytes_drop start s are) part e
