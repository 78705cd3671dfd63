-- Bytes merged into a word by shifts: each byte is put above those that were merged before it.
-- Assumes nothing.
use mathlib.Core.Path.{◌≡◌, refl, sym, ap, ◌∙◌, subst}
use mathlib.Core.List.{List, [], ◌∷◌, ◌++◌, append_assoc, append-nil}
use Prim.Native.Nat.{ℕ, zero, suc, ◌+◌, ◌*◌, ◌%◌, ◌^◌, ◌≤◌, ◌<◌}
use native.Mathlib.Nat.{mul_left_comm}
use native.Mathlib.Omega.{arith}
use lib.Bits.{bit_or, or_shifted_r}
use lib.ListN.{length, length-append}
use lib.Pow.{pow-add, shl_exact}
use Rattle.little.specs.Little.{little_of}
use Rattle.little.specs.Law.{Below}

pub below_none : (m : ℕ) → Below m []
below_none m i h = absurd (omega arith)

pub below-cons : (m x : ℕ) (xs : List ℕ) → x < m → Below m xs → Below m (x ∷ xs)
below-cons m x xs h f zero l = h
below-cons m x xs h f (suc i) l = f i (omega arith)

-- `Below` for a list that is written out: one fact for each element
abbrev pub Each : ℕ → List ℕ → Type 0
Each m [] = Unit {0}
Each m (x ∷ xs) = (x < m) × Each m xs

pub below_each : (m : ℕ) (xs : List ℕ) → Each m xs → Below m xs
below_each m [] e = below_none m
below_each m (x ∷ xs) e = below-cons m x xs e.0 (below_each m xs e.1)

pub below-append : (m : ℕ) (xs ys : List ℕ) → Below m xs → Below m ys → Below m (xs ++ ys)
below-append m [] ys f g = g
below-append m (x ∷ xs) ys f g = below-cons m x (xs ++ ys) (f 0 (omega arith)) (below-append m xs ys (λ i l. f (suc i) (omega arith)) g)

byte_more : (n : ℕ) → 2 ^ (8 * suc n) ≡ 256 * 2 ^ (8 * n)
byte_more n =
    let e : 8 * suc n ≡ 8 + 8 * n = omega arith in
    ap (λ (m : ℕ). 2 ^ m) e ∙ pow-add 2 8 (8 * n)

pub little-snoc : (bs : List ℕ) (x : ℕ) → little_of (bs ++ (x ∷ [])) ≡ x * 2 ^ (8 * length bs) + little_of bs
unfolding little_of
little-snoc [] x = omega arith
little-snoc (b ∷ bs) x =
    let y : x * 2 ^ (8 * suc (length bs)) ≡ 256 * (x * 2 ^ (8 * length bs)) = ap (λ (p : ℕ). x * p) (byte_more (length bs)) ∙ mul_left_comm x 256 (2 ^ (8 * length bs)) in
    omega (arith, little-snoc bs x)

pub little-lt : (bs : List ℕ) → Below 256 bs → little_of bs < 2 ^ (8 * length bs)
unfolding little_of
little-lt [] h = omega arith
little-lt (b ∷ bs) h =
    let low : b < 256 = h 0 (omega arith) in
    let ih = little-lt bs (λ i l. h (suc i) (omega arith)) in
    omega (arith, byte_more (length bs))

-- xs merged into a word of w bits above acc, which has k bits
unfoldable pub merged : ℕ → ℕ → ℕ → List ℕ → ℕ
merged w acc k [] = acc
merged w acc k (x ∷ xs) = merged w (bit_or acc (x * 2 ^ k % 2 ^ w)) (k + 8) xs

pub merged-is : (w : ℕ) (bs xs : List ℕ) (acc k : ℕ) → Below 256 bs → Below 256 xs → acc ≡ little_of bs → k ≡ 8 * length bs → 8 * (length bs + length xs) ≤ w
    → merged w acc k xs ≡ little_of (bs ++ xs)
unfolding merged
merged-is w bs [] acc k hb hx e q l = e ∙ ap little_of (sym (append-nil bs))
merged-is w bs (x ∷ xs) acc k hb hx e q l =
    let low : x < 256 = hx 0 (omega arith) in
    let one : length (bs ++ (x ∷ [])) ≡ length bs + 1 = length-append bs (x ∷ []) in
    let more : bit_or acc (x * 2 ^ k % 2 ^ w) ≡ little_of (bs ++ (x ∷ [])) =
    ap (bit_or acc) (shl_exact {a = x} 8 k w low (omega arith))
    ∙ or_shifted_r x k acc (subst (λ (n : ℕ). acc < 2 ^ n) (sym q) (subst (λ (n : ℕ). n < 2 ^ (8 * length bs)) (sym e) (little-lt bs hb)))
    ∙ ap (λ (n : ℕ). x * 2 ^ n + acc) q ∙ ap (λ (n : ℕ). x * 2 ^ (8 * length bs) + n) e ∙ sym (little-snoc bs x) in
    merged-is w (bs ++ (x ∷ [])) xs (bit_or acc (x * 2 ^ k % 2 ^ w)) (k + 8) (below-append 256 bs (x ∷ []) hb (below-cons 256 x [] low (below_none 256))) (λ i h. hx (suc i) (omega arith)) more (omega arith) (omega arith)
    ∙ ap little_of (append_assoc bs (x ∷ []) xs)

-- bytes merged into a word are the number that they encode
pub merged-bytes : (w x : ℕ) (xs : List ℕ) → Each 256 (x ∷ xs) → 8 * suc (length xs) ≤ w → merged w x 8 xs ≡ little_of (x ∷ xs)
merged-bytes w x xs h l =
    let e : x ≡ little_of (x ∷ []) = unfold little_of in omega arith in
    merged-is w (x ∷ []) xs x 8 (below_each 256 (x ∷ []) (h.0, tt)) (below_each 256 xs h.1) e refl (omega arith)
