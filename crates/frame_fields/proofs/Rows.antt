-- The law of rows: each value is a digit of the number, to the base that its width gives.
-- Assumes nothing.
use mathlib.Core.Path.{◌≡◌, refl, sym, ap, ◌∙◌, subst}
use mathlib.Core.List.{List, [], ◌∷◌, ◌++◌}
use Prim.Native.Nat.{ℕ, zero, suc, ◌+◌, ◌*◌, ◌/◌, ◌%◌, ◌^◌, ◌<◌, ◌≤◌}
use native.Mathlib.Nat.{add-mul, mul_assoc, add_assoc, zero-mul, zero-add, mul-one, mod-lt, mod-eq_of_lt, add-zero}
use native.Mathlib.Omega.{arith}
use lib.Arith.{digits_lt}
use lib.ListN.{length, take, replicate, length-replicate}
use lib.Pow.{pow_pos, pow-add, mod-pow-add, high, low}
use Rattle.frame_fields.specs.Rows.{total, pack_after, pack, unpack, InRange, eights, bytes_of, AreBytes}
use Rattle.frame_fields.specs.Law.{RowLaw}

-- what is packed after a takes the bits below those of a
pub pack-split : (a : ℕ) (ws vs : List ℕ) → InRange ws vs → (r : ℕ) × (r < 2 ^ total ws) × (pack_after a ws vs ≡ a * 2 ^ total ws + r)
pack-split a [] [] h = (0, omega arith, sym (add-zero (a * 1) ∙ mul-one a))
pack-split a [] (v ∷ vs) h = absurd h
pack-split a (w ∷ ws) [] h = absurd h
pack-split a (w ∷ ws) (v ∷ vs) h =
    let ih = pack-split (a * 2 ^ w + v) ws vs h.1 in (
      v * 2 ^ total ws + ih.0,
      subst (λ (x : ℕ). v * 2 ^ total ws + ih.0 < x) (sym (pow-add 2 w (total ws))) (digits_lt h.0 ih.1),
      ih.2 ∙ rw (add-mul, mul_assoc, ← pow-add 2 w (total ws), add_assoc),
    )

-- so the bits above it are a
pub pack-leads : (a : ℕ) (ws vs : List ℕ) → InRange ws vs → pack_after a ws vs / 2 ^ total ws ≡ a
pack-leads a ws vs h = let s = pack-split a ws vs h in ap (λ (x : ℕ). x / 2 ^ total ws) s.2 ∙ high a (total ws) s.1

pub unpack-pack : (a : ℕ) (ws vs : List ℕ) → InRange ws vs → unpack ws (pack_after a ws vs) ≡ vs
unpack-pack a [] [] h = refl
unpack-pack a [] (v ∷ vs) h = absurd h
unpack-pack a (w ∷ ws) [] h = absurd h
unpack-pack a (w ∷ ws) (v ∷ vs) h =
    let b = a * 2 ^ w + v in
    let e : pack_after b ws vs / 2 ^ total ws % 2 ^ w ≡ v = ap (λ (x : ℕ). x % 2 ^ w) (pack-leads b ws vs h.1) ∙ low a w h.0 in
    λ i. e i ∷ unpack-pack b ws vs h.1 i

pub pack-unpack : (a : ℕ) (ws : List ℕ) (n : ℕ) → pack_after a ws (unpack ws n) ≡ a * 2 ^ total ws + n % 2 ^ total ws
pack-unpack a [] n = omega arith
pack-unpack a (w ∷ ws) n =
    pack-unpack (a * 2 ^ w + n / 2 ^ total ws % 2 ^ w) ws n
    ∙ rw (add-mul, mul_assoc, ← pow-add 2 w (total ws), add_assoc, ← mod-pow-add n w (total ws))

-- what is unpacked is within its widths
pub unpack-range : (ws : List ℕ) (n : ℕ) → InRange ws (unpack ws n)
unpack-range [] n = tt
unpack-range (w ∷ ws) n = (mod-lt (n / 2 ^ total ws) (pow_pos w), unpack-range ws n)

-- a packed number has at most the bits of all widths together
pub pack-lt : (ws vs : List ℕ) → InRange ws vs → pack ws vs < 2 ^ total ws
pack-lt ws vs h =
    let s = pack-split 0 ws vs h in
    subst (λ (x : ℕ). x < 2 ^ total ws) (sym (s.2 ∙ ap (λ (x : ℕ). x + s.0) (zero-mul (2 ^ total ws)) ∙ zero-add s.0)) s.1

pub pack-back : (ws : List ℕ) (n : ℕ) → n < 2 ^ total ws → pack ws (unpack ws n) ≡ n
pack-back ws n h =
    pack-unpack 0 ws n
    ∙ ap (λ (x : ℕ). x + n % 2 ^ total ws) (zero-mul (2 ^ total ws))
    ∙ zero-add (n % 2 ^ total ws)
    ∙ mod-eq_of_lt h

-- values packed by widths ws, split and packed again by other widths us of the same sum, are read
-- back by ws
pub re_read : (ws us vs : List ℕ) → total ws ≡ total us → InRange ws vs → unpack ws (pack us (unpack us (pack ws vs))) ≡ vs
re_read ws us vs e h =
    ap (unpack ws) (pack-back us (pack ws vs) (subst (λ (x : ℕ). pack ws vs < 2 ^ x) e (pack-lt ws vs h))) ∙ unpack-pack 0 ws vs h

pub row-law : RowLaw
row-law = record { unpack-pack = unpack-pack 0; pack-unpack = pack-back; re_read = re_read }

-- ---- bytes

pub unpack-length : (ws : List ℕ) (n : ℕ) → length (unpack ws n) ≡ length ws
unpack-length [] n = refl
unpack-length (w ∷ ws) n = ap suc (unpack-length ws n)

pub bytes-length : (k n : ℕ) → length (bytes_of k n) ≡ k
bytes-length k n = unpack-length (eights k) n ∙ length-replicate k 8

-- a number of k bytes depends on the first k bytes alone
pub number-take : (a k : ℕ) (bs : List ℕ) → pack_after a (eights k) (take k bs) ≡ pack_after a (eights k) bs
number-take a zero bs = refl
number-take a (suc k) [] = refl
number-take a (suc k) (b ∷ bs) = number-take (a * 2 ^ 8 + b) k bs

pub bytes-range : (k : ℕ) (bs : List ℕ) → k ≤ length bs → AreBytes bs → InRange (eights k) (take k bs)
bytes-range zero bs h b = tt
bytes-range (suc k) [] h b = absurd (omega arith)
bytes-range (suc k) (x ∷ xs) h b = (b.0, bytes-range k xs (omega arith) b.1)

-- the bytes of a number are bytes; so are zeros, and two lists of bytes one after the other
range-are : (k : ℕ) (bs : List ℕ) → InRange (eights k) bs → AreBytes bs
range-are zero [] r = tt
range-are zero (b ∷ bs) r = absurd r
range-are (suc k) [] r = absurd r
range-are (suc k) (b ∷ bs) r = (r.0, range-are k bs r.1)

pub bytes-are : (k n : ℕ) → AreBytes (bytes_of k n)
bytes-are k n = range-are k (bytes_of k n) (unpack-range (eights k) n)

pub zeros-are : (n : ℕ) → AreBytes (replicate n 0)
zeros-are zero = tt
zeros-are (suc n) = (omega arith, zeros-are n)

pub both-are : (bs cs : List ℕ) → AreBytes bs → AreBytes cs → AreBytes (bs ++ cs)
both-are [] cs b c = c
both-are (x ∷ bs) cs b c = (b.0, both-are bs cs b.1 c)

-- ---- one row after another

pub total-append : (ws us : List ℕ) → total (ws ++ us) ≡ total ws + total us
total-append [] us = sym (zero-add (total us))
total-append (w ∷ ws) us = ap (λ (x : ℕ). w + x) (total-append ws us) ∙ sym (add_assoc w (total ws) (total us))

pub pack-append : (a : ℕ) (ws vs us xs : List ℕ) → InRange ws vs → pack_after a (ws ++ us) (vs ++ xs) ≡ pack_after (pack_after a ws vs) us xs
pack-append a [] [] us xs h = refl
pack-append a [] (v ∷ vs) us xs h = absurd h
pack-append a (w ∷ ws) [] us xs h = absurd h
pack-append a (w ∷ ws) (v ∷ vs) us xs h = pack-append (a * 2 ^ w + v) ws vs us xs h.1
