-- Numbers in bytes by their index, and lent memory after they were written to it.
-- Assumes nothing.
use mathlib.Core.Path.{◌≡◌, refl, sym, ap, ap₂, ◌∙◌}
use mathlib.Core.List.{List, [], ◌∷◌, ◌++◌, append_assoc, append-nil}
use Prim.Native.Nat.{ℕ, zero, suc, ◌+◌, ◌*◌, ◌/◌, ◌%◌, ◌≤◌, ◌<◌}
use native.Mathlib.Nat.{add-zero}
use native.Mathlib.Numerals.{add-one}
use native.Mathlib.Omega.{arith}
use lib.ListN.{length, get_or, set, take, drop, length-set}
use lib.Seq.{take_all, take-append-add, drop-append-add, take-suc, take-add, drop_at, drop-cons, drop-drop, get_or-drop, set_at, append_snoc, paste, paste-zero, paste-suc, take-paste, drop-paste}
use Rattle.little.specs.Little.{little_of, little_bytes, little_list, list_bytes}
use Rattle.little.proofs.Little.{length-bytes}

-- ---- a list of numbers by index

pub list_at : (k n : ℕ) (bs : List ℕ) (i : ℕ) → i < n → get_or (little_list k n bs) i 0 ≡ little_of (take k (drop (i * k) bs))
unfolding little_list
list_at k zero bs i h = absurd (omega arith)
list_at k (suc n) bs zero h =
    let z : 0 * k ≡ 0 = omega arith in
    ap (λ (j : ℕ). little_of (take k (drop j bs))) (sym z)
list_at k (suc n) bs (suc i) h =
    let e : k + i * k ≡ suc i * k = omega arith in
    list_at k n (drop k bs) i (omega arith) ∙ ap (λ (l : List ℕ). little_of (take k l)) (drop-drop (i * k) k bs ∙ ap (λ (j : ℕ). drop j bs) e)

-- a number is its first byte and 256 times the number that the other bytes encode
pub byte-first : (k n : ℕ) (bs : List ℕ) → n < length bs → little_of (take (suc k) (drop n bs)) ≡ get_or bs n 0 + 256 * little_of (take k (drop (n + 1) bs))
unfolding little_of
byte-first k n bs h = rw (add-one, drop-cons bs n 0)

pub drop-list_bytes : (k : ℕ) (xs : List ℕ) (i : ℕ) → i ≤ length xs → drop (i * k) (list_bytes k xs) ≡ list_bytes k (drop i xs)
unfolding list_bytes
drop-list_bytes k xs zero h =
    let z : 0 * k ≡ 0 = omega arith in
    ap (λ (j : ℕ). drop j (list_bytes k xs)) z
drop-list_bytes k [] (suc i) h = absurd (omega arith)
drop-list_bytes k (x ∷ xs) (suc i) h =
    let e : suc i * k ≡ k + i * k = omega arith in
    ap (λ (j : ℕ). drop j (little_bytes k x ++ list_bytes k xs)) e
    ∙ sym (drop-drop (i * k) k (little_bytes k x ++ list_bytes k xs))
    ∙ ap (drop (i * k)) (drop_at (little_bytes k x) (list_bytes k xs) k (length-bytes k x))
    ∙ drop-list_bytes k xs i (omega arith)

pub list-append : (k : ℕ) (xs ys : List ℕ) → list_bytes k (xs ++ ys) ≡ list_bytes k xs ++ list_bytes k ys
unfolding list_bytes
list-append k [] ys = refl
list-append k (x ∷ xs) ys =
    ap (λ (l : List ℕ). little_bytes k x ++ l) (list-append k xs ys) ∙ sym (append_assoc (little_bytes k x) (list_bytes k xs) (list_bytes k ys))

-- the bytes of i + 1 numbers: those of i numbers, then those of number i
pub list-next : (k i : ℕ) (xs : List ℕ) → i < length xs → list_bytes k (take (i + 1) xs) ≡ list_bytes k (take i xs) ++ little_bytes k (get_or xs i 0)
unfolding list_bytes
list-next k i xs h =
    ap (λ (m : ℕ). list_bytes k (take m xs)) (add-one i)
    ∙ ap (list_bytes k) (take-suc xs i 0 h)
    ∙ list-append k (take i xs) (get_or xs i 0 ∷ [])
    ∙ ap (λ (l : List ℕ). list_bytes k (take i xs) ++ l) (append-nil (little_bytes k (get_or xs i 0)))

-- the front p of lent memory is written; one more byte is written after it
pub put_next : (p out : List ℕ) (n b : ℕ) → length p ≡ n → n < length out → set (p ++ drop n out) n b ≡ (p ++ (b ∷ [])) ++ drop (n + 1) out
put_next p out n b e h =
    ap (λ (l : List ℕ). set (p ++ l) n b) (drop-cons out n 0 h)
    ∙ set_at p (get_or out n 0) (drop (suc n) out) b n e
    ∙ ap (λ (m : ℕ). p ++ (b ∷ drop m out)) (sym (add-one n))
    ∙ sym (append_snoc p b (drop (n + 1) out))

-- ---- memory written part by part

-- pasting n elements and then the next m is pasting n + m
pub paste_more : (d s t : List ℕ) (at n m : ℕ) → at ≤ length d → n ≤ length s → take m t ≡ take m (drop n s)
    → paste (paste d at s n) (at + n) t m ≡ paste d at s (n + m)
paste_more d s t at n m hd hs e =
    let sum : at + n + m ≡ at + (n + m) = omega arith in
    ap₂ (λ (x y : List ℕ). x ++ take m t ++ y) (take-paste d at s n hd hs)
    (sym (drop-drop m (at + n) (paste d at s n)) ∙ ap (drop m) (drop-paste d at s n hd hs) ∙ drop-drop m (at + n) d)
    ∙ ap (λ (x : List ℕ). take at d ++ take n s ++ x ++ drop (at + n + m) d) e
    ∙ ap (λ (x : List ℕ). x ++ drop (at + n + m) d) (append_assoc (take at d) (take n s) (take m (drop n s)) ∙ ap (λ (x : List ℕ). take at d ++ x) (sym (take-add n m s)))
    ∙ ap (λ (j : ℕ). take at d ++ take (n + m) s ++ drop j d) sum

-- ---- the loop that writes n in k bytes starting at index `at`: i bytes are written, and `rest` is
-- the number that the others encode

pub record Putting (out₀ : List ℕ) (at k n : ℕ) (out : List ℕ) (i rest : ℕ) : Type 0 where
  pub left : ℕ
  pub split : i + left ≡ k
  pub long : length out ≡ length out₀
  pub coming : drop i (little_bytes k n) ≡ little_bytes left rest
  pub written : out ≡ paste out₀ at (little_bytes k n) i

module _ (out₀ : List ℕ) (at k n : ℕ) (room : at + k ≤ length out₀) where
  pub put-starts : Putting out₀ at k n out₀ 0 n
  put-starts = record {
    left = k;
    split = omega arith;
    long = refl;
    coming = refl;
    written = paste-zero out₀ at (little_bytes k n);
  }

  pub put-turns : (out : List ℕ) (i rest : ℕ) → i < k → Putting out₀ at k n out i rest → Putting out₀ at k n (set out (at + i) (rest % 256)) (i + 1) (rest / 256)
  put-turns out i rest h p = go p.left p.split p.coming
    where
      go : (r : ℕ) → i + r ≡ k → drop i (little_bytes k n) ≡ little_bytes r rest → Putting out₀ at k n (set out (at + i) (rest % 256)) (i + 1) (rest / 256)
      go zero e c = absurd (omega arith)
      go (suc r) e c =
          let c' : drop i (little_bytes k n) ≡ rest % 256 ∷ little_bytes r (rest / 256) = c ∙ unfold little_bytes in refl in
          let first : get_or (little_bytes k n) i 0 ≡ rest % 256 =
          ap (λ (j : ℕ). get_or (little_bytes k n) j 0) (sym (add-zero i)) ∙ sym (get_or-drop i (little_bytes k n) 0 0) ∙ ap (λ (l : List ℕ). get_or l 0 0) c' in
          record {
            left = r;
            split = omega arith;
            long = length-set out (at + i) (rest % 256) ∙ p.long;
            coming = sym (drop-drop 1 i (little_bytes k n)) ∙ ap (drop 1) c';
            written =
                ap₂ (λ (x : List ℕ) (y : ℕ). set x (at + i) y) p.written (sym first)
                ∙ paste-suc out₀ at (little_bytes k n) i 0 (omega arith) (omega (arith, length-bytes k n))
                ∙ ap (paste out₀ at (little_bytes k n)) (sym (add-one i));
          }

-- ---- one number of a list is overwritten

-- pasting behind p leaves p as it is
pub paste-behind : (p l s : List ℕ) (j n : ℕ) → paste (p ++ l) (length p + j) s n ≡ p ++ paste l j s n
paste-behind p l s j n =
    let e : length p + j + n ≡ length p + (j + n) = omega arith in
    ap₂ (λ (x y : List ℕ). x ++ take n s ++ y) (take-append-add p l j) (ap (λ (k : ℕ). drop k (p ++ l)) e ∙ drop-append-add p l (j + n))
    ∙ ap (λ (x : List ℕ). x ++ drop (j + n) l) (append_assoc p (take j l) (take n s))
    ∙ append_assoc p (take j l ++ take n s) (drop (j + n) l)

pub paste-number : (k : ℕ) (xs : List ℕ) (i x : ℕ) → i < length xs → paste (list_bytes k xs) (i * k) (little_bytes k x) k ≡ list_bytes k (set xs i x)
unfolding list_bytes
paste-number k [] i x h = absurd (omega arith)
paste-number k (y ∷ ys) zero x h =
    let z : 0 * k ≡ 0 = omega arith in
    let w : 0 + k ≡ k = omega arith in
    ap (λ (j : ℕ). paste (little_bytes k y ++ list_bytes k ys) j (little_bytes k x) k) z
    ∙ ap₂ (λ (u v : List ℕ). u ++ v) (take_all k (little_bytes k x) (omega (arith, length-bytes k x)))
    (ap (λ (j : ℕ). drop j (little_bytes k y ++ list_bytes k ys)) w ∙ drop_at (little_bytes k y) (list_bytes k ys) k (length-bytes k y))
paste-number k (y ∷ ys) (suc i) x h =
    let e : suc i * k ≡ length (little_bytes k y) + i * k = omega (arith, length-bytes k y) in
    ap (λ (j : ℕ). paste (little_bytes k y ++ list_bytes k ys) j (little_bytes k x) k) e
    ∙ paste-behind (little_bytes k y) (list_bytes k ys) (little_bytes k x) (i * k) k
    ∙ ap (λ (l : List ℕ). little_bytes k y ++ l) (paste-number k ys i x (omega arith))
