-- What each part of writing a frame does to the lent bytes.
-- Assumes nothing.
use mathlib.Core.Path.{◌≡◌, sym, ap, ap₂, ◌∙◌}
use mathlib.Core.List.{List, [], ◌∷◌, ◌++◌, append_assoc, append-nil}
use Prim.Native.Nat.{ℕ, zero, suc, ◌+◌, ◌-◌, ◌≤◌}
use native.Mathlib.Nat.{add_comm}
use native.Mathlib.Numerals.{add-one}
use native.Mathlib.Omega.{arith}
use lib.ListN.{length, set, take, drop, replicate, drop_of_length-le, length-append, length-drop, length-replicate, replicate-append-replicate}
use lib.Seq.{take_at, drop_at, take_all, take-length, drop-drop, drop-append-add, paste, length-take-le}
use Rattle.lists.proofs.Copying.{paste-after}

-- ---- the bytes after the header

-- the bytes after the first k of a cleared part: the rest of the zero bytes, then what is beyond
-- the part
pub cleared-rest : (o : List ℕ) (at k pad : ℕ) → at ≤ length o
    → drop (at + k) (paste o at (replicate (k + pad) 0) (k + pad)) ≡ replicate pad 0 ++ drop (at + (k + pad)) o
cleared-rest o at k pad room =
    let z : List ℕ = replicate (k + pad) 0 in
    let beyond = drop (at + (k + pad)) o in
    let whole : take (k + pad) z ≡ z = take_all (k + pad) z (omega (arith, length-replicate {A = ℕ} (k + pad) 0)) in
    ap (drop (at + k)) (append_assoc (take at o) (take (k + pad) z) beyond)
    ∙ ap (λ (n : ℕ). drop (n + k) (take at o ++ (take (k + pad) z ++ beyond))) (sym (length-take-le at o room))
    ∙ drop-append-add (take at o) (take (k + pad) z ++ beyond) k
    ∙ ap (λ (l : List ℕ). drop k (l ++ beyond)) (whole ∙ sym (replicate-append-replicate k pad 0))
    ∙ ap (drop k) (append_assoc (replicate k 0) (replicate pad 0) beyond)
    ∙ drop_at (replicate k 0) (replicate pad 0 ++ beyond) k (length-replicate k 0)

-- a cleared segment that ends with `pad` bytes of padding after n bytes
pub cleared : (o : List ℕ) (n seg pad : ℕ) → pad ≤ seg → seg ≤ n + pad → n + pad ≤ length o
    → drop n (paste o (n + pad - seg) (replicate seg 0) seg) ≡ replicate pad 0 ++ drop (n + pad) o
cleared o n seg pad few some room =
    let at = n + pad - seg in
    let k = seg - pad in
    let split : seg ≡ k + pad = omega arith in
    let here : n ≡ at + k = omega arith in
    let past : at + (k + pad) ≡ n + pad = omega arith in
    ap (λ (x : ℕ). drop x (paste o at (replicate seg 0) seg)) here
    ∙ ap (λ (x : ℕ). drop (at + k) (paste o at (replicate x 0) x)) split
    ∙ cleared-rest o at k pad (omega arith)
    ∙ ap (λ (x : ℕ). replicate pad 0 ++ drop x o) past

-- k zeros are written over the front of c, where every byte from the n-th on, up to the k-th, is 0
-- already: nothing changes from there on
pub zeros-over : (k n pad : ℕ) (c rest : List ℕ) → k ≤ length c → k ≤ n + pad → drop n c ≡ replicate pad 0 ++ rest
    → drop n (replicate k 0 ++ drop k c) ≡ replicate pad 0 ++ rest
zeros-over zero n pad c rest h few e = e
zeros-over (suc k) n pad [] rest h few e = absurd (omega arith)
zeros-over (suc k) (suc n) pad (b ∷ c) rest h few e = zeros-over k n pad c rest (omega arith) (omega arith) e
zeros-over (suc k) zero zero (b ∷ c) rest h few e = absurd (omega arith)
zeros-over (suc k) zero (suc pad) (b ∷ c) rest h few e =
    ap (λ (l : List ℕ). 0 ∷ l) (zeros-over k 0 pad c rest (omega arith) (omega arith) (ap (drop 1) e))

-- the header h and zeros after it, and then the user data d, are written where the padding is
-- written already
pub three-parts : (h d o c : List ℕ) (k pad : ℕ) → length h ≡ k → k ≤ 8 → 8 ≤ length c → 8 ≤ k + length d + pad
    → drop (k + length d) c ≡ replicate pad 0 ++ drop (k + length d + pad) o
    → paste ((h ++ replicate (8 - k) 0) ++ drop 8 c) k d (length d) ≡ (h ++ (d ++ replicate pad 0)) ++ drop (k + length d + pad) o
three-parts h d o c k pad e few wide some rest =
    let past = drop (k + length d + pad) o in
    let z : List ℕ = replicate (8 - k) 0 in
    let all : k + (8 - k) ≡ 8 = omega arith in
    let after : z ++ drop 8 c ≡ z ++ drop (8 - k) (drop k c) = ap (λ (n : ℕ). z ++ drop n c) (sym all) ∙ ap (λ (l : List ℕ). z ++ l) (sym (drop-drop (8 - k) k c)) in
    let left : drop (length d) (drop k c) ≡ replicate pad 0 ++ past = drop-drop (length d) k c ∙ rest in
    let long : length (drop k c) ≡ length c - k = length-drop k c in
    let kept = zeros-over (8 - k) (length d) pad (drop k c) past (omega (arith, long)) (omega arith) left in
    let t = z ++ drop 8 c in
    rw (append_assoc h z (drop 8 c), take_at h t k e, take-length d, ← drop-drop (length d) k (h ++ t), drop_at h t k e, after, kept)
    (sym (append_assoc (h ++ d) (replicate pad 0) past) ∙ ap (λ (l : List ℕ). l ++ past) (append_assoc h d (replicate pad 0)))

-- ---- two strings

-- bytes written to a lent part: the whole list then holds them from `at` on
pub written-part : (o s ys : List ℕ) (at k : ℕ) → k ≡ length s → ys ≡ s → take at o ++ (ys ++ drop k (drop at o)) ≡ paste o at s (length s)
written-part o s ys at k e is =
    let rest : drop k (drop at o) ≡ drop (at + length s) o = drop-drop k at o ∙ ap (λ (n : ℕ). drop (at + n) o) e in
    ap₂ (λ (x y : List ℕ). take at o ++ (x ++ y)) is rest
    ∙ ap (λ (x : List ℕ). take at o ++ (x ++ drop (at + length s) o)) (sym (take-length s))
    ∙ sym (append_assoc (take at o) (take (length s) s) (drop (at + length s) o))

-- a part after the first byte, and then that byte, are all of the list
pub counted-parts : (o s : List ℕ) (v : ℕ) → length o ≡ suc (length s) → set (paste o 1 s (length s)) 0 v ≡ v ∷ s
counted-parts [] s v h = absurd (omega (arith, h))
counted-parts (x ∷ xs) s v h =
    let none : drop (length s) xs ≡ [] = drop_of_length-le xs {i = length s} (omega (arith, h)) in
    ap₂ (λ (a b : List ℕ). v ∷ (a ++ b)) (take-length s) (ap (λ (k : ℕ). drop k (x ∷ xs)) (add_comm 1 (length s)) ∙ ap (λ (k : ℕ). drop k (x ∷ xs)) (add-one (length s)) ∙ none)
    ∙ ap (λ (l : List ℕ). v ∷ l) (append-nil s)

-- two strings written one after the other are written as one
pub strings-paste : (o a d : List ℕ) (at : ℕ) → at + (length a + length d) ≤ length o
    → paste (paste o at a (length a)) (at + length a) d (length d) ≡ paste o at (a ++ d) (length a + length d)
strings-paste o a d at room =
    let p = take at o in
    let q = p ++ a in
    let j = at + length a in
    let n = length a + length d in
    let lp : length p ≡ at = length-take-le at o (omega arith) in
    let lq : length q ≡ j = length-append p a ∙ omega (arith, lp) in
    let ld : length (a ++ d) ≡ n = length-append a d in
    let past : j + length d ≡ at + n = omega arith in
    ap (λ (l : List ℕ). paste ((p ++ l) ++ drop j o) j d (length d)) (take-length a)
    ∙ paste-after q o d j lq
    ∙ ap (λ (k : ℕ). (q ++ d) ++ drop k o) past
    ∙ ap (λ (l : List ℕ). l ++ drop (at + n) o) (append_assoc p a d)
    ∙ ap (λ (l : List ℕ). (p ++ l) ++ drop (at + n) o) (sym (take_all n (a ++ d) (omega (arith, ld))))
