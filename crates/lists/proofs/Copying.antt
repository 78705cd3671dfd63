-- Bytes copied into a list: byte by byte, a block at a time, and as far as there is room.
-- Assumes nothing.
use mathlib.Core.Path.{◌≡◌, sym, ap, ap₂, ◌∙◌}
use mathlib.Core.List.{List, [], ◌++◌, append-nil, append_assoc}
use Prim.Native.Nat.{ℕ, ◌+◌, ◌-◌, ◌<◌, ◌≤◌, min}
use native.Mathlib.Nat.{zero-add}
use native.Mathlib.Numerals.{add-one}
use native.Mathlib.Decide.{dec_lt}
use native.Mathlib.Omega.{arith}
use lib.ListN.{length, length-drop, take, drop, get_or, set, drop_of_length-le}
use lib.Seq.{take_at, drop_at, take_all, take-length, take-take, take-add, take-append-add, drop-drop, paste, paste-suc, take-paste, drop-paste, length-take-le}
use Rattle.lists.specs.Lists.{over}

-- a byte is copied
pub copy_step : (d : List ℕ) (at : ℕ) (s : List ℕ) (j v : ℕ) → at + j < length d → j < length s → v ≡ get_or s j 0
    → set (paste d at s j) (at + j) v ≡ paste d at s (j + 1)
copy_step d at s j v hd hs e =
    ap (set (paste d at s j) (at + j)) e ∙ paste-suc d at s j 0 hd hs ∙ ap (paste d at s) (sym (add-one j))

-- s is copied just after p
pub paste-after : (p o s : List ℕ) (at : ℕ) → length p ≡ at → paste (p ++ drop at o) at s (length s) ≡ (p ++ s) ++ drop (at + length s) o
paste-after p o s at e =
    rw (take_at p (drop at o) at e, take-length s, ← drop-drop (length s) at (p ++ drop at o), drop_at p (drop at o) at e, drop-drop (length s) at o)

-- one byte more is copied from the front
pub copy-front : (d s : List ℕ) (j v : ℕ) → j < length d → j < length s → v ≡ get_or s j 0 → set (paste d 0 s j) j v ≡ paste d 0 s (j + 1)
copy-front d s j v hd hs e = ap (λ (x : ℕ). set (paste d 0 s j) x v) (sym (zero-add j)) ∙ copy_step d 0 s j v (omega arith) hs e

-- n bytes copied over a list of n bytes: the result is those bytes
pub paste_all : (d s : List ℕ) (n : ℕ) → length d ≡ n → paste d 0 s n ≡ take n s
paste_all d s n e = ap (λ (l : List ℕ). take n s ++ l) gone ∙ append-nil (take n s)
  where
    gone : drop (0 + n) d ≡ []
    gone = drop_of_length-le d {i = 0 + n} (omega arith)

-- m bytes of s, from the j-th on, are copied where the first i bytes are copied already; the two
-- parts may overlap
pub copy_more : (d s : List ℕ) (at i j m : ℕ) → j ≤ i → i ≤ j + m → j + m ≤ length s → at + length s ≤ length d
    → paste (paste d at s i) (at + j) (take m (drop j s)) m ≡ paste d at s (j + m)
copy_more d s at i j m low high some room =
    let p = paste d at s i in
    let front : take (at + j) p ≡ take at d ++ take j s =
    sym (take-take (at + j) (at + i) p (omega arith))
    ∙ ap (take (at + j)) (take-paste d at s i (omega arith) (omega arith))
    ∙ ap (λ (k : ℕ). take (k + j) (take at d ++ take i s)) (sym (length-take-le at d (omega arith)))
    ∙ take-append-add (take at d) (take i s) j
    ∙ ap (λ (l : List ℕ). take at d ++ l) (take-take j i s low) in
    let to : at + j + m ≡ at + i + (j + m - i) = omega arith in
    let from : at + i + (j + m - i) ≡ at + (j + m) = omega arith in
    let end : drop (at + j + m) p ≡ drop (at + (j + m)) d =
    ap (λ (k : ℕ). drop k p) to
    ∙ sym (drop-drop (j + m - i) (at + i) p)
    ∙ ap (drop (j + m - i)) (drop-paste d at s i (omega arith) (omega arith))
    ∙ drop-drop (j + m - i) (at + i) d
    ∙ ap (λ (k : ℕ). drop k d) from in
    let block : take m (take m (drop j s)) ≡ take m (drop j s) = take-take m m (drop j s) (omega arith) in
    (λ k. front k ++ block k ++ end k)
    ∙ ap (λ (l : List ℕ). l ++ drop (at + (j + m)) d) (append_assoc (take at d) (take j s) (take m (drop j s)) ∙ ap (λ (l : List ℕ). take at d ++ l) (sym (take-add j m s)))

-- ---- as far as there is room

-- the bytes that there is room for
fitting : (n m : ℕ) (s : List ℕ) → n ≡ min (length s) m → take n s ≡ take m s
fitting n m s e = go (dec_lt m (length s))
  where
    go : Dec (m < length s) → take n s ≡ take m s
    go (yes h) = let same : n ≡ m = omega arith in ap (λ (k : ℕ). take k s) same
    go (no h) = let all : length s ≤ n = omega arith in take_all n s all ∙ sym (take_all m s (omega arith))

pub copied-front : (o s : List ℕ) (n : ℕ) → n ≡ min (length s) (length o) → paste o 0 (take n s) (length (take n s)) ≡ over (take (length o) s) o
copied-front o s n e =
    let zero-first : 0 + length (take n s) ≡ length (take n s) = omega arith in
    ap₂ (λ (x : List ℕ) (k : ℕ). x ++ drop k o) (take-length (take n s)) zero-first
    ∙ ap (λ (x : List ℕ). over x o) (fitting n (length o) s e)

-- as many bytes as `o` has places replace all of `o`
pub copied-whole : (o s : List ℕ) → length s ≡ length o → over (take (length o) s) o ≡ s
copied-whole o s e =
    let all : take (length o) s ≡ s = take_all (length o) s (omega arith) in
    ap (λ (x : List ℕ). over x o) all ∙ ap (λ (x : List ℕ). s ++ x) (drop_of_length-le o {i = length s} (omega arith)) ∙ append-nil s

-- bytes copied to a lent part of the same length: the whole list then holds them from `at` on
pub copied-part : (o s ys : List ℕ) (at k : ℕ) → k ≡ length s → at + k ≤ length o
    → ys ≡ over (take (length (take k (drop at o))) s) (take k (drop at o)) → take at o ++ (ys ++ drop k (drop at o)) ≡ paste o at s (length s)
copied-part o s ys at k e room copied =
    let part = take k (drop at o) in
    let long : length part ≡ k = length-take-le k (drop at o) (simp length-drop (omega arith)) in
    let is : ys ≡ s = copied ∙ copied-whole part s (omega (arith, long)) in
    let rest : drop k (drop at o) ≡ drop (at + length s) o = drop-drop k at o ∙ ap (λ (n : ℕ). drop (at + n) o) e in
    ap₂ (λ (x y : List ℕ). take at o ++ (x ++ y)) is rest
    ∙ ap (λ (x : List ℕ). take at o ++ (x ++ drop (at + length s) o)) (sym (take-length s))
    ∙ sym (append_assoc (take at o) (take (length s) s) (drop (at + length s) o))
