-- Frames written one after the other into lent bytes, and their lengths into a lent list.
-- Assumes nothing.
use mathlib.Core.Path.{◌≡◌, refl, sym, ap, ap₂, ◌∙◌}
use mathlib.Core.List.{List, [], ◌∷◌, ◌++◌, append_assoc, append-nil}
use Prim.Native.Nat.{ℕ, suc, ◌+◌, ◌<◌, ◌≤◌}
use native.Mathlib.Omega.{arith}
use lib.ListN.{length, drop, get_or, set, length-append}
use lib.Seq.{take_at, drop_at, drop-drop, drop-cons, set_at}
use Rattle.lists.proofs.Lists.{over-length}
use Rattle.lists.proofs.Frames.{bytes-append, lengths-append, count-lengths}
use Rattle.lists.specs.Frames.{bytes_in, lengths_of}
use Rattle.lists.specs.Lists.{over}
use Rattle.message.specs.CuttingParts.{splice}

-- ---- one more after what is written

splice-more : (fs xs o : List ℕ) (p : ℕ) → length fs ≡ p → splice p xs (over fs o) ≡ over (fs ++ xs) o
splice-more fs xs o p e =
    let same : over fs o ≡ fs ++ drop p o = ap (λ (n : ℕ). fs ++ drop n o) e in
    let long : p + length xs ≡ length (fs ++ xs) = omega (arith, e, length-append fs xs) in
    let put : splice p xs (fs ++ drop p o) ≡ (fs ++ xs) ++ drop (p + length xs) o =
    rw
    (take_at fs (drop p o) p e, ← drop-drop (length xs) p (fs ++ drop p o), drop_at fs (drop p o) p e, drop-drop (length xs) p o, append_assoc fs xs (drop (p + length xs) o)) in
    ap (splice p xs) same ∙ put ∙ ap (λ (n : ℕ). (fs ++ xs) ++ drop n o) long

set_more : (gs l : List ℕ) (i x : ℕ) → length gs ≡ i → i < length l → set (over gs l) i x ≡ over (gs ++ (x ∷ [])) l
set_more gs l i x e h =
    let same : over gs l ≡ gs ++ (get_or l i 0 ∷ drop (suc i) l) = ap (λ (n : ℕ). gs ++ drop n l) e ∙ ap (λ (y : List ℕ). gs ++ y) (drop-cons l i 0 h) in
    let long : suc i ≡ length (gs ++ (x ∷ [])) = omega (arith, e, length-append gs (x ∷ [])) in
    ap (λ (y : List ℕ). set y i x) same
    ∙ set_at gs (get_or l i 0) (drop (suc i) l) x i e
    ∙ sym (append_assoc gs (x ∷ []) (drop (suc i) l))
    ∙ ap (λ (n : ℕ). (gs ++ (x ∷ [])) ++ drop n l) long

-- ---- the frames fs are written over o₀, their lengths over l₀; the next one goes to index p, its
-- length to place i
pub record Written (fs : List (List ℕ)) (o₀ l₀ o l : List ℕ) (p i : ℕ) : Type 0 where
  pub out : o ≡ over (bytes_in fs) o₀
  pub lens : l ≡ over (lengths_of fs) l₀
  pub out_at : length (bytes_in fs) ≡ p
  pub lens-at : length fs ≡ i

pub none_written : (o₀ l₀ : List ℕ) → Written [] o₀ l₀ o₀ l₀ 0 0
none_written o₀ l₀ = record { out = refl; lens = refl; out_at = refl; lens-at = refl }

-- f is the next of the frames that the lent lists have room for
pub room-left : (fs : List (List ℕ)) (f : List ℕ) (rest all : List (List ℕ)) (o₀ l₀ o l : List ℕ) (p i : ℕ) → Written fs o₀ l₀ o l p i
    → fs ++ (f ∷ rest) ≡ all → length (bytes_in all) ≤ length o₀ → length all ≤ length l₀
    → (p + length f ≤ length o) × (i < length l) × (length o ≡ length o₀) × (length l ≡ length l₀)
room-left fs f rest all o₀ l₀ o l p i w e room places =
    let bytes : p + (length f + length (bytes_in rest)) ≡ length (bytes_in all) =
    omega
    (arith, w.out_at, length-append (bytes_in fs) (f ++ bytes_in rest), length-append f (bytes_in rest), ap length (bytes-append fs (f ∷ rest)), ap (λ (x : List (List ℕ)). length (bytes_in x)) e) in
    let count : i + suc (length rest) ≡ length all = omega (arith, w.lens-at, length-append fs (f ∷ rest), ap length e) in
    let long : length o ≡ length o₀ = ap length w.out ∙ over-length (bytes_in fs) o₀ (omega (arith, bytes, w.out_at, room)) in
    let many : length l ≡ length l₀ = ap length w.lens ∙ over-length (lengths_of fs) l₀ (omega (arith, count, w.lens-at, count-lengths fs, places)) in
    (omega (arith, bytes, long, room), omega (arith, count, many, places), long, many)

-- it is written: x is f
pub one_written : (fs : List (List ℕ)) (f : List ℕ) (rest all : List (List ℕ)) (o₀ l₀ o l o1 l1 x : List ℕ) (p i q : ℕ) → Written fs o₀ l₀ o l p i
    → fs ++ (f ∷ rest) ≡ all → length all ≤ length l₀ → x ≡ f → o1 ≡ splice p x o → l1 ≡ set l i (length x) → q ≡ p + length x
    → Written (fs ++ (f ∷ [])) o₀ l₀ o1 l1 q (i + 1)
one_written fs f rest all o₀ l₀ o l o1 l1 x p i q w e places ex eo el eq =
    let bytes : bytes_in fs ++ f ≡ bytes_in (fs ++ (f ∷ [])) = ap (λ (y : List ℕ). bytes_in fs ++ y) (sym (append-nil f)) ∙ sym (bytes-append fs (f ∷ [])) in
    let place : i < length l₀ = omega (arith, w.lens-at, length-append fs (f ∷ rest), ap length e, places) in
    record {
      out = eo ∙ ap₂ (splice p) ex w.out ∙ splice-more (bytes_in fs) f o₀ p w.out_at ∙ ap (λ (y : List ℕ). over y o₀) bytes;
      lens =
          el ∙ ap₂ (λ (y z : List ℕ). set y i (length z)) w.lens ex ∙ set_more (lengths_of fs) l₀ i (length f) (count-lengths fs ∙ w.lens-at) place
          ∙ ap (λ (y : List ℕ). over y l₀) (sym (lengths-append fs (f ∷ [])));
      out_at = omega (arith, eq, ap length ex, w.out_at, length-append (bytes_in fs) f, ap length bytes);
      lens-at = omega (arith, w.lens-at, length-append fs (f ∷ []));
    }
