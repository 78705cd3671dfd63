-- Laws of `list_from` and `over`: a list is determined by its length and the number at each index.
-- Assumes nothing.
use mathlib.Core.Path.{◌≡◌, refl, sym, ap, ◌∙◌}
use mathlib.Core.Bool.{Bool, true, false, cond}
use mathlib.Core.List.{List}
use mathlib.Core.Logic.{◌≢◌}
use Prim.Native.Nat.{ℕ, zero, suc, ◌+◌, ◌≤◌, ◌<◌, zero-le}
use native.Mathlib.Decide.{dec_lt}
use native.Mathlib.Omega.{arith}
use lib.Dec.{eqb, ltb}
use lib.ListN.{length, get_or, set, replicate, length-set, length-replicate, get_or-replicate, length-append, length-drop}
use lib.Seq.{ext_get_or, get_or-set_same, get_or-set_other}
use borrow.Author.Tests.{lt-ltb, le-ltb, eqb-true, eqb-false}
use Rattle.lists.specs.Lists.{list_from, over}

pub length_from : (k n : ℕ) (f : ℕ → ℕ) → length (list_from k n f) ≡ n
unfolding list_from
length_from k zero f = refl
length_from k (suc n) f = ap suc (length_from (suc k) n f)

pub get_d-from : (k n : ℕ) (f : ℕ → ℕ) (i : ℕ) → i < n → get_or (list_from k n f) i 0 ≡ f (k + i)
unfolding list_from
get_d-from k zero f i h = absurd (omega arith)
get_d-from k (suc n) f zero h = ap f (omega arith)
get_d-from k (suc n) f (suc i) h = get_d-from (suc k) n f i (omega arith) ∙ ap f (omega arith)

-- a list of length n with f i at each index i is `list_from 0 n f`
pub is-from : (n : ℕ) (l : List ℕ) (f : ℕ → ℕ) → length l ≡ n → ((i : ℕ) → i < n → get_or l i 0 ≡ f i) → l ≡ list_from 0 n f
is-from n l f e g =
    ext_get_or 0 l (list_from 0 n f) (e ∙ sym (length_from 0 n f)) (λ i h.
    let b : i < n = omega arith in
    g i b ∙ ap f (omega arith) ∙ sym (get_d-from 0 n f i b))

-- the number at index i of `list_from 0 n f` is f i
pub from_at : (n : ℕ) (f : ℕ → ℕ) (i : ℕ) → i < n → get_or (list_from 0 n f) i 0 ≡ f i
from_at n f i h = get_d-from 0 n f i h ∙ ap f (omega arith)

-- functions that agree below n give the same list
pub from-same : (n : ℕ) (f g : ℕ → ℕ) → ((i : ℕ) → i < n → f i ≡ g i) → list_from 0 n f ≡ list_from 0 n g
from-same n f g e = is-from n (list_from 0 n f) g (length_from 0 n f) (λ i h. from_at n f i h ∙ e i h)

-- one index written
pub set-from : (n : ℕ) (f : ℕ → ℕ) (x v : ℕ) → set (list_from 0 n f) x v ≡ list_from 0 n (λ i. cond (eqb i x) v (f i))
set-from n f x v =
    is-from n (set (list_from 0 n f) x v) (λ i. cond (eqb i x) v (f i)) (length-set (list_from 0 n f) x v ∙ length_from 0 n f) (λ i h. go i h (eqb i x) refl)
  where
    go : (i : ℕ) → i < n → (b : Bool) → eqb i x ≡ b → get_or (set (list_from 0 n f) x v) i 0 ≡ cond b v (f i)
    go i h true e =
        let q : i ≡ x = eqb-true i x e in
        ap (λ (k : ℕ). get_or (set (list_from 0 n f) x v) k 0) q ∙ get_or-set_same (list_from 0 n f) x v 0 (omega (arith, length_from 0 n f))
    go i h false e = get_or-set_other (list_from 0 n f) x i v 0 (eqb-false i x e) ∙ from_at n f i h

-- ---- a list of n zeros that is filled from the front: its first a numbers are written

abbrev pub filled : ℕ → (ℕ → ℕ) → ℕ → List ℕ
filled n f a = list_from 0 n (λ i. cond (ltb i a) (f i) 0)

module _ (n : ℕ) (f : ℕ → ℕ) where
  pub fill_start : replicate n 0 ≡ filled n f 0
  fill_start =
      is-from n (replicate n 0) (λ i. cond (ltb i 0) (f i) 0) (length-replicate n 0) (λ i h.
      get_or-replicate n i 0 0 h ∙ ap (λ (b : Bool). cond b (f i) 0) (sym (le-ltb i 0 zero-le)))

  pub fill-next : (a : ℕ) → set (filled n f a) a (f a) ≡ filled n f (a + 1)
  fill-next a = set-from n (λ i. cond (ltb i a) (f i) 0) a (f a) ∙ from-same n _ _ (λ i h. go i (eqb i a) refl)
    where
      before : (i : ℕ) → i ≢ a → Dec (i < a) → ltb i a ≡ ltb i (a + 1)
      before i q (yes h) = lt-ltb i a h ∙ sym (lt-ltb i (a + 1) (omega arith))
      before i q (no h) = le-ltb i a (omega arith) ∙ sym (le-ltb i (a + 1) (omega arith))

      go : (i : ℕ) (b : Bool) → eqb i a ≡ b → cond b (f a) (cond (ltb i a) (f i) 0) ≡ cond (ltb i (a + 1)) (f i) 0
      go i true e =
          let q : a ≡ i = sym (eqb-true i a e) in
          ap f q ∙ ap (λ (b : Bool). cond b (f i) 0) (sym (lt-ltb i (a + 1) (omega arith)))
      go i false e = ap (λ (b : Bool). cond b (f i) 0) (before i (eqb-false i a e) (dec_lt i a))

  pub fill_end : (a : ℕ) → n ≤ a → filled n f a ≡ list_from 0 n f
  fill_end a l = from-same n _ f (λ i h. ap (λ (b : Bool). cond b (f i) 0) (lt-ltb i a (omega arith)))

-- ---- a result over the front of lent memory

pub over-length : (result out : List ℕ) → length result ≤ length out → length (over result out) ≡ length out
over-length result out h = simp (length-append, length-drop) (omega arith)
