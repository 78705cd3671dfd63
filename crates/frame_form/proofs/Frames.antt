-- A frame's parts, and bytes that are all zero.
-- Assumes nothing.
use mathlib.Core.Path.{◌≡◌, refl, sym, ap, ◌∙◌}
use mathlib.Core.Bool.{true}
use mathlib.Core.List.{List, [], ◌∷◌, ◌++◌, append_assoc}
use Prim.Native.Nat.{ℕ, zero, suc, ◌+◌}
use native.Mathlib.Omega.{arith}
use lib.Dec.{eqb}
use lib.ListN.{length, take, drop, replicate, length-replicate, length-append}
use lib.Seq.{take_at, drop_at}
use borrow.Author.Tests.{eqb-true}
use Rattle.refusal.proofs.Checks.{both_true}
use Rattle.frame_form.specs.Segments.{padding, frame_length}
use Rattle.frame_form.specs.Frames.{framed, all_zero}

pub zeros-zero : (n : ℕ) → all_zero (replicate n 0) ≡ true
zeros-zero zero = refl
zeros-zero (suc n) = zeros-zero n

pub zero-zeros : (bs : List ℕ) → all_zero bs ≡ true → bs ≡ replicate (length bs) 0
zero-zeros [] h = refl
zero-zeros (b ∷ bs) h = let p = both_true (eqb b 0) (all_zero bs) h in λ i. eqb-true b 0 p.0 i ∷ zero-zeros bs p.1 i

-- the length of a frame
pub whole_length : (seg : ℕ) (h d : List ℕ) → length (framed seg h d) ≡ frame_length seg (length h + length d)
unfolding framed
whole_length seg h d =
    let z = padding seg (length h + length d) in
    let lz : length (replicate {A = ℕ} z 0) ≡ z = length-replicate z 0 in
    omega (arith, length-append h (d ++ replicate z 0), length-append d (replicate z 0), lz)

-- the parts of a frame with a header of k bytes
module _ (seg k : ℕ) (head user : List ℕ) (size : length head ≡ k) where
  pub framed-length : length (framed seg head user) ≡ frame_length seg (k + length user)
  framed-length = whole_length seg head user ∙ ap (λ (x : ℕ). frame_length seg (x + length user)) size

  pub head_of : take k (framed seg head user) ≡ head
  unfolding framed
  head_of = take_at head _ k size

  pub user-of : take (length user) (drop k (framed seg head user)) ≡ user
  unfolding framed
  user-of = ap (take (length user)) (drop_at head _ k size) ∙ take_at user _ (length user) refl

  pub zeros_of : all_zero (drop (k + length user) (framed seg head user)) ≡ true
  unfolding framed
  zeros_of =
      let z : List ℕ = replicate (padding seg (length head + length user)) 0 in
      ap (λ (t : List ℕ). all_zero (drop (k + length user) t)) (sym (append_assoc head user z))
      ∙ ap all_zero (drop_at (head ++ user) z (k + length user) (length-append head user ∙ ap (λ (x : ℕ). x + length user) size))
      ∙ zeros-zero (padding seg (length head + length user))
