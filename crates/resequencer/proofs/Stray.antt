-- One pass over the tickets: the bitwise or of the tickets of numbers not held is 0 exactly if each
-- of them is 0.
-- Assumes nothing.
use mathlib.Core.Path.{◌≡◌, refl, ap, ◌∙◌}
use mathlib.Core.Bool.{Bool, true, false, not, cond, ◌&&◌, ◌||◌}
use mathlib.Core.List.{List}
use Prim.Native.Nat.{ℕ, suc, ◌+◌, ◌/◌, ◌%◌, ◌^◌, ◌<◌}
use native.Mathlib.Omega.{arith}
use lib.Bits.{bit_or, and_le_l, and_le_r, or_add_and}
use lib.Dec.{eqb}
use lib.ListN.{get_or}
use borrow.Author.Tests.{eqb-true, eq-eqb}
use Rattle.refusal.proofs.Checks.{both_true}
use Rattle.wordset.specs.Sets.{member, every}
use Rattle.wordset.proofs.Digits.{bit-mod, bit-shr}
use Rattle.wordset.proofs.Rings.{same_bit}
use Rattle.resequencer.specs.Parts.{ticket_fits, gather_stray}
use Rattle.resequencer.proofs.Order.{both, same_test}

or-none : (a b : ℕ) → eqb (bit_or a b) 0 ≡ (eqb b 0 && eqb a 0)
or-none a b =
    same_test _ _
    (λ t.
    let z = eqb-true (bit_or a b) 0 t in
    both (eqb b 0) (eqb a 0) (eq-eqb b 0 (omega (arith, or_add_and a b, and_le_l a b))) (eq-eqb a 0 (omega (arith, or_add_and a b, and_le_r a b))))
    (λ t.
    let y : b ≡ 0 = eqb-true b 0 (both_true (eqb b 0) (eqb a 0) t).0 in
    let x : a ≡ 0 = eqb-true a 0 (both_true (eqb b 0) (eqb a 0) t).1 in
    eq-eqb (bit_or a b) 0 (omega (arith, or_add_and a b)))

-- one more ticket
gathered : (held : ℕ) (tickets : List ℕ) (n stray : ℕ) → eqb (gather_stray stray (member held n) (get_or tickets n 0)) 0 ≡ (ticket_fits held tickets n && eqb stray 0)
unfolding gather_stray ticket_fits
gathered held tickets n stray = go (member held n)
  where
    go : (b : Bool) → eqb (cond b stray (bit_or stray (get_or tickets n 0))) 0 ≡ ((not (not b) || eqb (get_or tickets n 0) 0) && eqb stray 0)
    go true = refl
    go false = or-none stray (get_or tickets n 0)

-- a turn of a loop over all numbers
pub gather-next : (held : ℕ) (tickets : List ℕ) (n stray r : ℕ) → eqb stray 0 ≡ every n (ticket_fits held tickets) → r ≡ gather_stray stray (member held n) (get_or tickets n 0)
    → eqb r 0 ≡ every (suc n) (ticket_fits held tickets)
unfolding every
gather-next held tickets n stray r inv q =
    ap (λ (x : ℕ). eqb x 0) q ∙ gathered held tickets n stray ∙ ap (λ (b : Bool). ticket_fits held tickets n && b) inv

-- a turn of the loop over eight numbers
pub gather-turn : (held : ℕ) (tickets : List ℕ) (p j ones eight r : ℕ) → j < 8 → eight ≡ held / 2 ^ p % 256 → eqb ones 0 ≡ every (p + j) (ticket_fits held tickets)
    → r ≡ gather_stray ones (member eight j) (get_or tickets (p + j) 0) → eqb r 0 ≡ every (p + (j + 1)) (ticket_fits held tickets)
gather-turn held tickets p j ones eight r h e inv q =
    let n : suc (p + j) ≡ p + (j + 1) = omega arith in
    let m : member eight j ≡ member held (p + j) =
    ap (λ (w : ℕ). member w j) e ∙ same_bit (held / 2 ^ p % 2 ^ 8) held j (p + j) (bit-mod (held / 2 ^ p) 8 j h ∙ bit-shr held p j) in
    gather-next held tickets (p + j) ones r inv (q ∙ ap (λ (b : Bool). gather_stray ones b (get_or tickets (p + j) 0)) m)
    ∙ ap (λ (x : ℕ). every x (ticket_fits held tickets)) n
