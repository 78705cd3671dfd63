-- Good order of the receiving end by its mark, and the bounds that follow from it.
-- Assumes nothing.
use mathlib.Core.Path.{◌≡◌, refl, ap, ◌∙◌}
use mathlib.Core.Bool.{Bool, true, false, not, ◌&&◌, ◌||◌, false≢true}
use Prim.Native.Nat.{ℕ, ◌≤◌}
use native.Mathlib.Omega.{arith}
use lib.Dec.{leb, eqb}
use borrow.Author.Tests.{le-leb, leb-true, eqb-true}
use Rattle.refusal.proofs.Checks.{both_true}
use Rattle.window.specs.declared.receiver.Receiver.{Receiver}
use Rattle.window.specs.Receiving.{receiver_in_order}

-- p and q may be left out if they follow from x and y
implied : (p q x y : Bool) → (x ≡ true → p ≡ true) → (y ≡ true → q ≡ true) → (p && (q && (x && y))) ≡ (x && y)
implied true true x y f g = refl
implied true false x true f g = absurd (false≢true (g refl))
implied true false true false f g = refl
implied true false false false f g = refl
implied false q true y f g = absurd (false≢true (f refl))
implied false q false y f g = refl

all_true : (p q : Bool) → (p && (q && true)) ≡ (p && q)
all_true true true = refl
all_true true false = refl
all_true false q = refl

zero-small : (n m : ℕ) → eqb n 0 ≡ true → leb n m ≡ true
zero-small n m e = let z : n ≡ 0 = eqb-true n 0 e in le-leb n m (omega arith)

by-mark : Bool → Receiver → Bool
by-mark b r = leb r.expected.0 15 && (leb r.untold 8 && (not b || (eqb r.expected.0 0 && eqb r.untold 0)))

pub marked : (r : Receiver) → r.first ≡ true → receiver_in_order r ≡ (eqb r.expected.0 0 && eqb r.untold 0)
unfolding receiver_in_order by-mark
marked r e =
    ap (λ (b : Bool). by-mark b r) e
    ∙ implied (leb r.expected.0 15) (leb r.untold 8) (eqb r.expected.0 0) (eqb r.untold 0)
    (zero-small r.expected.0 15) (zero-small r.untold 8)

pub unmarked : (r : Receiver) → r.first ≡ false → receiver_in_order r ≡ (leb r.expected.0 15 && leb r.untold 8)
unfolding receiver_in_order by-mark
unmarked r e = ap (λ (b : Bool). by-mark b r) e ∙ all_true (leb r.expected.0 15) (leb r.untold 8)

pub bounds : (r : Receiver) → receiver_in_order r ≡ true → (r.expected.0 ≤ 15) × (r.untold ≤ 8)
unfolding receiver_in_order
bounds r g =
    let p = both_true (leb r.expected.0 15) _ g in
    (leb-true r.expected.0 15 p.0, leb-true r.untold 8 (both_true (leb r.untold 8) _ p.1).0)
