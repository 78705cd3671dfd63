-- `route::settle` meets its contract. The loop's invariant: the sets of the first addresses are
-- written.
-- Assumes nothing.
use mathlib.Core.Path.{◌≡◌, ap, ap₂, ◌∙◌}
use mathlib.Core.List.{List}
use Prim.Native.Nat.{ℕ, ◌+◌}
use lib.ListN.{get_or, set}
use Rattle.lists.proofs.Lists.{filled, fill_start, fill-next, fill_end}
use Rattle.wordset.specs.Sets.{union, difference}
use Rattle.route.specs.Parts.{Change, change, settled_at, settled}
use Rattle.route.proofs.settle.Goals as goal

-- one more set is written
next-set : (codes : List ℕ) (c : Change) (next : List ℕ) (a u d : ℕ) → next ≡ filled 256 (settled_at codes c) a
    → u ≡ union 16 (get_or codes a 0) (get_or c.added a 0) → d ≡ difference 16 u (get_or c.deleted a 0)
    → set next a d ≡ filled 256 (settled_at codes c) (a + 1)
next-set codes c next a u d e p q =
    ap₂ (λ (t : List ℕ) (v : ℕ). set t a v) e (q ∙ ap (λ (w : ℕ). difference 16 w (get_or c.deleted a 0)) p) ∙ fill-next 256 (settled_at codes c) a

pub loop-a-init : goal.loop-a-init
loop-a-init c = fill_start 256 _

pub loop-a-preserved : goal.loop-a-preserved
loop-a-preserved c =
    let l = c.loop-a in
    let a = c.args in
    next-set a.codes.now (change a.added.now a.deleted.now) _ l.a _ _ l.invariant c.union.ensures c.difference.ensures

pub returns : goal.returns
unfolding settled
returns c =
    let l = c.loop-a in
    l.invariant ∙ fill_end 256 _ l.a c.loop-a-test.false
