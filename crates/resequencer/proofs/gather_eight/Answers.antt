-- `resequencer::gather_eight` meets its contract: after j turns the tickets of j more numbers have
-- been tested.
-- Assumes nothing.
use mathlib.Core.Path.{refl, ap, ◌∙◌}
use mathlib.Core.Bool.{Bool}
use Prim.Native.Nat.{◌+◌, ◌/◌, ◌%◌, ◌^◌}
use lib.ListN.{get_or}
use Rattle.wordset.proofs.Words.{shifted-member}
use Rattle.resequencer.specs.Parts.{gather_stray}
use Rattle.resequencer.proofs.Stray.{gather-turn}
use Rattle.resequencer.proofs.gather_eight.Goals as goal

pub loop-j-preserved : goal.loop-j-preserved
loop-j-preserved c =
    let a = c.args in
    let l = c.loop-j in
    gather-turn _ _ _ _ l.ones (a.held / 2 ^ a.p % 256) c.gather_stray-ones.result c.loop-j-test.true refl l.invariant
    (c.gather_stray-ones.ensures ∙ ap (λ (b : Bool). gather_stray l.ones b (get_or a.tickets.now (a.p + l.j) 0)) (shifted-member (a.held / 2 ^ a.p % 256) l.j))
