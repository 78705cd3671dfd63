-- `resequencer_bytes::gather_eight` meets its contract: after j turns the tickets of j more numbers
-- have been tested.
-- Assumes nothing.
use mathlib.Core.Path.{refl, ap₂, ◌∙◌}
use mathlib.Core.Bool.{Bool}
use Prim.Native.Nat.{ℕ, ◌/◌, ◌%◌, ◌^◌}
use lib.ListN.{drop}
use Rattle.wordset.proofs.Words.{shifted-member}
use Rattle.resequencer.specs.Parts.{gather_stray}
use Rattle.resequencer.proofs.Stray.{gather-turn}
use Rattle.resequencer_bytes.specs.Parts.{tickets_in}
use Rattle.resequencer_bytes.proofs.gather_eight.Goals as goal

pub loop-j-preserved : goal.loop-j-preserved
loop-j-preserved c =
    let a = c.args in
    let l = c.loop-j in
    gather-turn a.held (tickets_in (drop 18 a.state.now)) a.p l.j l.ones (a.held / 2 ^ a.p % 256) c.gather_stray-ones.result c.loop-j-test.true refl l.invariant
    (c.gather_stray-ones.ensures ∙ ap₂ (λ (b : Bool) (t : ℕ). gather_stray l.ones b t) (shifted-member (a.held / 2 ^ a.p % 256) l.j) c.ticket_of-ticket.ensures)
