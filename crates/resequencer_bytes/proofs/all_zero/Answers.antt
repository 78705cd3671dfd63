-- `resequencer_bytes::all_zero` meets its contract: after each turn one more ticket has been
-- tested.
-- Assumes nothing.
use mathlib.Core.Path.{refl, sym, ap, ap₂, ◌∙◌}
use mathlib.Core.Bool.{Bool}
use Prim.Native.Nat.{ℕ}
use native.Mathlib.Numerals.{add-one}
use lib.ListN.{drop}
use Rattle.wordset.specs.Sets.{every}
use Rattle.wordset.proofs.Sets.{member-none}
use Rattle.resequencer.specs.Parts.{ticket_fits, gather_stray}
use Rattle.resequencer.proofs.Stray.{gather-next}
use Rattle.resequencer_bytes.specs.Parts.{tickets_in}
use Rattle.resequencer_bytes.proofs.all_zero.Goals as goal

pub loop-number-init : goal.loop-number-init
unfolding every
loop-number-init c = refl

pub loop-number-preserved : goal.loop-number-preserved
loop-number-preserved c =
    let t = tickets_in (drop 18 c.args.state.now) in
    let l = c.loop-number in
    gather-next 0 t l.number l.stray c.gather_stray-stray.result l.invariant
    (c.gather_stray-stray.ensures ∙ ap₂ (λ (b : Bool) (x : ℕ). gather_stray l.stray b x) (sym (member-none l.number)) c.ticket_of.ensures)
    ∙ ap (λ (n : ℕ). every n (ticket_fits 0 t)) (sym (add-one l.number))
