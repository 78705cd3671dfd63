-- `transfer_demo::arrive` meets its contract: the number is the one that is read.
-- Assumes nothing.
use mathlib.Core.Path.{◌≡◌, ap, ◌∙◌}
use Prim.Native.Nat.{ℕ}
use Rattle.resequencer.specs.Events.{arrive_of}
use Rattle.frame.specs.Reading.{sn_in}
use Rattle.transfer_demo.proofs.arrive.Goals as goal

pub returns : goal.returns
returns c =
    let a = c.args in
    let called : c.arrive.result ≡ arrive_of a.state c.number_of-sn.result a.place = c.arrive.ensures.value in
    called ∙ ap (λ (n : ℕ). arrive_of a.state n a.place) (c.number_of-sn.ensures ∙ ap sn_in c.read_frame.ensures.value)
