-- `capture::frame_of` meets its contract: the part of the file that the place names.
-- Assumes nothing.
use mathlib.Core.Path.{ap, ◌∙◌}
use Prim.Native.Nat.{ℕ}
use native.Mathlib.Nat.{add-sub_cancel_left}
use lib.ListN.{take, drop}
use Rattle.capture.specs.Opening.{part_at}
use Rattle.capture.proofs.frame_of.Goals as goal

pub returns : goal.returns
returns c =
    let file = c.args.file.now in
    let p = c.place_of-place in
    ap (λ (k : ℕ). take k (drop p.result.at file)) (add-sub_cancel_left p.result.at p.result.len) ∙ ap (part_at file) p.ensures.value
