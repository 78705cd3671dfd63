-- `resequencer_bytes::put` meets its contract: after i turns i bytes are written, and `rest` is the
-- number that the other bytes encode.
-- Assumes nothing.
use mathlib.Core.Path.{◌≡◌, ap, ◌∙◌}
use native.Mathlib.Omega.{arith}
use lib.Seq.{paste}
use Rattle.little.specs.Little.{little_bytes}
use Rattle.little.proofs.Places.{put-starts, put-turns}
use Rattle.resequencer_bytes.proofs.put.Goals as goal

pub loop-i-init : goal.loop-i-init
loop-i-init c = put-starts c.args.state.now c.args.at c.args.k c.args.n (omega (arith, c.told-state))

pub loop-i-preserved : goal.loop-i-preserved
loop-i-preserved c =
    let a = c.args in
    let l = c.loop-i in
    put-turns a.state.now a.at a.k a.n (omega (arith, c.told-state)) l.state l.i l.rest c.loop-i-test.true l.invariant

pub returns : goal.returns
returns c =
    let a = c.args in
    let l = c.loop-i in
    let z : l.i ≡ a.k = omega arith in
    l.invariant.written ∙ ap (paste a.state.now a.at (little_bytes a.k a.n)) z
