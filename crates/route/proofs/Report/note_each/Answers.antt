-- `route::Report::note_each` meets its contract. The loop's invariant: the report so far is that of
-- the addresses passed.
-- Assumes nothing.
use mathlib.Core.Path.{ap, ◌∙◌}
use Prim.Native.Nat.{◌<◌}
use native.Mathlib.Omega.{arith}
use Rattle.route.specs.Parts.{noted, lost_in}
use Rattle.route.proofs.Reporting.{noted-next, noted-room}
use Rattle.route.proofs.Report.note_each.Goals as goal

pub note-requires : goal.note-requires
note-requires c =
    let l = c.loop-a in
    let below : l.a < 256 = omega arith in
    (below, noted-room l.a (lost_in c.args.before.now c.args.after.now) l.self below l.invariant)

pub loop-a-preserved : goal.loop-a-preserved
loop-a-preserved c =
    let l = c.loop-a in
    c.note.ensures
    ∙ ap (noted l.self l.a) c.is_lost.ensures
    ∙ noted-next l.a (lost_in c.args.before.now c.args.after.now) l.self (omega arith) l.invariant
