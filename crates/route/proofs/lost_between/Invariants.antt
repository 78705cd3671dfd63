-- `route::lost_between` meets its contract. The loop's invariant: the report so far is that of the
-- blocks passed.
-- Assumes nothing.
use mathlib.Core.Path.{◌≡◌}
use Prim.Native.Nat.{◌*◌}
use Rattle.route.specs.Updating.{those}
use Rattle.route.specs.Parts.{report_of, lost_in}
use Rattle.route.proofs.lost_between.Given as goal

abbrev pub invariant-loop-block : goal.invariant-loop-block
invariant-loop-block l = l.report ≡ report_of (those (l.block * 16) (lost_in l.before l.after))
