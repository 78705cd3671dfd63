-- `route::Report::note_each` meets its contract. The loop's invariant: the report so far is that of
-- the addresses passed.
-- Assumes nothing.
use mathlib.Core.Path.{◌≡◌}
use Rattle.route.specs.Updating.{those}
use Rattle.route.specs.Parts.{report_of, lost_in}
use Rattle.route.proofs.Report.note_each.Given as goal

abbrev pub invariant-loop-a : goal.invariant-loop-a
invariant-loop-a l = l.self ≡ report_of (those l.a (lost_in l.before l.after))
