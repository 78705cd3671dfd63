-- `route::Report::note_any` meets its contract: addresses of which none is lost add nothing to the report.
-- Assumes nothing.
use mathlib.Core.Path.{sym, ap, ◌∙◌}
use Rattle.route.specs.Parts.{report_of, lost_in}
use Rattle.route.proofs.Reporting.{those-skip}
use Rattle.route.proofs.Report.note_any.Goals as goal

pub returns-else-any_lost : goal.returns-else-any_lost
returns-else-any_lost c =
    let a = c.args in
    c.requires.1 ∙ ap report_of (sym (those-skip (lost_in a.before.now a.after.now) a.from 16 (c.any_lost.ensures c.if-any_lost.false)))
