-- `replay_script::kept_answer` meets its contract: the line that is read is the one that was kept.
-- Assumes nothing.
use mathlib.Core.Path.{◌≡◌, sym, ap, ◌∙◌}
use native.Mathlib.Omega.{arith}
use lib.ListN.{length}
use lib.Seq.{length-take-le}
use borrow.Author.Rules.{rules}
use Rattle.replay_script.specs.Lines.{line_answer}
use Rattle.replay_script.proofs.Feeding.{kept_line}
use Rattle.replay_script.proofs.kept_answer.Goals as goal

pub slice_bounds-read_line-end : goal.slice_bounds-read_line-end
slice_bounds-read_line-end c =
    let sized : length c.args.line ≡ 14 = search rules in sym (length-take-le _ _ (omega (arith, c.at_most-size.ensures.0, sized)))

pub returns : goal.returns
returns c =
    let sized : length c.args.line ≡ 14 = search rules in
    c.answer_to.ensures
    ∙ ap (line_answer c.args.state) (kept_line c.args.line c.args.have sized c.at_most-size.ensures.1 c.read_line.ensures)
