-- `frame_reader::tail_fault` meets its contract.
-- Assumes nothing.
use mathlib.Core.Path.{◌∙◌}
use native.Mathlib.Omega.{arith}
use Rattle.frame_reader.proofs.Cases.{whole-tail, at_first, end-first, most-first, no-first}
use Rattle.frame_reader.proofs.tail_fault.Goals as goal

pub returns-then-at-end : goal.returns-then-at-end
returns-then-at-end c =
    at_first _ _ _ _ _ (whole-tail _ _ c.args.n _ _ c.requires.2 c.segment_at-segment.ensures c.requires.1 c.zeros_end-at.ensures) c.if-at-end.true (omega (arith, c.if-at-end.true))

pub returns-then-end-frame : goal.returns-then-end-frame
returns-then-end-frame c =
    end-first _ _ _ _ _ (whole-tail _ _ c.args.n _ _ c.requires.2 c.segment_at-segment.ensures c.requires.1 c.zeros_end-at.ensures) (omega (arith, c.if-at-end.false)) c.if-end-frame.true

pub returns-then-most-n : goal.returns-then-most-n
returns-then-most-n c =
    c.most_at-most.ensures
    ∙ most-first _ _ _ _ _ (whole-tail _ _ c.args.n _ _ c.requires.2 c.segment_at-segment.ensures c.requires.1 c.zeros_end-at.ensures)
    (omega (arith, c.if-at-end.false)) (omega (arith, c.if-end-frame.false)) (omega (arith, c.most_at-most.ensures, c.if-most-n.true))

pub returns-else-most-n : goal.returns-else-most-n
returns-else-most-n c =
    no-first _ _ _ _ _ (whole-tail _ _ c.args.n _ _ c.requires.2 c.segment_at-segment.ensures c.requires.1 c.zeros_end-at.ensures)
    (omega (arith, c.if-at-end.false)) (omega (arith, c.if-end-frame.false)) (omega (arith, c.most_at-most.ensures, c.if-most-n.false))
