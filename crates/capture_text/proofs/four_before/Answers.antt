-- `capture_text::four_before` meets its contract: the two cases of a difference.
-- Assumes nothing.
use native.Mathlib.Omega.{arith}
use Rattle.capture_text.proofs.four_before.Goals as goal

pub returns-then-at-lt4 : goal.returns-then-at-lt4
returns-then-at-lt4 c = (omega arith, omega arith)

pub returns-else-at-lt4 : goal.returns-else-at-lt4
returns-else-at-lt4 c = (omega arith, omega arith)
