-- `resequencer::passed_numbers` meets its contract: m ones rotated up by NESN are the m numbers
-- starting at NESN.
-- Assumes nothing.
use mathlib.Core.Path.{◌∙◌}
use native.Mathlib.Omega.{arith}
use lib.Pow.{pow_pos}
use Rattle.wordset.proofs.Words.{mask}
use Rattle.resequencer.proofs.Passing.{ones-passed}
use Rattle.resequencer.proofs.passed_numbers.Goals as goal

-- a one shifted up by less than 64 is still there
pub overflow_sub-m : goal.overflow_sub-m
overflow_sub-m c = omega (arith, mask 64 c.args.m c.requires.1, pow_pos c.args.m)

pub returns : goal.returns
returns c = c.rotate.ensures ∙ ones-passed _ _ c.requires.0 c.requires.1
