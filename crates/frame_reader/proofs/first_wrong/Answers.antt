-- `frame_reader::first_wrong` meets its contract.
-- Assumes nothing.
use native.Mathlib.Omega.{arith}
use Rattle.frame_fields.proofs.Masks.{lz-word}
use Rattle.frame_reader.proofs.first_wrong.Goals as goal

pub overflow_sub-result : goal.overflow_sub-result
overflow_sub-result c = omega (arith, lz-word c.args.size c.args.wrong c.requires.1 c.requires.2)

pub returns : goal.returns
returns c = omega (arith, lz-word c.args.size c.args.wrong c.requires.1 c.requires.2)
