-- `text::write_byte` meets its contract: one byte is written.
-- Assumes nothing.
use mathlib.Core.Path.{refl}
use Rattle.text.proofs.Writing.{one}
use Rattle.text.proofs.write_byte.Goals as goal

pub returns : goal.returns
returns c = one _ _ _ _ refl
