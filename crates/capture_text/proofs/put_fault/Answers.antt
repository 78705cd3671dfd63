-- `capture_text::put_fault` meets its contract: each arm is a case of `fault_text`.
-- Assumes nothing.
use Rattle.capture_text.proofs.Texts.{read-fault, refused-fault}
use native.Mathlib.Omega.{arith}
use Rattle.capture_text.proofs.put_fault.Goals as goal

pub returns-in-Ok : goal.returns-in-Ok
returns-in-Ok c = read-fault _ _ c.in-Ok.is (c.put_word.ensures.written (omega arith))

pub returns-in-Err : goal.returns-in-Err
returns-in-Err c = refused-fault _ _ c.in-Err.is c.put_around.ensures
