-- `capture::put_file` meets its contract: the header, then the frames behind it.
-- Assumes nothing.
use native.Mathlib.Omega.{arith}
use Rattle.capture.proofs.Saving.{filed}
use Rattle.capture.proofs.put_file.Goals as goal

pub put_header-requires : goal.put_header-requires
put_header-requires c =
    let m = c.requires in
    record { few = m.few; short = omega (arith, m.sums, m.small); room-enough = omega (arith, m.room-enough) }

pub returns-clause-written : goal.returns-clause-written
returns-clause-written c =
    let a = c.args in
    filed a.form a.lengths.now a.frames.now a.out.now _ _ _ (omega arith) (omega (arith, c.requires.room-enough)) c.put_header.ensures c.copy_in.ensures
