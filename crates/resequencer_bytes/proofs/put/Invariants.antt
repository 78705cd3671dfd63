-- `resequencer_bytes::put` meets its contract: after i turns i bytes are written, and `rest` is the
-- number that the other bytes encode.
-- Assumes nothing.
use Rattle.little.proofs.Places.{Putting}
use Rattle.resequencer_bytes.proofs.put.Given as goal

abbrev pub invariant-loop-i : goal.invariant-loop-i
invariant-loop-i l = Putting l.initial.state l.at l.k l.n l.state l.i l.rest
