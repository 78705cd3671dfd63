-- `capture_text::put_hex` meets its contract: the bytes before the one at `byte-index` are written.
-- Assumes nothing.
use Prim.Native.Nat.{◌*◌}
use lib.ListN.{take}
use Rattle.text.specs.Writing.{Wrote}
use Rattle.capture_text.specs.Report.{hex_bytes}
use Rattle.capture_text.proofs.put_hex.Given as goal

abbrev pub invariant-loop-byte : goal.invariant-loop-byte
invariant-loop-byte l = Wrote l.initial.out l.out l.from l.end (3 * l.byte-index) (hex_bytes (take l.byte-index l.bytes))
