-- `frame_reader::number_in` meets its contract: at each turn, the number so far followed by the
-- bytes still to be read is the whole number.
-- Assumes nothing.
use mathlib.Core.Path.{◌≡◌}
use Prim.Native.Nat.{ℕ, ◌+◌, ◌*◌, ◌^◌, ◌<◌}
use lib.ListN.{drop}
use Rattle.frame_fields.specs.Rows.{pack_after, eights, number_in}
use Rattle.frame_reader.proofs.number_in.Given as goal

abbrev pub invariant-loop-i : goal.invariant-loop-i
invariant-loop-i l = (r : ℕ) × (l.i + r ≡ l.k) × (l.h < 2 ^ (8 * l.i)) × (pack_after l.h (eights r) (drop l.i l.frame) ≡ number_in l.k l.frame)
