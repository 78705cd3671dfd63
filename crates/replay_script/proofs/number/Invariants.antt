-- `replay_script::number` meets its contract: `value`, continued by the digits that are left, is
-- the value of the whole text.
-- Assumes nothing.
use mathlib.Core.Path.{◌≡◌}
use Prim.Native.Nat.{◌≤◌}
use lib.ListN.{drop}
use Rattle.replay_script.specs.Text.{value_from, all_digits}
use Rattle.replay_script.proofs.number.Given as goal

abbrev pub invariant-loop-byte : goal.invariant-loop-byte
invariant-loop-byte l =
    (l.value ≤ 65535) × (value_from l.value (drop l.byte-index l.text) ≡ value_from 0 l.text) × (all_digits (drop l.byte-index l.text) ≡ all_digits l.text)
