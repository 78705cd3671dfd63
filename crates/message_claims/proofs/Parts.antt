-- Parts of bytes are bytes.
-- Assumes nothing.
use mathlib.Core.List.{List, [], ◌∷◌}
use Prim.Native.Nat.{ℕ, zero, suc}
use lib.ListN.{take, drop}
use Rattle.frame_fields.specs.Rows.{AreBytes}

pub are-bytes : (l : ℕ) (bytes : List ℕ) → AreBytes bytes → AreBytes (take l bytes) × AreBytes (drop l bytes)
are-bytes zero bytes b = (tt, b)
are-bytes (suc l) [] b = (b, b)
are-bytes (suc l) (x ∷ xs) b = let p = are-bytes l xs b.1 in ((b.0, p.0), p.1)
