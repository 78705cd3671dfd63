-- `frame_reader::is_padded` meets its contract: all bytes are 0 if the first that is not is none.
-- Assumes nothing.
use mathlib.Core.Path.{ap, ◌∙◌}
use Prim.Native.Nat.{ℕ}
use lib.Dec.{eqb}
use lib.ListN.{length}
use Rattle.frame_reader.proofs.Zeros.{all-counted}
use Rattle.frame_reader.proofs.is_padded.Goals as goal

pub returns : goal.returns
returns c =
    let a = c.args in
    ap (λ (x : ℕ). eqb x (length a.frame.now)) c.zeros_end.ensures ∙ all-counted a.from a.frame.now c.requires
