-- Refusals change nothing: a writer that is done has the number 0, and for a refused one the
-- definition gives the output as it was lent.
-- Assumes nothing.
use mathlib.Core.Path.{◌≡◌, refl}
use mathlib.Core.List.{List}
use mathlib.Core.Logic.{◌≢◌}
use Prim.Native.Nat.{ℕ}
use lib.ListN.{length}
use Rattle.frame_form.specs.Forms.{seg_of}
use Rattle.frame_form.specs.Segments.{frame_length}
use Rattle.frame_writer.specs.Writing.{output_by}
use Rattle.frame.specs.Writing.{written_bytes, length_of, frame_of, frame_verdict, written_by, write_of, write_output}
use Rattle.frame_claims.specs.Refusing.{RefusalsChangeNothing}
use Rattle.refusal.specs.Numbers.{Verdict, refusal_number}
use Rattle.std.specs.Prelude.{Ok, Err}

pub write-by : (v : Verdict) (n : ℕ) (frame out : List ℕ) → refusal_number (written_by v n) ≢ 0 → (written_bytes (written_by v n) ≡ 0) × (output_by v frame out ≡ out)
write-by (Ok tt) n frame out h = absurd (h refl)
write-by (Err why) n frame out h = (refl, refl)

pub refusals-change-nothing : RefusalsChangeNothing
unfolding write_of write_output
refusals-change-nothing form p user out =
    write-by (frame_verdict form p (length user) (length out)) (frame_length (seg_of form) (length_of p (length user))) (frame_of form p user) out
