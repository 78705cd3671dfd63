-- Refusals change nothing: a call that is done has the number 0, and for a refused one the
-- definition gives the lists as they were lent.
-- Assumes nothing.
use mathlib.Core.Path.{◌≡◌, refl}
use mathlib.Core.List.{List}
use mathlib.Core.Logic.{◌≢◌}
use Prim.Native.Nat.{ℕ}
use lib.ListN.{length}
use Rattle.refusal.specs.Positions.{Checked, verdict_of, fault_number}
use Rattle.lists.specs.Frames.{bytes_in, lengths_of, parts_of}
use Rattle.frame_writer.specs.Writing.{output_by}
use Rattle.message.specs.Cutting.{cut_count, cut_bytes, frames_of, cut_verdict, cut_by, cut_of, cut_output, cut_lengths}
use Rattle.message.specs.Joining.{joined_bytes, message_in, join_checks, join_by, join_of, join_output}
use Rattle.message_claims.specs.Refusing.{RefusalsChangeNothing}
use Rattle.refusal.specs.Numbers.{Verdict, refusal_number}
use Rattle.std.specs.Prelude.{Ok, Err}

cut_by_lem : (v : Verdict) (fs : List (List ℕ)) (out lengths : List ℕ) → refusal_number (cut_by v fs) ≢ 0
    → (cut_count (cut_by v fs) ≡ 0) × (cut_bytes (cut_by v fs) ≡ 0) × (output_by v (bytes_in fs) out ≡ out) × (output_by v (lengths_of fs) lengths ≡ lengths)
cut_by_lem (Ok tt) fs out lengths h = absurd (h refl)
cut_by_lem (Err why) fs out lengths h = (refl, refl, refl, refl)

join_by_lem : (c : Checked) (message out : List ℕ) → fault_number (join_by c (length message)) ≢ 0
    → (joined_bytes (join_by c (length message)) ≡ 0) × (output_by (verdict_of c) message out ≡ out)
join_by_lem (Ok tt) message out h = absurd (h refl)
join_by_lem (Err fault) message out h = (refl, refl)

pub refusals-change-nothing : RefusalsChangeNothing
unfolding cut_of cut_output cut_lengths join_of join_output
refusals-change-nothing = record {
  cut = λ form s message out lengths. cut_by_lem (cut_verdict form s message (length out) (length lengths)) (frames_of form s message) out lengths;
  join = λ form lengths bytes out. join_by_lem (join_checks form lengths bytes (length out)) (message_in form (parts_of lengths bytes)) out;
}
