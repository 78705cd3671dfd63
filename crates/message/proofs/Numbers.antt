-- The number and the values of each answer, from the answer itself: what the further clauses of the
-- public calls say.
-- Assumes nothing.
use mathlib.Core.Path.{◌≡◌, ap}
use mathlib.Core.List.{List}
use Prim.Native.Nat.{ℕ}
use lib.ListN.{length}
use Rattle.refusal.specs.Numbers.{value_by, refusal_number, Verdict}
use Rattle.refusal.specs.Positions.{Checked, verdict_of, fault_number, fault_position}
use Rattle.lists.specs.Frames.{bytes_in}
use Rattle.message.specs.Cutting.{cut_count, cut_bytes, cut_by}
use Rattle.message.specs.Joining.{joined_bytes, join_by}
use Rattle.message.specs.declared.cutting.Cut.{Cut}
use Rattle.std.specs.Prelude.{Result, Ok, Err}
use Rattle.refusal.specs.declared.Fault.{Fault}
use Rattle.refusal.specs.declared.Refusal.{Refusal}

-- of an answer of cutting that is made of a verdict and the frames
pub cut_by_lem : (v : Verdict) (frames : List (List ℕ)) (r : Result Cut Refusal) → r ≡ cut_by v frames
    → (refusal_number r ≡ refusal_number v) × ((cut_count r ≡ value_by v (length frames)) × (cut_bytes r ≡ value_by v (length (bytes_in frames))))
cut_by_lem (Ok tt) frames r e = (ap refusal_number e, (ap cut_count e, ap cut_bytes e))
cut_by_lem (Err why) frames r e = (ap refusal_number e, (ap cut_count e, ap cut_bytes e))

-- of an answer of joining that is made of checks and the message's length
pub join_by_lem : (c : Checked) (n : ℕ) (r : Result ℕ Fault) → r ≡ join_by c n
    → (fault_number r ≡ fault_number c) × ((fault_position r ≡ fault_position c) × (joined_bytes r ≡ value_by (verdict_of c) n))
join_by_lem (Ok tt) n r e = (ap fault_number e, (ap fault_position e, ap joined_bytes e))
join_by_lem (Err fault) n r e = (ap fault_number e, (ap fault_position e, ap joined_bytes e))
