-- The answers of cutting and joining (document 01, "Cutting and joining") as one number, for
-- callers that have no enums. What is written to the lent lists is defined in `message`:
-- `cut_output`, `cut_lengths` and `join_output`.
-- Assumes nothing.
use Rattle.std.specs.Prelude.{ℕ, ◌+◌, ◌*◌, Result}
use Rattle.sequence.specs.Numbers.{link, packet}
use Rattle.message.specs.declared.cutting.Start.{Start}
use Rattle.message.specs.Cutting.{cut_count, cut_bytes}
use Rattle.message.specs.Joining.{joined_bytes}
use Rattle.message.specs.declared.cutting.Cut.{Cut}
use Rattle.refusal.specs.Numbers.{refusal_number}
use Rattle.refusal.specs.Positions.{fault_number}
use Rattle.refusal.specs.declared.Fault.{Fault}
use Rattle.refusal.specs.declared.Refusal.{Refusal}

-- the numbers of the first frame, from plain numbers; values over a field are kept, and cutting
-- refuses them with 1
abbrev pub start_at : ℕ → ℕ → ℕ → ℕ → Start
start_at sn ps pr ch = record { sn = link sn; ps = packet ps; pr = packet pr; ch = ch }

-- the refusal number, plus 256 times the number of frames, plus 2 ^ 32 times the sum of their
-- bytes; for a refusal both counts are 0
abbrev pub cut_answer : Result Cut Refusal → ℕ
cut_answer c = refusal_number c + 256 * cut_count c + 4294967296 * cut_bytes c

-- the refusal number, plus 256 times the length of the message, which is 0 for a refusal
abbrev pub joined_answer : Result ℕ Fault → ℕ
joined_answer j = fault_number j + 256 * joined_bytes j
