-- What the private functions of `joining` promise and require. No public call cites these
-- definitions.
-- Assumes nothing.
use Rattle.std.specs.Prelude.{◌≡◌, Bool, true, false, ◌&&◌, List, [], ◌∷◌, ℕ, ◌≤◌, length, Result, Ok, Err, Option, Some, None}
use Rattle.refusal.specs.Positions.{Checked, all_at}
use Rattle.lists.specs.Frames.{parts_of, sum}
use Rattle.frame_form.specs.declared.Form.{Form}
use Rattle.frame.specs.Reading.{read_of, data_in}
use Rattle.message.specs.Joining.{turn_checks, user_of, message_in, size_verdict, join_by}
use Rattle.frame.specs.Packets.{Read}
use Rattle.refusal.specs.declared.Fault.{Fault}
use Rattle.frame.specs.declared.Data.{Data as DataFields}

-- what the loop keeps of a frame that passed its checks, or the refusal
abbrev pub Turn : Type 0
Turn = Result (Option DataFields × ℕ) Fault

-- the checks of one frame, with what the loop keeps of it: its DATA packet, and the length of its
-- user data
abbrev pub turn_by : Checked → Option DataFields → ℕ → Turn
turn_by (Ok tt) next user = Ok (next, user)
turn_by (Err fault) next user = Err fault

-- the same, by what reading the frame answered
abbrev pub turn_of : Option DataFields → Bool → Read → List ℕ → Turn
turn_of before last r frame = turn_by (turn_checks before last r) (data_in r) (length (user_of r frame))

-- "then 4, then 5", after the checks of all frames, `all` bytes
abbrev pub sized : Result ℕ Fault → ℕ → ℕ → Result ℕ Fault
sized (Ok n) room all = join_by (all_at all (size_verdict n room)) n
sized (Err fault) room all = Err fault

-- whether a frame reads and is DATA
abbrev pub some_data : Option DataFields → Bool
some_data None = false
some_data (Some d) = true

abbrev pub is_data : Read → Bool
is_data r = some_data (data_in r)

-- whether every frame reads and is DATA
unfoldable pub all_data : Form → List (List ℕ) → Bool
all_data form [] = true
all_data form (f ∷ fs) = is_data (read_of form f) && all_data form fs

-- what `copy_users` requires: the lengths sum to the bytes, every frame reads and is DATA, and the
-- message fits an output of `room` bytes
pub record Joinable (form : Form) (lengths bytes : List ℕ) (room : ℕ) : Type 0 where
  pub sums : sum lengths ≡ length bytes
  pub all-data : all_data form (parts_of lengths bytes) ≡ true
  pub fits-room : length (message_in form (parts_of lengths bytes)) ≤ room
