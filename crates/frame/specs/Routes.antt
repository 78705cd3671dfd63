-- Writing a ROUTE packet: document 02, Q-4, by the definitions of `frame_writer`. `optional` is OF:
-- whether there is optional data, which may be empty; `initial` is IN.
-- Assumes nothing.
use Rattle.std.specs.Prelude.{Bool, List, ℕ, length, Result}
use Rattle.little.specs.Little.{flag}
use Rattle.frame_form.specs.declared.Form.{Form}
use Rattle.frame_form.specs.Forms.{seg_of}
use Rattle.frame_form.specs.Segments.{frame_length}
use Rattle.frame_writer.specs.Writing.{output_by}
use Rattle.frame_writer.specs.Routes.{route_length, route_frame, route_verdict}
use Rattle.frame.specs.Writing.{written_by}
use Rattle.refusal.specs.Numbers.{Verdict}
use Rattle.refusal.specs.declared.Refusal.{Refusal}

-- the checks, in the order 1, 23, 13, 5, for a table and optional data of these lengths
abbrev pub route_said : Form → Bool → Bool → ℕ → ℕ → ℕ → Verdict
route_said form optional initial table extra room = route_verdict form (flag optional) (flag initial) table extra room

-- the answer: the frame's length, or the refusal
unfoldable pub write_route_of : Form → Bool → Bool → ℕ → ℕ → ℕ → Result ℕ Refusal
write_route_of form optional initial table extra room =
    written_by (route_said form optional initial table extra room) (frame_length (seg_of form) (route_length (flag optional) table extra))

-- the lent output afterwards: the frame and what was beyond it; unchanged after a refusal
unfoldable pub write_route_output : Form → Bool → Bool → List ℕ → List ℕ → List ℕ → List ℕ
write_route_output form optional initial table extra out =
    output_by (route_said form optional initial (length table) (length extra) (length out)) (route_frame form (flag optional) (flag initial) table extra) out
