-- Writing a ROUTE packet: document 02, Q-4, "ROUTE with IN, table length, table and optional data",
-- "one over 255 to write is 13". Its table and its optional data are two strings, each with its
-- length before it; `optional` is OF and `initial` is IN, as 0 or 1. The checks are those of
-- writing a packet, in the order 1, 23, 13, 5: no length is reduced to a byte before 13, and every
-- length over 255 is over the largest packet of every form.
-- Assumes nothing.
use Rattle.std.specs.Prelude.{Bool, cond, ◌&&◌, ◌||◌, List, [], ◌∷◌, ◌++◌, ℕ, ◌+◌, ltb, eqb, length}
use Rattle.frame_fields.specs.Layouts.{header}
use Rattle.frame_form.specs.declared.Form.{Form}
use Rattle.frame_form.specs.Forms.{seg_of, form_at}
use Rattle.frame_form.specs.Segments.{frame_length}
use Rattle.frame_form.specs.Frames.{framed}
use Rattle.frame_kinds.specs.Kinds.{route_layout}
use Rattle.frame_writer.specs.Writing.{write_verdict, output_by, answer_by}
use Rattle.refusal.specs.Numbers.{Verdict}

-- what follows RTL: the table; and, if OF is 1, the length of the optional data and the data
abbrev pub route_after : ℕ → List ℕ → List ℕ → List ℕ
route_after optional table extra = table ++ cond (eqb optional 1) (length extra ∷ extra) []

-- the packet's length, from that of the table and that of the optional data
abbrev pub route_length : ℕ → ℕ → ℕ → ℕ
route_length optional table extra = route_layout.size + (table + cond (eqb optional 1) (1 + extra) 0)

-- OF and IN fit their fields, and there is no optional data if OF is 0, as it could not be read
-- back; else refusal 1
unfoldable pub route_fits : ℕ → ℕ → ℕ → Bool
route_fits optional initial extra = ltb optional 2 && (ltb initial 2 && (eqb optional 1 || eqb extra 0))

-- the bytes of the frame, in any form: the header, in which RTL is the table's length, what follows
-- it, and zero bytes to whole segments
unfoldable pub route_frame : Form → ℕ → ℕ → List ℕ → List ℕ → List ℕ
route_frame form optional initial table extra =
    framed (seg_of form) (header route_layout 0 (optional ∷ initial ∷ length table ∷ [])) (route_after optional table extra)

-- the checks, for a table and optional data of these lengths
abbrev pub route_verdict : Form → ℕ → ℕ → ℕ → ℕ → ℕ → Verdict
route_verdict form optional initial table extra room = write_verdict form (route_fits optional initial extra) (route_length optional table extra) room

-- the answer of `write_route`: the refusal number plus 256 times the frame's length
unfoldable pub route_answer : ℕ → ℕ → ℕ → ℕ → ℕ → ℕ → ℕ
route_answer form optional initial table extra room =
    answer_by (route_verdict (form_at form) optional initial table extra room) (frame_length (seg_of (form_at form)) (route_length optional table extra))

-- the lent output afterwards: the frame and what was beyond it; unchanged after a refusal
unfoldable pub route_bytes : ℕ → ℕ → ℕ → List ℕ → List ℕ → List ℕ → List ℕ
route_bytes form optional initial table extra out =
    output_by (route_verdict (form_at form) optional initial (length table) (length extra) (length out)) (route_frame (form_at form) optional initial table extra) out
