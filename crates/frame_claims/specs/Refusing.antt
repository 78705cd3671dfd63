-- Refused writes of a frame: document 01, "Refusal numbers": "A refusal returns its number, counts
-- of 0 .. no lent byte changes." proofs/Refusing.antt proves it.
-- Assumes nothing.
use Rattle.std.specs.Prelude.{◌≡◌, List, ◌≢◌, ℕ, length}
use Rattle.frame_form.specs.declared.Form.{Form}
use Rattle.frame.specs.declared.Packet.{Packet}
use Rattle.frame.specs.Writing.{written_bytes, write_of, write_output}
use Rattle.refusal.specs.Numbers.{refusal_number}

-- if the number that the writer answers is not 0, its count of bytes is 0 and the lent output is
-- unchanged
abbrev pub RefusalsChangeNothing : Type 0
RefusalsChangeNothing = (form : Form) (p : Packet) (user out : List ℕ) → refusal_number (write_of form p (length user) (length out)) ≢ 0
    → (written_bytes (write_of form p (length user) (length out)) ≡ 0) × (write_output form p user out ≡ out)
