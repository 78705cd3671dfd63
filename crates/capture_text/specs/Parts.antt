-- What the private functions of `capture_text` write. No public call cites these definitions.
-- Assumes nothing.
use Rattle.std.specs.Prelude.{Bool, cond, List, [], ◌∷◌, ◌++◌, ℕ, ◌+◌, take, drop}
use Rattle.refusal.specs.declared.Refusal.{Refusal}
use Rattle.refusal.specs.Numbers.{number_of}
use Rattle.text.specs.Decimal.{decimal, spaced}
use Rattle.frame.specs.declared.Packet.{Packet}
use Rattle.frame.specs.Packets.{kind_of, sn_of, Read}
use Rattle.capture_text.specs.Report.{kind_text, refused_text, hex_bytes, marked, fault_text}

-- the two cases of `read_text` that are not one word
abbrev pub packet_text : Packet → List ℕ
packet_text p = decimal (sn_of p).0 ++ (32 ∷ (kind_text (kind_of p) ++ spaced 0))

abbrev pub not_read_text : Refusal → List ℕ
not_read_text why = 45 ∷ 32 ∷ 45 ∷ spaced (number_of why)

-- the line of a refused file
abbrev pub refused_line : Refusal → List ℕ
refused_line why = refused_text ++ (spaced (number_of why) ++ (10 ∷ []))

-- the part of `around` from the position on
unfoldable pub from_here : ℕ → List ℕ → List ℕ
from_here at frame = marked (drop at frame) ++ hex_bytes (take 4 (drop (at + 1) frame))

-- the column, or nothing
abbrev pub column : Bool → Read → List ℕ → List ℕ
column hex read frame = cond hex (fault_text read frame) []
