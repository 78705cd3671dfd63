-- Worked examples: the lines of some frames of the long uplink form.
-- Assumes nothing.
use mathlib.Core.Path.{◌≡◌, refl}
use mathlib.Core.Bool.{true, false}
use mathlib.Core.List.{List, [], ◌∷◌, ◌++◌}
use Prim.Native.Nat.{ℕ}
use Rattle.refusal.specs.declared.Refusal.TheVariants.{MessageTooLong}
use Rattle.text.specs.Decimal.{digit_at, decimal, spaced}
use Rattle.frame_form.specs.declared.Form.TheVariants.{LongUplink}
use Rattle.frame_form.specs.Segments.{padding, whole_segments}
use Rattle.frame_kinds.specs.declared.Kind.TheVariants.{ClearRequest, ReceiveReady}
use Rattle.frame_reader.specs.Faults.{packet_length, length_byte, length_right, tail_fault, first_fault}
use Rattle.frame_reader.specs.Reading.{read_checks}
use Rattle.frame.specs.Reading.{read_of}
use Rattle.capture_text.specs.Report.{kind_text, route_text, read_text, hex_digit, hex_bytes, around, fault_text, line_text, report_by}
use Rattle.std.specs.Prelude.{Err}

-- document 01's P10, a CLEAR REQUEST; its LV is 7, the seventh byte
abbrev request : List ℕ
request = 88 ∷ 9 ∷ 50 ∷ 65 ∷ 141 ∷ 162 ∷ 7 ∷ 0 ∷ 0 ∷ 0 ∷ []

-- the same with LV 6, which is refused
abbrev request_wrong : List ℕ
request_wrong = 88 ∷ 9 ∷ 50 ∷ 65 ∷ 141 ∷ 162 ∷ 6 ∷ 0 ∷ 0 ∷ 0 ∷ []

-- an RR, and a ROUTE with a table of three bytes
abbrev ready : List ℕ
ready = 96 ∷ 5 ∷ 55 ∷ 0 ∷ 0 ∷ 0 ∷ 0 ∷ 0 ∷ 0 ∷ 0 ∷ []

abbrev route : List ℕ
route = 113 ∷ 3 ∷ 89 ∷ 18 ∷ 64 ∷ 0 ∷ 0 ∷ 0 ∷ 0 ∷ 0 ∷ []

record Values : Type 0 where
  -- `9 CLEAR REQUEST 0`, `5 RR 0`, `- ROUTE 0`
  request-line : line_text false LongUplink request ≡ 57 ∷ 32 ∷ (kind_text ClearRequest ++ (32 ∷ 48 ∷ 10 ∷ []))
  ready-line : line_text false LongUplink ready ≡ 53 ∷ 32 ∷ (kind_text ReceiveReady ++ (32 ∷ 48 ∷ 10 ∷ []))
  route-line : line_text false LongUplink route ≡ 45 ∷ 32 ∷ (route_text ++ (32 ∷ 48 ∷ 10 ∷ []))
  -- `- - 3`, and with the column `- - 3 6 32 41 8D A2 [06] 00 00 00`
  wrong-line : line_text false LongUplink request_wrong ≡ 45 ∷ 32 ∷ 45 ∷ 32 ∷ 51 ∷ 10 ∷ []
  wrong-column : line_text true LongUplink request_wrong ≡ 45 ∷ 32 ∷ 45 ∷ 32 ∷ 51 ∷ 32 ∷ 54 ∷ 32 ∷ 51 ∷ 50 ∷ 32 ∷ 52 ∷ 49 ∷ 32 ∷ 56 ∷ 68 ∷ 32 ∷ 65 ∷ 50 ∷ 32 ∷ 91 ∷ 48 ∷ 54 ∷ 93 ∷ 32 ∷ 48 ∷ 48 ∷ 32 ∷ 48 ∷ 48 ∷ 32 ∷ 48 ∷ 48 ∷ 10 ∷ []
  -- a frame that was read has a dash in the column: `- ROUTE 0 -`
  route-column : line_text true LongUplink route ≡ 45 ∷ 32 ∷ (route_text ++ (32 ∷ 48 ∷ 32 ∷ 45 ∷ 10 ∷ []))
  -- no bytes: refused with 2, and none is in the brackets: `- - 2 0 []`
  empty-column : line_text true LongUplink [] ≡ 45 ∷ 32 ∷ 45 ∷ 32 ∷ 50 ∷ 32 ∷ 48 ∷ 32 ∷ 91 ∷ 93 ∷ 10 ∷ []
  -- a file that is too long: `refused 4`
  refused-file : report_by (Err MessageTooLong) false [] ≡ 114 ∷ 101 ∷ 102 ∷ 117 ∷ 115 ∷ 101 ∷ 100 ∷ 32 ∷ 52 ∷ 10 ∷ []

values : Values
unfolding digit_at decimal spaced padding whole_segments packet_length length_byte length_right tail_fault first_fault read_checks read_of read_text hex_digit hex_bytes around fault_text line_text
values = record {
  request-line = refl;
  ready-line = refl;
  route-line = refl;
  wrong-line = refl;
  wrong-column = refl;
  route-column = refl;
  empty-column = refl;
  refused-file = refl;
}
