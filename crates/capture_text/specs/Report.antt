-- What the capture program prints: document 02, Q-12: "The program prints each frame's SN, kind
-- (named as in 01 and Q-4) and refusal number or 0, `-` for no SN, and for SN and kind if refused,
-- one line each, single blanks; for a refused file only `refused n`." A text is a list of bytes: 32
-- is the blank, 45 the dash, 10 the line end.
-- Assumes nothing.
use Rattle.std.specs.Prelude.{Bool, cond, List, [], ◌∷◌, ◌++◌, ℕ, ◌+◌, ◌-◌, ◌/◌, ◌%◌, leb, ltb, length, take, drop, Ok, Err}
use Rattle.refusal.specs.declared.Refusal.TheVariants.{MessageTooLong, OutputTooShort}
use Rattle.refusal.specs.Numbers.{number_of, check, Verdict}
use Rattle.text.specs.Decimal.{decimal, spaced}
use Rattle.frame_form.specs.declared.Form.{Form}
use Rattle.frame_form.specs.Forms.{form_at}
use Rattle.frame_kinds.specs.declared.Kind.{Kind}
use Rattle.frame_kinds.specs.declared.Kind.TheVariants.{Data, ClearRequest, ClearConfirmation, CallRequest, CallAccept, ReceiveReady, ReceiveNotReady, Reject, Interrupt, InterruptConfirmation, Reset, ResetConfirmation}
use Rattle.frame.specs.Packets.{kind_of, sn_of, Read}
use Rattle.frame.specs.Reading.{read_of}
use Rattle.capture.specs.Files.{largest_file}
use Rattle.capture.specs.Saving.{output_by}
use Rattle.capture.specs.Opening.{form_in, open_verdict, frames_in}
use Rattle.capture_text.specs.declared.Report.{Report}
use Rattle.frame.specs.declared.Contents.TheVariants.{Packet as PacketIn, Route as RouteIn}

-- ---- the names

-- DATA, CLEAR REQUEST, CLEAR CONFIRMATION, CALL REQUEST, CALL ACCEPT, RR, RNR, REJECT, INTERRUPT,
-- INTERRUPT CONFIRMATION, RESET, RESET CONFIRMATION
abbrev pub kind_text : Kind → List ℕ
kind_text Data = 68 ∷ 65 ∷ 84 ∷ 65 ∷ []
kind_text ClearRequest = 67 ∷ 76 ∷ 69 ∷ 65 ∷ 82 ∷ 32 ∷ 82 ∷ 69 ∷ 81 ∷ 85 ∷ 69 ∷ 83 ∷ 84 ∷ []
kind_text ClearConfirmation = 67 ∷ 76 ∷ 69 ∷ 65 ∷ 82 ∷ 32 ∷ 67 ∷ 79 ∷ 78 ∷ 70 ∷ 73 ∷ 82 ∷ 77 ∷ 65 ∷ 84 ∷ 73 ∷ 79 ∷ 78 ∷ []
kind_text CallRequest = 67 ∷ 65 ∷ 76 ∷ 76 ∷ 32 ∷ 82 ∷ 69 ∷ 81 ∷ 85 ∷ 69 ∷ 83 ∷ 84 ∷ []
kind_text CallAccept = 67 ∷ 65 ∷ 76 ∷ 76 ∷ 32 ∷ 65 ∷ 67 ∷ 67 ∷ 69 ∷ 80 ∷ 84 ∷ []
kind_text ReceiveReady = 82 ∷ 82 ∷ []
kind_text ReceiveNotReady = 82 ∷ 78 ∷ 82 ∷ []
kind_text Reject = 82 ∷ 69 ∷ 74 ∷ 69 ∷ 67 ∷ 84 ∷ []
kind_text Interrupt = 73 ∷ 78 ∷ 84 ∷ 69 ∷ 82 ∷ 82 ∷ 85 ∷ 80 ∷ 84 ∷ []
kind_text InterruptConfirmation = 73 ∷ 78 ∷ 84 ∷ 69 ∷ 82 ∷ 82 ∷ 85 ∷ 80 ∷ 84 ∷ 32 ∷ 67 ∷ 79 ∷ 78 ∷ 70 ∷ 73 ∷ 82 ∷ 77 ∷ 65 ∷ 84 ∷ 73 ∷ 79 ∷ 78 ∷ []
kind_text Reset = 82 ∷ 69 ∷ 83 ∷ 69 ∷ 84 ∷ []
kind_text ResetConfirmation = 82 ∷ 69 ∷ 83 ∷ 69 ∷ 84 ∷ 32 ∷ 67 ∷ 79 ∷ 78 ∷ 70 ∷ 73 ∷ 82 ∷ 77 ∷ 65 ∷ 84 ∷ 73 ∷ 79 ∷ 78 ∷ []

-- ROUTE
abbrev pub route_text : List ℕ
route_text = 82 ∷ 79 ∷ 85 ∷ 84 ∷ 69 ∷ []

-- refused
abbrev pub refused_text : List ℕ
refused_text = 114 ∷ 101 ∷ 102 ∷ 117 ∷ 115 ∷ 101 ∷ 100 ∷ []

-- ---- the line of a frame, by what reading it answers

-- SN, kind and 0; `- ROUTE 0`, since a ROUTE has no SN; or `- - n`
unfoldable pub read_text : Read → List ℕ
read_text (Ok (PacketIn p user)) = decimal (sn_of p).0 ++ (32 ∷ (kind_text (kind_of p) ++ spaced 0))
read_text (Ok (RouteIn r)) = 45 ∷ 32 ∷ (route_text ++ spaced 0)
read_text (Err fault) = 45 ∷ 32 ∷ 45 ∷ spaced (number_of fault.why)

-- ---- one column more, if it is asked for: where a refused frame is bad (Q-5), and the bytes there

-- a digit of a byte in hexadecimal: 48 to 57 are 0 to 9, 65 to 70 are A to F
unfoldable pub hex_digit : ℕ → ℕ
hex_digit d = cond (ltb d 10) (48 + d) (55 + d)

abbrev pub hex_byte : ℕ → List ℕ
hex_byte b = hex_digit (b / 16) ∷ hex_digit (b % 16) ∷ []

-- bytes in hexadecimal, each with a blank in front
unfoldable pub hex_bytes : List ℕ → List ℕ
hex_bytes [] = []
hex_bytes (b ∷ bs) = 32 ∷ (hex_byte b ++ hex_bytes bs)

-- the first of these bytes in brackets, with a blank in front; `[]` if there is none
abbrev pub marked : List ℕ → List ℕ
marked [] = 32 ∷ 91 ∷ 93 ∷ []
marked (b ∷ bs) = 32 ∷ 91 ∷ (hex_byte b ++ (93 ∷ []))

-- the bytes of a frame around the position: up to four before it, the one at it, up to four after
-- it
unfoldable pub around : ℕ → List ℕ → List ℕ
around at frame =
    hex_bytes (take (at - (at - 4)) (drop (at - 4) frame))
    ++ (marked (drop at frame) ++ hex_bytes (take 4 (drop (at + 1) frame)))

-- the column: the position and the bytes around it; a dash if the frame was read
unfoldable pub fault_text : Read → List ℕ → List ℕ
fault_text (Ok contents) frame = 32 ∷ 45 ∷ []
fault_text (Err fault) frame = spaced fault.at ++ around fault.at frame

-- ---- lines

-- the line of a frame of a form; `hex` is whether the column is asked for
unfoldable pub line_text : Bool → Form → List ℕ → List ℕ
line_text hex form frame = read_text (read_of form frame) ++ (cond hex (fault_text (read_of form frame) frame) [] ++ (10 ∷ []))

unfoldable pub lines_text : Bool → Form → List (List ℕ) → List ℕ
lines_text hex form [] = []
lines_text hex form (f ∷ fs) = line_text hex form f ++ lines_text hex form fs

-- ---- the report of a whole file

-- "The largest file has 83,980 bytes; the program refuses a longer one with 4 before all else."
unfoldable pub file_verdict : List ℕ → Verdict
file_verdict file = check (leb (length file) largest_file) MessageTooLong (open_verdict file)

-- a line for each frame; or `refused n`
abbrev pub report_by : Verdict → Bool → List ℕ → List ℕ
report_by (Ok tt) hex file = lines_text hex (form_at (form_in file)) (frames_in file)
report_by (Err why) hex file = refused_text ++ (spaced (number_of why) ++ (10 ∷ []))

unfoldable pub report_text : Bool → List ℕ → List ℕ
report_text hex file = report_by (file_verdict file) hex file

-- ---- the call that writes it

-- the room for a line, and for the report of any file. A line has fewer bytes, so that the report
-- fits
abbrev pub line_room : ℕ
line_room = 128

abbrev pub report_room : ℕ
report_room = 65536

-- whether the call is refused: 5 if the lent output, of `room` bytes, is shorter than that (house)
unfoldable pub room_verdict : ℕ → Verdict
room_verdict room = check (leb report_room room) OutputTooShort (Ok tt)

-- the answer: how many bytes were written, and whether the file opened; a refusal of the call has 0
-- bytes, and tells nothing of the file
abbrev pub answer_by : Verdict → Bool → List ℕ → Report
answer_by (Ok tt) hex file = record { verdict = Ok tt; written = length (report_text hex file); file = file_verdict file }
answer_by (Err why) hex file = record { verdict = Err why; written = 0; file = Ok tt }

-- what `write_report` answers
unfoldable pub report_of : Bool → List ℕ → ℕ → Report
report_of hex file room = answer_by (room_verdict room) hex file

-- the lent output afterwards: the report at its front; after a refusal as before
unfoldable pub report_output : Bool → List ℕ → List ℕ → List ℕ
report_output hex file out = output_by (room_verdict (length out)) (report_text hex file) out
