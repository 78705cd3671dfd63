-- Reading a frame into ten bytes: document 01, "Forms and frames": "Reading checks 2, then 3, then
-- 13", after 1 for an invalid form; and document 02, Q-5, for the position that each check gives:
-- "For refusal 2 it is the frame's length, for 13 the largest size", for 3 the first fault.
-- Assumes nothing.
use Rattle.std.specs.Prelude.{cond, List, [], ℕ, ◌+◌, ◌-◌, ◌*◌, leb, eqb, length, get_or, Ok, Err}
use Rattle.refusal.specs.declared.Refusal.TheVariants.{OutOfRange, Malformed, FormatError, PacketTooLong, OutputTooShort}
use Rattle.refusal.specs.Numbers.{number_of}
use Rattle.refusal.specs.Positions.{Checked, check_at, fault_position}
use Rattle.lists.specs.Lists.{over}
use Rattle.frame_fields.specs.Layouts.{fields, values_in, free_values}
use Rattle.frame_form.specs.declared.Form.{Form}
use Rattle.frame_form.specs.Forms.{seg_of, most_of, form_valid, form_at}
use Rattle.frame_form.specs.Segments.{whole_segments}
use Rattle.frame_kinds.specs.declared.Found.{Found}
use Rattle.frame_kinds.specs.declared.Found.TheVariants.{Known, Route, Unknown}
use Rattle.frame_kinds.specs.Kinds.{size_of, layout_of, route_layout, kinds, first_named, route_number, ten_of, ten_bytes}
use Rattle.frame_reader.specs.Faults.{packet_length, first_fault}

-- the kind of a frame: its first byte names it
abbrev pub found_in : List ℕ → Found
found_in frame = first_named kinds (get_or frame 0 0)

-- the first fault of a frame, once its kind is found or not; the frame's length if there is none.
-- "First bits of no known packet are refusal 3": then it is the first byte
abbrev pub fault_of : Found → Form → List ℕ → ℕ
fault_of (Known k) form frame = first_fault (seg_of form) (layout_of form k) frame
fault_of Route form frame = first_fault (seg_of form) route_layout frame
fault_of Unknown form frame = 0

-- the packet's length
abbrev pub length_in : Found → Form → List ℕ → ℕ
length_in (Known k) form frame = packet_length (seg_of form) (layout_of form k) frame
length_in Route form frame = packet_length (seg_of form) route_layout frame
length_in Unknown form frame = 0

-- the header's length
abbrev pub header_length : Found → ℕ
header_length (Known k) = size_of k
header_length Route = route_layout.size
header_length Unknown = 0

-- the length of the user data: the packet without its header. Of a ROUTE it is what follows RTL:
-- the table, and if OF = 1 ODL and the optional data
abbrev pub user_length : Found → Form → List ℕ → ℕ
user_length found form frame = length_in found form frame - header_length found

-- the values of the free fields
abbrev pub values_as : Found → Form → List ℕ → List ℕ
values_as (Known k) form frame = free_values (fields (layout_of form k)) (values_in (layout_of form k) frame)
values_as Route form frame = free_values (fields route_layout) (values_in route_layout frame)
values_as Unknown form frame = []

-- the four checks, each with the position that it gives
unfoldable pub read_checks : Form → List ℕ → Checked
read_checks form frame =
    check_at (form_valid form) OutOfRange 0
    (check_at (whole_segments (seg_of form) (length frame)) Malformed (length frame)
    (check_at (eqb (fault_of (found_in frame) form frame) (length frame)) FormatError (fault_of (found_in frame) form frame)
    (check_at (leb (length_in (found_in frame) form frame) (most_of form)) PacketTooLong (most_of form)
    (Ok tt))))

-- ---- what the calls answer. A form is a number (`form_at`), an answer is one number

-- the position at which reading is refused; 0 if the frame reads
unfoldable pub fault_answer : ℕ → List ℕ → ℕ
fault_answer form frame = fault_position (read_checks (form_at form) frame)

-- a reader's answer, by its checks: the refusal number; or, if the ten bytes have places, 256 times
-- the index where the user data starts plus 65,536 times its length; else 5
abbrev pub read_answer_by : Checked → ℕ → ℕ → ℕ → ℕ
read_answer_by (Ok tt) start user places = cond (leb 10 places) (256 * (start + 256 * user)) (number_of OutputTooShort)
read_answer_by (Err fault) start user places = number_of fault.why

-- the answer of `read`, with this many lent bytes for the packet
unfoldable pub read_answer : ℕ → List ℕ → ℕ → ℕ
read_answer form frame places =
    read_answer_by (read_checks (form_at form) frame) (header_length (found_in frame)) (user_length (found_in frame) (form_at form) frame) places

-- the ten bytes of the packet that a frame holds
abbrev pub packet_in : Found → Form → List ℕ → List ℕ
packet_in (Known k) form frame = ten_bytes k (values_as (Known k) form frame)
packet_in Route form frame = ten_of route_number (values_as Route form frame)
packet_in Unknown form frame = []

-- the lent bytes afterwards, by the checks: the packet in the first ten, and past them what they
-- held; a refusal leaves all as they were
abbrev pub read_bytes_by : Checked → List ℕ → List ℕ → List ℕ
read_bytes_by (Ok tt) packet bytes = cond (leb 10 (length bytes)) (over packet bytes) bytes
read_bytes_by (Err fault) packet bytes = bytes

-- the lent bytes after `read`
unfoldable pub read_bytes : ℕ → List ℕ → List ℕ → List ℕ
read_bytes form frame bytes = read_bytes_by (read_checks (form_at form) frame) (packet_in (found_in frame) (form_at form) frame) bytes
