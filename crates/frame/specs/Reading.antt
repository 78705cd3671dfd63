-- Reading a frame as a typed packet: document 01, "Forms and frames", the paragraph that begins
-- "Fill is 0", and document 02, Q-5, for the position of a fault. `read_of` is what a reader
-- answers, by the checks of `frame_reader`.
-- Assumes nothing.
use Rattle.std.specs.Prelude.{◌≡◌, Bool, cond, is_some, List, [], ◌∷◌, ℕ, ◌+◌, ◌-◌, ◌/◌, ◌%◌, ltb, eqb, take, drop, get_or, Result, Ok, Err, Option, Some, None}
use Rattle.refusal.specs.declared.Refusal.TheVariants.{FormatError}
use Rattle.refusal.specs.Numbers.{value_by}
use Rattle.refusal.specs.Positions.{Checked, refused_at, verdict_of, fault_number, fault_position}
use Rattle.little.specs.Little.{flag}
use Rattle.frame_form.specs.declared.Form.{Form}
use Rattle.frame_kinds.specs.declared.Found.{Found}
use Rattle.frame_kinds.specs.declared.Found.TheVariants.{Known, Route, Unknown}
use Rattle.frame_kinds.specs.Kinds.{size_of, route_layout, route_number}
use Rattle.frame_reader.specs.Reading.{found_in, header_length, user_length, values_as, read_checks}
use Rattle.frame.specs.declared.Packet.{Packet}
use Rattle.frame.specs.declared.Data.{Data as DataFields}
use Rattle.frame.specs.declared.Contents.{Contents}
use Rattle.frame.specs.declared.UserData.{UserData}
use Rattle.frame.specs.declared.Route.{Route as RouteFields}
use Rattle.frame.specs.Packets.{kind_of, values_of, packet_of, packet_at, as_data, sn_of, Read}
use Rattle.frame.specs.declared.Contents.TheVariants.{Packet as PacketIn, Route as RouteIn}
use Rattle.refusal.specs.declared.Fault.{Fault}

-- the kind of the packet, if one was read
abbrev pub read_kind : Read → Found
read_kind (Ok (PacketIn p user)) = Known (kind_of p)
read_kind (Ok (RouteIn r)) = Route
read_kind (Err fault) = Unknown

-- the values of its fields, in their order; of a ROUTE they are OF, IN and RTL
abbrev pub read_values : Read → List ℕ
read_values (Ok (PacketIn p user)) = values_of p
read_values (Ok (RouteIn r)) = flag (is_some r.extra) ∷ flag r.initial ∷ r.table.len ∷ []
read_values (Err fault) = []

-- the index of its user data in the frame; of a ROUTE that of the table
abbrev pub read_start : Read → ℕ
read_start (Ok (PacketIn p user)) = user.at
read_start (Ok (RouteIn r)) = r.table.at
read_start (Err fault) = 0

-- how many bytes follow the table of a ROUTE: if there is optional data, its length and the data
abbrev pub after_table : Option UserData → ℕ
after_table (Some place) = 1 + place.len
after_table None = 0

-- the length of its user data; of a ROUTE that of what follows RTL: the table and, if there is
-- optional data, its length and the data
abbrev pub read_length : Read → ℕ
read_length (Ok (PacketIn p user)) = user.len
read_length (Ok (RouteIn r)) = r.table.len + after_table r.extra
read_length (Err fault) = 0

-- where the optional data of a ROUTE is: after the table, of `len` bytes, and its own length, in
-- the n bytes that follow RTL; if these end with the table, which they do in no frame that reads,
-- it is 0
abbrev pub extra_at : ℕ → ℕ → UserData
extra_at len n = cond (ltb len n) (record { at = route_layout.size + 1 + len; len = n - (len + 1) }) (record { at = 0; len = 0 })

-- the same if OF is set; else there is none
abbrev pub extra_of : Bool → ℕ → ℕ → Option UserData
extra_of optional len n = cond optional (Some (extra_at len n)) None

-- a ROUTE with the values vs of OF, IN and RTL, which n bytes follow
abbrev pub route_of : List ℕ → ℕ → RouteFields
route_of vs n = record {
  initial = eqb (get_or vs 1 0) 1;
  table = record { at = route_layout.size; len = get_or vs 2 0 };
  extra = extra_of (eqb (get_or vs 0 0) 1) (get_or vs 2 0) n;
}

-- the answer for a frame of kind k, by the checks: the packet that its fields give, and the place
-- of the user data, after the header; or the ROUTE. A frame of no known kind never passes
abbrev pub read_by : Checked → Found → Form → List ℕ → Read
read_by (Ok tt) (Known k) form frame =
    Ok (PacketIn (packet_of k (values_as (Known k) form frame)) (record { at = size_of k; len = user_length (Known k) form frame }))
read_by (Ok tt) Route form frame = Ok (RouteIn (route_of (values_as Route form frame) (user_length Route form frame)))
read_by (Ok tt) Unknown form frame = refused_at FormatError 0
read_by (Err fault) found form frame = Err fault

-- what reading a frame answers, checked in the order 1, 2, 3, 13
unfoldable pub read_of : Form → List ℕ → Read
read_of form frame = read_by (read_checks form frame) (found_in frame) form frame

-- the place that an answer of `frame_reader` names
abbrev pub place_in : ℕ → UserData
place_in answer = record { at = answer / 256 % 256; len = answer / 65536 }

-- what was read, from the ten bytes of `frame_reader` and the place of what follows the header
unfoldable pub contents_at : List ℕ → UserData → Contents
contents_at ten user = cond (eqb (get_or ten 0 0) route_number) (RouteIn (route_of (drop 1 ten) user.len)) (PacketIn (packet_at ten) user)

-- ---- the same in the paper's number and values

-- the kind and the values of the fields, by the checks: a refusal has none
abbrev pub kind_by : Checked → Found → Found
kind_by (Ok tt) found = found
kind_by (Err fault) found = Unknown

abbrev pub values_by : Checked → Found → Form → List ℕ → List ℕ
values_by (Ok tt) found form frame = values_as found form frame
values_by (Err fault) found form frame = []

-- r has the number, the position and the values of reading the frame
pub record ReadSays (form : Form) (frame : List ℕ) (r : Read) : Type 0 where
  pub number : fault_number r ≡ fault_number (read_checks form frame)
  pub position : fault_position r ≡ fault_position (read_checks form frame)
  pub kind : read_kind r ≡ kind_by (read_checks form frame) (found_in frame)
  pub values : read_values r ≡ values_by (read_checks form frame) (found_in frame) form frame
  pub start : read_start r ≡ value_by (verdict_of (read_checks form frame)) (header_length (found_in frame))
  pub size : read_length r ≡ value_by (verdict_of (read_checks form frame)) (user_length (found_in frame) form frame)

-- ---- questions about a frame that was read

-- the DATA packet that was read; nothing if the frame is refused or holds another kind
abbrev pub data_in : Read → Option DataFields
data_in (Ok (PacketIn p place)) = as_data p
data_in (Ok (RouteIn r)) = None
data_in (Err fault) = None

-- what a caller hears who asks for DATA alone: the packet and the place of its user data; that the
-- frame holds another packet; or the refusal and its position
abbrev pub data_read_by : Option DataFields → UserData → Result (Option (DataFields × UserData)) Fault
data_read_by (Some d) place = Ok (Some (d, place))
data_read_by None place = Ok None

abbrev pub data_read_of : Read → Result (Option (DataFields × UserData)) Fault
data_read_of (Ok (PacketIn p place)) = data_read_by (as_data p) place
data_read_of (Ok (RouteIn r)) = Ok None
data_read_of (Err fault) = Err fault

-- SN of the packet that was read; 64, which no SN is, of a ROUTE, which has none, and if the frame
-- is refused
abbrev pub sn_in : Read → ℕ
sn_in (Ok (PacketIn p place)) = (sn_of p).0
sn_in (Ok (RouteIn r)) = 64
sn_in (Err fault) = 64

-- the user data of a frame, given its place
abbrev pub part_of : List ℕ → UserData → List ℕ
part_of frame place = take place.len (drop place.at frame)

-- the optional data of a ROUTE, and its length, given its place if it has some: no bytes if not
abbrev pub extra_part : List ℕ → Option UserData → List ℕ
extra_part frame (Some place) = part_of frame place
extra_part frame None = []

abbrev pub extra_length : Option UserData → ℕ
extra_length (Some place) = place.len
extra_length None = 0

-- the place of a packet's user data of n bytes: after the header
abbrev pub place_of : Packet → ℕ → UserData
place_of p n = record { at = size_of (kind_of p); len = n }
