-- Demand 2 of a ROUTE: "A frame written is read back to the same fields, and a frame read is
-- written back to the same bytes", of `write_route`, typed and on lent bytes; and its refusals.
-- Optional data that is absent (OF 0) and such that is empty (OF 1) are two values, each read back
-- as itself. The layout is claimed for every form, what is written for the long ones.
-- proofs/Routes.antt and proofs/RouteBytes.antt prove it (`route-read-back`,
-- `route-read-back-of-bytes`, `route-refusals`).
-- Assumes nothing.
use Rattle.std.specs.Prelude.{◌≡◌, Bool, true, cond, is_some, Some, None, List, [], ◌∷◌, ◌≢◌, ℕ, ◌+◌, ◌*◌, ◌/◌, ◌%◌, ◌<◌, ◌≤◌, eqb, length, get_or, take, drop, Ok, Err}
use Rattle.refusal.specs.declared.Refusal.TheVariants.{OutOfRange, PacketTooLong, ShortForm}
use Rattle.lists.specs.Lists.{over}
use Rattle.little.specs.Little.{flag}
use Rattle.frame_fields.specs.Rows.{AreBytes}
use Rattle.frame_form.specs.declared.Form.{Form}
use Rattle.frame_form.specs.declared.Form.TheVariants.{ShortUplink}
use Rattle.frame_form.specs.Forms.{most_of, form_valid, is_long}
use Rattle.frame_kinds.specs.Kinds.{route_number, ten_of}
use Rattle.frame_reader.specs.Reading.{read_answer, read_bytes}
use Rattle.frame_writer.specs.Routes.{route_length, route_fits, route_frame, route_answer, route_bytes}
use Rattle.frame.specs.declared.Route.{Route}
use Rattle.frame.specs.Writing.{written_bytes}
use Rattle.frame.specs.Reading.{read_of, part_of, extra_part, extra_length}
use Rattle.frame.specs.Routes.{write_route_of, write_route_output}
use Rattle.frame_claims.specs.Bytes.{user_named}
use Rattle.frame.specs.declared.Contents.TheVariants.{Route as RouteIn}
use Rattle.refusal.specs.Numbers.{refusal_number}

-- ---- by the layout

-- a frame of this form can hold a ROUTE with a table and optional data of these lengths: the form
-- is valid, there is no data if OF is not set, and the packet is no longer than the form's largest
pub record HoldsRoute (form : Form) (optional initial : Bool) (table extra : ℕ) : Type 0 where
  pub good : form_valid form ≡ true
  pub fit : route_fits (flag optional) (flag initial) extra ≡ true
  pub most : route_length (flag optional) table extra ≤ most_of form

-- what a reader tells of it: the table is after the header of 2 bytes, the data after the table and
-- a byte with its length; data that is absent has no place
abbrev pub route_with : Bool → Bool → ℕ → ℕ → Route
route_with optional initial table extra = record {
  initial = initial;
  table = record { at = 2; len = table };
  extra = cond optional (Some (record { at = 3 + table; len = extra })) None;
}

-- the frame holds this ROUTE
pub record RouteIsRead (form : Form) (optional initial : Bool) (table extra frame : List ℕ) : Type 0 where
  -- it reads as a ROUTE with the same OF and IN, and gives two places
  pub fields : read_of form frame ≡ Ok (RouteIn (route_with optional initial (length table) (length extra)))
  -- the bytes at these places are the table and the data
  pub table_kept : part_of frame (route_with optional initial (length table) (length extra)).table ≡ table
  pub data-kept : extra_part frame (route_with optional initial (length table) (length extra)).extra ≡ extra

-- the reader answered that the frame holds the ROUTE r
pub record ReadIsRoute (form : Form) (frame : List ℕ) (r : Route) : Type 0 where
  -- the frame is the one of its table and its data, by the layout
  pub same : frame ≡ route_frame form (flag (is_some r.extra)) (flag r.initial) (part_of frame r.table) (extra_part frame r.extra)
  -- they are such as a frame of the form can hold
  pub holds : HoldsRoute form (is_some r.extra) r.initial (length (part_of frame r.table)) (length (extra_part frame r.extra))
  -- the places are right
  pub places : r ≡ route_with (is_some r.extra) r.initial (length (part_of frame r.table)) (length (extra_part frame r.extra))

-- the reader answered that the frame holds the ROUTE r; its parts are written to the lent output
pub record ReadIsRouteWritten (form : Form) (frame : List ℕ) (r : Route) (out : List ℕ) : Type 0 where
  -- the writer answers that it is done, with the length of the frame
  pub answer : write_route_of form (is_some r.extra) r.initial r.table.len (extra_length r.extra) (length out) ≡ Ok (length frame)
  -- the output holds the same frame, and the bytes beyond it are unchanged
  pub bytes : write_route_output form (is_some r.extra) r.initial (part_of frame r.table) (extra_part frame r.extra) out ≡ over frame out

pub record RouteReadBack : Type 0 where
  -- by the layout, in every form: every frame that the reader accepts as a ROUTE, and the frame of
  -- every ROUTE that a frame of the form can hold
  pub frame-is-read : (form : Form) (optional initial : Bool) (table extra : List ℕ) → HoldsRoute form optional initial (length table) (length extra)
      → RouteIsRead form optional initial table extra (route_frame form (flag optional) (flag initial) table extra)
  pub read-is-frame : (form : Form) (frame : List ℕ) (r : Route) → AreBytes frame → read_of form frame ≡ Ok (RouteIn r) → ReadIsRoute form frame r
  -- every ROUTE that the writer has written; and every frame of a long form that the reader accepts
  -- as one, if the output has room for it
  pub written-is-read : (form : Form) (optional initial : Bool) (table extra out : List ℕ) (n : ℕ)
      → write_route_of form optional initial (length table) (length extra) (length out) ≡ Ok n
      → RouteIsRead form optional initial table extra (take n (write_route_output form optional initial table extra out))
  pub read-is-written : (form : Form) (frame : List ℕ) (r : Route) (out : List ℕ) → is_long form ≡ true → AreBytes frame → read_of form frame ≡ Ok (RouteIn r)
      → length frame ≤ length out → ReadIsRouteWritten form frame r out

-- ---- lent bytes

-- the table and the optional data that the ten bytes of a ROUTE name in `after`, what follows RTL
abbrev pub table_named : List ℕ → List ℕ → List ℕ
table_named ten after = take (get_or ten 3 0) after

abbrev pub extra_named : List ℕ → List ℕ → List ℕ
extra_named ten after = cond (eqb (get_or ten 1 0) 1) (drop (get_or ten 3 0 + 1) after) []

-- the frame holds this ROUTE, and is read into `places`
pub record RouteBytesRead (form optional initial : ℕ) (table extra frame places : List ℕ) : Type 0 where
  -- reading is done
  pub done : read_answer form frame (length places) % 256 ≡ 0
  -- it gives OF, IN and RTL, and places past the ten bytes keep what they held
  pub packet-back : read_bytes form frame places ≡ over (ten_of route_number (optional ∷ initial ∷ length table ∷ [])) places
  -- they name the same table and the same data
  pub table-back : table_named (read_bytes form frame places) (user_named (read_answer form frame (length places)) frame) ≡ table
  pub data-back : extra_named (read_bytes form frame places) (user_named (read_answer form frame (length places)) frame) ≡ extra

-- a frame was read into `ten`, with the answer `answer`; OF, IN and what they name are then written
-- to `out`
pub record RouteBytesWritten (form : ℕ) (frame ten : List ℕ) (answer : ℕ) (out : List ℕ) : Type 0 where
  -- writing is done, with the length of the frame
  pub done : route_answer form (get_or ten 1 0) (get_or ten 2 0) (length (table_named ten (user_named answer frame))) (length (extra_named ten (user_named answer frame))) (length out)
      ≡ 256 * length frame
  -- the output holds the same frame, and the bytes beyond it are unchanged
  pub bytes : route_bytes form (get_or ten 1 0) (get_or ten 2 0) (table_named ten (user_named answer frame)) (extra_named ten (user_named answer frame)) out ≡ over frame out

pub record RouteReadBackOfBytes : Type 0 where
  -- every ROUTE that `write_route` has written, if there are ten places to read it into; and every
  -- frame of a long form that `read` accepts as one, if the output has room for it
  pub written-is-read : (form optional initial : ℕ) (table extra out places : List ℕ)
      → route_answer form optional initial (length table) (length extra) (length out) % 256 ≡ 0 → 10 ≤ length places
      → RouteBytesRead form optional initial table extra
      (take (route_answer form optional initial (length table) (length extra) (length out) / 256) (route_bytes form optional initial table extra out)) places
  pub read-is-written : (form : ℕ) (frame places out : List ℕ) → 1 ≤ form → AreBytes frame
      → read_answer form frame (length places) % 256 ≡ 0 → get_or (read_bytes form frame places) 0 0 ≡ route_number → length frame ≤ length out
      → RouteBytesWritten form frame (read_bytes form frame places) (read_answer form frame (length places)) out

-- ---- refusals

pub record RouteRefusals : Type 0 where
  -- "A refusal returns its number, counts of 0 .. no lent byte changes"
  pub nothing_written : (form : Form) (optional initial : Bool) (table extra out : List ℕ)
      → refusal_number (write_route_of form optional initial (length table) (length extra) (length out)) ≢ 0
      → (written_bytes (write_route_of form optional initial (length table) (length extra) (length out)) ≡ 0) × (write_route_output form optional initial table extra out ≡ out)
  pub no-byte-written : (form optional initial : ℕ) (table extra out : List ℕ)
      → route_answer form optional initial (length table) (length extra) (length out) % 256 ≢ 0
      → (route_bytes form optional initial table extra out ≡ out) × (route_answer form optional initial (length table) (length extra) (length out) / 256 ≡ 0)
  -- in the short form, whatever the lengths: 1 if there is data although OF is not set, else 23
  pub in-short : (optional initial : Bool) (table extra room : ℕ)
      → write_route_of ShortUplink optional initial table extra room ≡ Err (cond (route_fits (flag optional) (flag initial) extra) ShortForm OutOfRange)
  -- in every long form 23 is never answered
  pub in-long : (form : Form) (optional initial : Bool) (table extra room : ℕ) → is_long form ≡ true → refusal_number (write_route_of form optional initial table extra room) ≢ 23
  -- "one over 255 to write is 13", whatever else is right: a table, or optional data
  pub over-255 : (form : Form) (optional initial : Bool) (table extra room : ℕ) → form_valid form ≡ true → is_long form ≡ true
      → route_fits (flag optional) (flag initial) extra ≡ true → 255 < table + extra → write_route_of form optional initial table extra room ≡ Err PacketTooLong
