-- What the private functions of `frame_reader` promise (document 01, "Forms and frames"). The
-- public calls are specified by Reading.antt.
-- Assumes nothing.
use Rattle.std.specs.Prelude.{◌≡◌, Bool, true, false, cond, ◌&&◌, List, [], ◌∷◌, ◌++◌, ℕ, ◌-◌, ◌+◌, ◌/◌, ◌%◌, ◌^◌, leb, ltb, eqb, length, get_or, replicate}
use Rattle.std.specs.Int.Bits.{bit_and, bit_xor}
use Rattle.frame_fields.specs.Rows.{unpack, number_in}
use Rattle.frame_fields.specs.Layouts.{Layout, fields, widths, has_lv, free_values}
use Rattle.frame_fields.specs.Masks.{want, mask}
use Rattle.frame_form.specs.declared.Form.{Form}
use Rattle.frame_form.specs.Forms.{seg_of, most_of, form_valid}
use Rattle.frame_form.specs.Segments.{whole_segments}
use Rattle.frame_form.specs.Frames.{all_zero}
use Rattle.frame_kinds.specs.declared.Found.{Found}
use Rattle.frame_kinds.specs.declared.Found.TheVariants.{Known, Route, Unknown}
use Rattle.frame_kinds.specs.Kinds.{layout_of, route_layout, kind_number, route_number}
use Rattle.frame_reader.specs.declared.Head.{Head}
use Rattle.frame_reader.specs.Faults.{tail_fault}
use Rattle.frame_reader.specs.Reading.{found_in, fault_answer, read_answer, read_bytes}

-- the layout by which a frame is read, once its kind is found; where there is none, it is not used
abbrev pub layout_for : Form → Found → Layout
layout_for form (Known k) = layout_of form k
layout_for form Route = route_layout
layout_for form Unknown = route_layout

-- what a header is read by: its length, whether it ends in LV, whether strings follow it, its fixed
-- fields and their bits
pub record HeaderRow : Type 0 where
  pub size : ℕ
  pub lv : Bool
  pub strings : Bool
  pub want : ℕ
  pub mask : ℕ

-- that of a header with the layout l
unfoldable pub row_by : Layout → HeaderRow
row_by l = record {
  size = l.size;
  lv = has_lv (fields l);
  strings = l.strings;
  want = want (fields l);
  mask = mask (fields l);
}

-- the packet's length in a frame of `len` bytes by LV, in segments of `seg` bytes; 0 if LV is wrong
abbrev pub length_by_lv : ℕ → ℕ → ℕ → ℕ → ℕ
length_by_lv seg len size u = cond (leb 1 u && (leb u seg && leb size (len - seg + u))) (len - seg + u) 0

-- the end of the strings after a header of `size` bytes, the first one of `len` bytes, if there is
-- a second one or not; 0 if a length is wrong
abbrev pub length_by_strings : List ℕ → ℕ → ℕ → Bool → ℕ
length_by_strings frame size len second =
    let first = size + len in
    let end = cond second (first + 1 + get_or frame first 0) first in
    cond (cond second (ltb first (length frame)) (leb first (length frame)) && leb end (length frame)) end 0

-- the packet's length, if its header is the number h, 0 if LV or a length is wrong: LV is the
-- header's last four bits, RTL its last eight, and OF the bit above IN
abbrev pub length_for : ℕ → List ℕ → HeaderRow → ℕ → ℕ
length_for seg frame row h =
    cond row.strings (length_by_strings frame row.size (h % 256) (eqb (h / 512 % 2) 1))
    (cond row.lv (length_by_lv seg (length frame) row.size (h % 16))
    row.size)

-- what is seen of a header in segments of `seg` bytes, read by its row
unfoldable pub head_by : ℕ → HeaderRow → List ℕ → Head
head_by seg row frame =
    let h = number_in row.size frame in
    record { size = row.size; number = h; wrong = bit_and (bit_xor h row.want) row.mask; len = length_for seg frame row h }

-- whether strings follow it
abbrev pub strings_of : Found → Bool
strings_of (Known k) = false
strings_of Route = true
strings_of Unknown = true

-- the byte that is wrong if the packet's length is 0: the header's last one; but if there is a
-- second string and its length is in the frame, that length
abbrev pub byte_for : List ℕ → ℕ → Bool → ℕ → ℕ
byte_for frame size strings h =
    let first = size + h % 256 in
    let second = eqb (h / 512 % 2) 1 in
    cond (strings && (second && ltb first (length frame))) first (size - 1)

-- the value of a field of w bits, with s bits below it, of the number h; of none, which has 0 bits,
-- it is 0
abbrev pub spot : ℕ → ℕ → ℕ → ℕ
spot h s w = cond (eqb (w % 9) 0) 0 (h / 2 ^ (s % 64) % 2 ^ (w % 9))

-- nine values: the bytes of `shifts` and `widths`, the highest first, tell the first eight; the
-- ninth has `last` bits and four below it
abbrev pub spots : ℕ → ℕ → ℕ → ℕ → List ℕ
spots h shifts widths last =
    spot h (shifts / 2 ^ 56) (widths / 2 ^ 56) ∷ spot h (shifts / 2 ^ 48 % 256) (widths / 2 ^ 48 % 256) ∷ spot h (shifts / 2 ^ 40 % 256) (widths / 2 ^ 40 % 256)
    ∷ spot h (shifts / 2 ^ 32 % 256) (widths / 2 ^ 32 % 256) ∷ spot h (shifts / 2 ^ 24 % 256) (widths / 2 ^ 24 % 256)
    ∷ spot h (shifts / 2 ^ 16 % 256) (widths / 2 ^ 16 % 256) ∷ spot h (shifts / 2 ^ 8 % 256) (widths / 2 ^ 8 % 256) ∷ spot h (shifts % 256) (widths % 256)
    ∷ spot h 4 last ∷ []

-- the nine bytes after the first of the ten of a packet with the layout l, whose header is the
-- number h
abbrev pub places_by : Layout → ℕ → List ℕ
places_by l h =
    let vs = free_values (fields l) (unpack (widths (fields l)) h) in
    vs ++ replicate (9 - length vs) 0

-- the first of the ten
abbrev pub found_number : Found → ℕ
found_number (Known k) = kind_number k
found_number Route = route_number
found_number Unknown = route_number

-- the position of what a frame is refused for, if nothing is wrong in its packet of n bytes; 0 if
-- it reads
abbrev pub tail_position : Form → ℕ → List ℕ → ℕ
tail_position form n frame =
    cond (ltb (tail_fault (seg_of form) n frame) (length frame)) (tail_fault (seg_of form) n frame) (cond (ltb (most_of form) n) (most_of form) 0)

-- b is never true if one of the bytes is not 0
abbrev pub SureZeros : Bool → List ℕ → Type 0
SureZeros b bytes = b ≡ true → all_zero bytes ≡ true

-- a frame of whole segments whose first byte names a kind
pub record Named (form : Form) (frame : List ℕ) (found : Found) : Type 0 where
  pub valid : form_valid form ≡ true
  pub whole : whole_segments (seg_of form) (length frame) ≡ true
  pub found-is : found_in frame ≡ found
  pub some : found ≡ Unknown → ⊥

-- and whose header was seen
pub record Headed (form : Form) (frame : List ℕ) (found : Found) (head : Head) : Type 0 where
  pub named : Named form frame found
  pub head-is : head ≡ head_by (seg_of form) (row_by (layout_for form found)) frame

-- the answer of `look`, and the lent bytes after it: those of `read`; or, to locate a fault, that
-- of `fault`, which writes nothing
abbrev pub look_answer : Bool → ℕ → List ℕ → ℕ → ℕ
look_answer locate form frame places = cond locate (fault_answer form frame) (read_answer form frame places)

abbrev pub look_bytes : Bool → ℕ → List ℕ → List ℕ → List ℕ
look_bytes locate form frame bytes = cond locate bytes (read_bytes form frame bytes)
