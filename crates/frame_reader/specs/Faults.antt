-- Where a frame is bad: document 01, "Forms and frames", the paragraph that begins "Fill is 0", and
-- document 02, Q-5: "the byte position of the first fault: the first byte in frame order that holds
-- a wrong fixed field, fill, LV .. or padding, or lies past the segments of a packet without LV".
-- In all definitions `seg` is the segment's size, `l` the layout by which the frame is read.
-- Assumes nothing.
use Rattle.std.specs.Prelude.{Bool, true, cond, ◌&&◌, List, [], ◌∷◌, ℕ, suc, ◌+◌, ◌-◌, min, leb, ltb, eqb, length, drop, get_or}
use Rattle.frame_fields.specs.Layouts.{Layout, fields, has_lv, values_in, free_values, lv_in, wrong_byte}
use Rattle.frame_form.specs.Segments.{frame_length}

-- LV, as the frame has it
abbrev pub lv_of : Layout → List ℕ → ℕ
lv_of l frame = lv_in (fields l) (values_in l frame)

-- ---- strings, each with its length before it (`l.strings`)

-- the last of these values; 0 if there is none
abbrev pub last_of : List ℕ → ℕ
last_of [] = 0
last_of (x ∷ []) = x
last_of (x ∷ y ∷ ys) = last_of (y ∷ ys)

-- the end of the first string: the header's last field, of ROUTE it is RTL, is its length
abbrev pub first_end : Layout → List ℕ → ℕ
first_end l frame = l.size + last_of (free_values (fields l) (values_in l frame))

-- whether there is a second: the first free field, of ROUTE it is OF, is 1
abbrev pub has_second : Layout → List ℕ → Bool
has_second l frame = eqb (get_or (free_values (fields l) (values_in l frame)) 0 0) 1

-- the end of the last string: a second one has its length in the byte after the first
abbrev pub strings_end : Layout → List ℕ → ℕ
strings_end l frame = cond (has_second l frame) (first_end l frame + 1 + get_or frame (first_end l frame) 0) (first_end l frame)

-- the first length is right: it is not so that its bytes, "or the length after them, run past the
-- frame" (document 02, Q-4)
abbrev pub first_right : Layout → List ℕ → Bool
first_right l frame = cond (has_second l frame) (ltb (first_end l frame) (length frame)) (leb (first_end l frame) (length frame))

-- ---- the packet

-- the packet's length. With LV: all segments but the last are full, and LV bytes of the last one
-- are used. With strings, it ends where they do. Else the packet is its header
unfoldable pub packet_length : ℕ → Layout → List ℕ → ℕ
packet_length seg l frame =
    cond l.strings (strings_end l frame)
    (cond (has_lv (fields l)) (length frame - seg + lv_of l frame)
    l.size)

-- what tells the packet's length is right. LV, if there is one, is "1 to the segment size", and the
-- packet is no shorter than its header, "With one segment, LV below the header length is refusal
-- 3". Strings do not run past the frame
unfoldable pub length_right : ℕ → Layout → List ℕ → Bool
length_right seg l frame =
    cond l.strings (first_right l frame && leb (strings_end l frame) (length frame))
    (cond (has_lv (fields l)) (leb 1 (lv_of l frame) && (leb (lv_of l frame) seg && leb l.size (length frame - seg + lv_of l frame)))
    true)

-- the byte that is wrong if it is not: the header's last one, with LV or the first string's length;
-- but if that length is right, the second one's
unfoldable pub length_byte : Layout → List ℕ → ℕ
length_byte l frame = cond (l.strings && first_right l frame) (first_end l frame) (l.size - 1)

-- how many zero bytes a list begins with
abbrev pub zeros_first : List ℕ → ℕ
zeros_first [] = 0
zeros_first (b ∷ bs) = cond (eqb b 0) (suc (zeros_first bs)) 0

-- the first byte after a packet of n bytes that is not 0, or that lies past the packet's segments,
-- whichever comes first; the frame's length if there is none. "Any byte after a CONFIRMATION's one
-- segment is refusal 3"; the segments that LV tells are always all of the frame
unfoldable pub tail_fault : ℕ → ℕ → List ℕ → ℕ
tail_fault seg n frame = min (frame_length seg n) (n + zeros_first (drop n frame))

-- the first fault of a frame that is read by the layout l, in frame order: a wrong fixed field or
-- fill in the header; then a wrong LV or length; then padding and bytes past the segments. The
-- frame's length if there is none
unfoldable pub first_fault : ℕ → Layout → List ℕ → ℕ
first_fault seg l frame =
    cond (ltb (wrong_byte l frame) l.size) (wrong_byte l frame)
    (cond (length_right seg l frame) (tail_fault seg (packet_length seg l frame) frame)
    (length_byte l frame))
