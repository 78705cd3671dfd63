-- Headers: a packet's header is a list of fields; how a header is written, and how its values are
-- read (document 01, "Forms and frames"). Crate `frame_kinds` defines the fields of each packet
-- (its specs/Kinds.antt).
-- Assumes nothing.
use Rattle.std.specs.Prelude.{Bool, true, false, cond, ◌&&◌, List, [], ◌∷◌, ◌++◌, ℕ, ◌+◌, ◌-◌, ◌/◌, ◌^◌, ltb, eqb}
use Rattle.frame_fields.specs.Rows.{total, pack, unpack, bytes_of, number_in}

-- A field: its width in bits, and what kind of value it has.
pub data Field : Type 0 where
  -- the width, and the only right value: a fixed field, or fill, which is 0
  fixed : ℕ → ℕ → Field
  -- the width: the packet gives the value
  free : ℕ → Field
  -- the width: the value is LV, the number of bytes used in the last segment
  lv : ℕ → Field

-- A packet's header: the leading fixed fields, whose bits identify the kind of packet; the other
-- fields; the number of bytes of all of them; and what follows. That is user data, whose end LV
-- tells, or nothing, if there is no LV field; or else strings, each with its length before it: the
-- first one's length is the value of the header's last field, a byte, and the first free field
-- tells whether there is a second.
pub record Layout : Type 0 where
  pub kind : List Field
  pub rest : List Field
  pub size : ℕ
  pub strings : Bool

-- all fields, in their order
abbrev pub fields : Layout → List Field
fields l = l.kind ++ l.rest

-- their widths
abbrev pub widths : List Field → List ℕ
widths [] = []
widths (fixed w v ∷ fs) = w ∷ widths fs
widths (free w ∷ fs) = w ∷ widths fs
widths (lv w ∷ fs) = w ∷ widths fs

-- there is an LV field among them
abbrev pub has_lv : List Field → Bool
has_lv [] = false
has_lv (fixed w v ∷ fs) = has_lv fs
has_lv (free w ∷ fs) = has_lv fs
has_lv (lv w ∷ fs) = true

-- ---- written

-- the values of all fields, if LV is u and the free fields have the values vs in their order; a
-- missing value is 0
abbrev pub all_values : List Field → ℕ → List ℕ → List ℕ
all_values [] u vs = []
all_values (fixed w v ∷ fs) u vs = v ∷ all_values fs u vs
all_values (free w ∷ fs) u [] = 0 ∷ all_values fs u []
all_values (free w ∷ fs) u (v ∷ vs) = v ∷ all_values fs u vs
all_values (lv w ∷ fs) u vs = u ∷ all_values fs u vs

-- there are as many values as free fields, and each fits the width of its field
abbrev pub within : List Field → List ℕ → Bool
within [] [] = true
within [] (v ∷ vs) = false
within (fixed w x ∷ fs) vs = within fs vs
within (free w ∷ fs) [] = false
within (free w ∷ fs) (v ∷ vs) = ltb v (2 ^ w) && within fs vs
within (lv w ∷ fs) vs = within fs vs

-- the header as one number, if LV is u and the free fields have the values vs
abbrev pub header_number : Layout → ℕ → List ℕ → ℕ
header_number l u vs = pack (widths (fields l)) (all_values (fields l) u vs)

-- the bytes of the header, the highest first
abbrev pub header : Layout → ℕ → List ℕ → List ℕ
header l u vs = bytes_of l.size (header_number l u vs)

-- ---- read

-- the values of all fields, read from a frame's first bytes
abbrev pub values_in : Layout → List ℕ → List ℕ
values_in l frame = unpack (widths (fields l)) (number_in l.size frame)

-- from the values xs of all fields, those of the free fields
abbrev pub free_values : List Field → List ℕ → List ℕ
free_values [] xs = []
free_values (f ∷ fs) [] = []
free_values (fixed w v ∷ fs) (x ∷ xs) = free_values fs xs
free_values (free w ∷ fs) (x ∷ xs) = x ∷ free_values fs xs
free_values (lv w ∷ fs) (x ∷ xs) = free_values fs xs

-- from the values xs of all fields, LV; 0 if the header has none
abbrev pub lv_in : List Field → List ℕ → ℕ
lv_in [] xs = 0
lv_in (f ∷ fs) [] = 0
lv_in (fixed w v ∷ fs) (x ∷ xs) = lv_in fs xs
lv_in (free w ∷ fs) (x ∷ xs) = lv_in fs xs
lv_in (lv w ∷ fs) (x ∷ xs) = x

-- the byte of the header that has the first fixed field, fill included, with another value than its
-- right one; `none` if there is no such field. The fields fs begin at bit `bit` of the header, and
-- xs are their values (document 02, Q-5: "the first byte in frame order that holds a wrong fixed
-- field, fill ..")
abbrev pub first_wrong : List Field → ℕ → List ℕ → ℕ → ℕ
first_wrong [] bit xs none = none
first_wrong (f ∷ fs) bit [] none = none
first_wrong (fixed w v ∷ fs) bit (x ∷ xs) none = cond (eqb x v) (first_wrong fs (bit + w) xs none) (bit / 8)
first_wrong (free w ∷ fs) bit (x ∷ xs) none = first_wrong fs (bit + w) xs none
first_wrong (lv w ∷ fs) bit (x ∷ xs) none = first_wrong fs (bit + w) xs none

-- the same of a frame's header; the header's length if no fixed field is wrong
abbrev pub wrong_byte : Layout → List ℕ → ℕ
wrong_byte l frame = first_wrong (fields l) 0 (values_in l frame) l.size

-- ---- the leading fixed fields fs, by which a kind is known

-- the number of their bits
abbrev pub tag_width : List Field → ℕ
tag_width fs = total (widths fs)

-- these bits, as a number
abbrev pub tag : List Field → ℕ
tag fs = pack (widths fs) (all_values fs 0 [])

-- a frame's first byte, `first`, begins with these bits (8 of them at most). If this is false for
-- every kind: "First bits of no known packet are refusal 3."
abbrev pub opens_with : List Field → ℕ → Bool
opens_with fs first = eqb (first / 2 ^ (8 - tag_width fs)) (tag fs)
