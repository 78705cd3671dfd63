-- What the parts of writing a frame answer: a row of the table of kinds, and the header that is
-- made of it.
-- Assumes nothing.
use Rattle.std.specs.Prelude.{◌≡◌, Bool, true, cond, ◌&&◌, ◌||◌, List, [], ◌∷◌, ◌⊎◌, ℕ, ◌+◌, ◌-◌, ◌*◌, ◌/◌, ◌%◌, ◌^◌, ◌<◌, eqb, take}
use Rattle.frame_fields.specs.Layouts.{Field, free, fields, has_lv, within, header_number}
use Rattle.frame_form.specs.declared.Form.{Form}
use Rattle.frame_kinds.specs.declared.Kind.{Kind}
use Rattle.frame_kinds.specs.Kinds.{size_of, layout_of, value_count}
use Rattle.frame_writer.specs.declared.Made.{Made}
use Rattle.frame_writer.specs.Writing.{places_fit}

-- ---- a row of the table: nine places, each with a width and a number of bits below it

-- the widths: nine numbers of four bits in one, the first place's in the highest
abbrev pub widths_in : ℕ → List ℕ
widths_in n =
    n / 2 ^ 32 % 16 ∷ n / 2 ^ 28 % 16 ∷ n / 2 ^ 24 % 16 ∷ n / 2 ^ 20 % 16 ∷ n / 2 ^ 16 % 16 ∷ n / 2 ^ 12 % 16 ∷ n / 2 ^ 8 % 16 ∷ n / 2 ^ 4 % 16 ∷ n % 16 ∷ []

-- the bits below: nine numbers of six bits. Each is taken below 48, so that sums of places do not
-- overflow
abbrev pub shifts_in : ℕ → List ℕ
shifts_in n =
    n / 2 ^ 48 % 64 % 48 ∷ n / 2 ^ 42 % 64 % 48 ∷ n / 2 ^ 36 % 64 % 48 ∷ n / 2 ^ 30 % 64 % 48 ∷ n / 2 ^ 24 % 64 % 48
    ∷ n / 2 ^ 18 % 64 % 48 ∷ n / 2 ^ 12 % 64 % 48 ∷ n / 2 ^ 6 % 64 % 48 ∷ n % 64 % 48 ∷ []

-- free fields of these widths
abbrev pub frees : List ℕ → List Field
frees [] = []
frees (w ∷ ws) = free w ∷ frees ws

-- a value v with s bits below its field of w bits; a field of 0 bits counts nothing
abbrev pub in_place : ℕ → ℕ → ℕ → ℕ
in_place v s w = cond (eqb w 0) 0 (v * 2 ^ s)

-- the sum of the values, each in its place
abbrev pub sum_at : List ℕ → List ℕ → List ℕ → ℕ
sum_at [] ws vs = 0
sum_at (s ∷ ss) [] vs = 0
sum_at (s ∷ ss) (w ∷ ws) [] = 0
sum_at (s ∷ ss) (w ∷ ws) (v ∷ vs) = in_place v s w + sum_at ss ws vs

-- what a row makes of these places, and of `user` bytes of user data: the header has `bytes` bytes,
-- the first of them `first` where no value is, and `ends` is whether it ends in LV
pub record Row (bytes first : ℕ) (ends : Bool) (shifts widths : ℕ) (places : List ℕ) (user : ℕ) (m : Made) : Type 0 where
  pub fits : m.fits ≡ (within (frees (widths_in widths)) places && (ends || eqb user 0))
  pub size : m.size ≡ bytes
  pub lv : m.lv ≡ ends
  pub number : m.number ≡ first * 2 ^ (8 * bytes - 8) + sum_at (shifts_in shifts) (widths_in widths) places
  pub few : m.number < 2 ^ 60

-- ---- what the header of a packet of kind k is made of

pub record Heading (form : Form) (k : Kind) (places : List ℕ) (user : ℕ) (m : Made) : Type 0 where
  pub fits : m.fits ≡ places_fit form k places user
  pub size : m.size ≡ size_of k
  pub lv : m.lv ≡ has_lv (fields (layout_of form k))
  -- if the values fit: LV may be added to the number, and it is then the header with that LV
  pub number : m.fits ≡ true → (u : ℕ) → m.number + cond m.lv u 0 ≡ header_number (layout_of form k) u (take (value_count k) places)
  -- LV may be added without overflow
  pub few : m.number < 2 ^ 60

-- ---- the length of a ROUTE

-- the number n, or both are over every form's largest packet, which has 160 bytes at most
abbrev pub SameOrLong : ℕ → ℕ → Type 0
SameOrLong r n = (r ≡ n) ⊎ ((160 < r) × (160 < n))
