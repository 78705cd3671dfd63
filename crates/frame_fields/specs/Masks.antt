-- A header's fixed fields as one number, and the law by which code finds the first wrong one: the
-- leading zeros of the wrong bits give its byte. Over any list of fields; proofs/Masks.antt proves
-- it (`position`).
-- Assumes nothing.
use Rattle.std.specs.Prelude.{◌≡◌, Bool, true, ◌&&◌, List, [], ◌∷◌, ℕ, ◌+◌, ◌-◌, ◌*◌, ◌/◌, ◌%◌, ◌^◌, eqb, ltb}
use Rattle.std.specs.Int.Bits.{bit_and, bit_xor}
use Rattle.std.specs.Int.Count.{count_leading_zeros}
use Rattle.frame_fields.specs.Rows.{total, unpack}
use Rattle.frame_fields.specs.Layouts.{Field, fixed, free, lv, widths, first_wrong}

-- ones in the bits of the fixed fields, zeros in all others
abbrev pub mask : List Field → ℕ
mask [] = 0
mask (fixed w v ∷ fs) = (2 ^ w - 1) * 2 ^ total (widths fs) + mask fs
mask (free w ∷ fs) = mask fs
mask (lv w ∷ fs) = mask fs

-- the right values in the bits of the fixed fields, zeros in all others
abbrev pub want : List Field → ℕ
want [] = 0
want (fixed w v ∷ fs) = v * 2 ^ total (widths fs) + want fs
want (free w ∷ fs) = want fs
want (lv w ∷ fs) = want fs

-- the bits of the fixed fields in which n differs from the right values
abbrev pub wrong_bits : List Field → ℕ → ℕ
wrong_bits fs n = bit_and (bit_xor n (want fs)) (mask fs)

-- every fixed field has one bit or more, holds its value, and is in one byte; the fields begin at
-- bit `bit`
abbrev pub in_bytes : List Field → ℕ → Bool
in_bytes [] bit = true
in_bytes (fixed w v ∷ fs) bit = ltb 0 w && (ltb v (2 ^ w) && (eqb ((bit + (w - 1)) / 8) (bit / 8) && in_bytes fs (bit + w)))
in_bytes (free w ∷ fs) bit = in_bytes fs (bit + w)
in_bytes (lv w ∷ fs) bit = in_bytes fs (bit + w)

-- the law, for fields that begin at bit `bit`: the byte of the first wrong bit is that of the first
-- wrong field
abbrev pub PositionLaw : Type 0
PositionLaw = (fs : List Field) (bit n : ℕ) → in_bytes fs bit ≡ true
    → (bit + count_leading_zeros (total (widths fs)) (wrong_bits fs (n % 2 ^ total (widths fs)))) / 8
    ≡ first_wrong fs bit (unpack (widths fs) n) ((bit + total (widths fs)) / 8)
