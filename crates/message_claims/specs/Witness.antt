-- The claims about cutting (specs/Claims.antt) are not empty: a message that is cut, by
-- computation. The form is a long one, and SN goes on from 63 to 0 and PS from 15 to 0.
-- proofs/Witness.antt proves it (`past-sixty-three`).
-- Assumes nothing.
use Rattle.std.specs.Prelude.{◌≡◌, List, [], ◌∷◌, ◌++◌, ℕ, Ok}
use Rattle.sequence.specs.Numbers.{link, packet}
use Rattle.frame_form.specs.declared.Form.TheVariants.{LongDownlink}
use Rattle.message.specs.declared.cutting.Start.{Start}
use Rattle.message.specs.Cutting.{cut_into, cut_of, cut_output, cut_lengths}
use Rattle.message.specs.Joining.{join_of, join_output}

-- SN 63, PS 15, PR 2, CH 4
abbrev pub last_numbers : Start
last_numbers = record { sn = link 63; ps = packet 15; pr = packet 2; ch = 4 }

-- eight bytes: one more than a frame of one segment carries
abbrev pub eight_bytes : List ℕ
eight_bytes = 1 ∷ 2 ∷ 3 ∷ 4 ∷ 5 ∷ 6 ∷ 7 ∷ 8 ∷ []

-- the two frames: M 1, SN 63, PS 15, LV 10 and seven bytes; M 0, SN 0, PS 0, LV 4 and one byte
abbrev pub two_frames : List ℕ
two_frames = 0xFF ∷ 0xF2 ∷ 0x4A ∷ 1 ∷ 2 ∷ 3 ∷ 4 ∷ 5 ∷ 6 ∷ 7 ∷ 0x80 ∷ 0x02 ∷ 0x44 ∷ 8 ∷ 0 ∷ 0 ∷ 0 ∷ 0 ∷ 0 ∷ 0 ∷ []

-- lent lists with one place more than is needed; any bytes would do
abbrev pub lent_bytes : List ℕ
lent_bytes = 9 ∷ 9 ∷ 9 ∷ 9 ∷ 9 ∷ 9 ∷ 9 ∷ 9 ∷ 9 ∷ 9 ∷ 9 ∷ 9 ∷ 9 ∷ 9 ∷ 9 ∷ 9 ∷ 9 ∷ 9 ∷ 9 ∷ 9 ∷ 9 ∷ []

abbrev pub lent_places : List ℕ
lent_places = 9 ∷ 9 ∷ 9 ∷ []

abbrev pub lent_eight : List ℕ
lent_eight = 9 ∷ 9 ∷ 9 ∷ 9 ∷ 9 ∷ 9 ∷ 9 ∷ 9 ∷ []

pub record PastSixtyThree : Type 0 where
  -- what `cut-is-joined` requires: cutting answered with two frames of 20 bytes in all
  pub answer : cut_of (LongDownlink 1) last_numbers eight_bytes 21 3 ≡ cut_into 2 20
  -- what it wrote
  pub output : cut_output (LongDownlink 1) last_numbers eight_bytes lent_bytes 3 ≡ two_frames ++ (9 ∷ [])
  pub lengths-out : cut_lengths (LongDownlink 1) last_numbers eight_bytes 21 lent_places ≡ 10 ∷ 10 ∷ 9 ∷ []
  -- what `joined-is-cut` requires: joining accepted them
  pub joined : join_of (LongDownlink 1) (10 ∷ 10 ∷ []) two_frames 8 ≡ Ok 8
  pub message-back : join_output (LongDownlink 1) (10 ∷ 10 ∷ []) two_frames lent_eight ≡ eight_bytes
