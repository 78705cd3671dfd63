-- The claims about whole transfers (specs/Claims.antt) are not empty: a message that is cut in a
-- long form from SN 0 and has a frame past SN 63, by computation, with events under which it comes
-- out. proofs/Witness.antt proves it (`past-sixty-three`).
-- Assumes nothing.
use Rattle.std.specs.Prelude.{◌≡◌, List, ℕ, replicate}
use Rattle.sequence.specs.Numbers.{link, packet}
use Rattle.frame_form.specs.declared.Form.{Form}
use Rattle.frame_form.specs.declared.Form.TheVariants.{LongDownlink}
use Rattle.frame.specs.Reading.{read_of, sn_in}
use Rattle.message.specs.declared.cutting.Start.{Start}
use Rattle.message.specs.Cutting.{frames_of, cut_of, cut_into}
use Rattle.transfer_claims.specs.Circuit.{frame_at, frames_handed_on}
use Rattle.transfer_claims.specs.Claims.{FramesAllowedList, JoinTo, one_by_one}

-- one segment a frame, so that a frame carries 7 bytes
abbrev pub one_segment : Form
one_segment = LongDownlink 1

-- SN 0, PS 0, PR 0, CH 1
abbrev pub first_numbers : Start
first_numbers = record { sn = link 0; ps = packet 0; pr = packet 0; ch = 1 }

-- one byte more than 64 frames carry
abbrev pub many_bytes : List ℕ
many_bytes = replicate 449 7

pub record PastSixtyThree : Type 0 where
  -- cutting answers with 65 frames; the last two have SN 63 and SN 0
  pub answer : cut_of one_segment first_numbers many_bytes 650 65 ≡ cut_into 65 650
  pub last-number : sn_in (read_of one_segment (frame_at (frames_of one_segment first_numbers many_bytes) 63)) ≡ 63
  pub first-again : sn_in (read_of one_segment (frame_at (frames_of one_segment first_numbers many_bytes) 64)) ≡ 0
  -- they may arrive one by one, and then the message comes out
  pub allowed : FramesAllowedList one_segment (frames_of one_segment first_numbers many_bytes) (one_by_one 0 65)
  pub comes-out : JoinTo one_segment (frames_handed_on one_segment (frames_of one_segment first_numbers many_bytes) (one_by_one 0 65)) many_bytes
