-- A message of 65 frames: that it is cut by computation, that it comes out by the claims.
-- Assumes nothing.
use mathlib.Core.Path.{◌≡◌, refl, subst}
use mathlib.Core.Bool.{true, false}
use Prim.Native.Nat.{ℕ}
use native.Mathlib.Omega.{arith}
use lib.ListN.{length}
use Rattle.frame_form.specs.Segments.{padding, last_used, whole_segments}
use Rattle.frame_form.specs.Frames.{framed}
use Rattle.frame_reader.specs.Faults.{packet_length, length_right, tail_fault, first_fault}
use Rattle.frame_reader.specs.Reading.{read_checks}
use Rattle.frame_writer.specs.Writing.{values_fit, frame_by}
use Rattle.frame.specs.Writing.{fits}
use Rattle.frame.specs.Reading.{read_of, sn_in}
use Rattle.message.specs.Cutting.{data_of, full_frames, frames_from, frames_of, cut_verdict, cut_of, cut_into}
use Rattle.transfer_claims.specs.Circuit.{frame_at}
use Rattle.transfer_claims.specs.Claims.{FramesAllowedList, Complete, one_by_one}
use Rattle.transfer_claims.specs.Witness.{one_segment, first_numbers, many_bytes, PastSixtyThree}
use Rattle.transfer_claims.proofs.Claims.{transfer}

answer : cut_of one_segment first_numbers many_bytes 650 65 ≡ cut_into 65 650
unfolding padding last_used framed values_fit frame_by full_frames frames_from frames_of cut_verdict cut_of
answer = refl

count : length (frames_of one_segment first_numbers many_bytes) ≡ 65
unfolding padding last_used framed frame_by full_frames frames_from frames_of
count = refl

last-number : sn_in (read_of one_segment (frame_at (frames_of one_segment first_numbers many_bytes) 63)) ≡ 63
unfolding padding last_used whole_segments framed packet_length length_right tail_fault first_fault read_checks frame_by read_of full_frames frames_from frames_of
last-number = refl

first-again : sn_in (read_of one_segment (frame_at (frames_of one_segment first_numbers many_bytes) 64)) ≡ 0
unfolding padding last_used whole_segments framed packet_length length_right tail_fault first_fault read_checks frame_by read_of full_frames frames_from frames_of
first-again = refl

one_by_one_lem : FramesAllowedList one_segment (frames_of one_segment first_numbers many_bytes) (one_by_one 0 65)
    × Complete (frames_of one_segment first_numbers many_bytes) (one_by_one 0 65)
one_by_one_lem =
    subst (λ (n : ℕ). FramesAllowedList one_segment (frames_of one_segment first_numbers many_bytes) (one_by_one 0 n) × Complete (frames_of one_segment first_numbers many_bytes) (one_by_one 0 n)) count
    (transfer.possible one_segment (frames_of one_segment first_numbers many_bytes))

fit : fits one_segment (data_of first_numbers false) 0 ≡ true
unfolding values_fit
fit = refl

pub past-sixty-three : PastSixtyThree
past-sixty-three = record {
  answer = answer;
  last-number = last-number;
  first-again = first-again;
  allowed = one_by_one_lem.0;
  comes-out = (transfer.one-message one_segment first_numbers many_bytes (one_by_one 0 65) refl fit refl (omega arith) one_by_one_lem.0).comes-out one_by_one_lem.1;
}
