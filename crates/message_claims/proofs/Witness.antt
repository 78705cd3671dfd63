-- A message that is cut and joined, by computation.
-- Assumes nothing.
use mathlib.Core.Path.{refl}
use Rattle.frame_form.specs.Segments.{padding, last_used, whole_segments}
use Rattle.frame_form.specs.Frames.{framed}
use Rattle.frame_reader.specs.Faults.{packet_length, length_right, tail_fault, first_fault}
use Rattle.frame_reader.specs.Reading.{read_checks}
use Rattle.frame_writer.specs.Writing.{values_fit, frame_by}
use Rattle.frame.specs.Reading.{read_of}
use Rattle.message.specs.Cutting.{full_frames, frames_from, frames_of, cut_verdict, cut_of, cut_output, cut_lengths}
use Rattle.message.specs.Joining.{data_verdict, frames_checks, message_in, join_checks, join_of, join_output}
use Rattle.message_claims.specs.Witness.{PastSixtyThree}

pub past-sixty-three : PastSixtyThree
unfolding padding last_used whole_segments framed packet_length length_right tail_fault first_fault read_checks values_fit frame_by read_of full_frames frames_from frames_of cut_verdict cut_of cut_output cut_lengths data_verdict frames_checks message_in join_checks join_of join_output
past-sixty-three = record { answer = refl; output = refl; lengths-out = refl; joined = refl; message-back = refl }
