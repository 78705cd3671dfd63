-- Every row of the table holds: both sides compute to the same value.
-- Assumes nothing.
use mathlib.Core.Path.{refl}
use Rattle.lists.specs.Lists.{list_from}
use Rattle.sequence.specs.Modular.{distance}
use Rattle.wordset.specs.Sets.{bit, member, set_of, first, every}
use Rattle.window.specs.Sending.{sender_in_order, send_verdict, send_of}
use Rattle.resequencer.specs.State.{held_in_window, clocks_on_held, clocks_apart, hsnr_furthest, meets_clock, tickets_of_held, in_order}
use Rattle.resequencer.specs.Events.{plain, places, hand_on, handed, remaining, advance, held_tickets, starts_clock, hold, run_after_nesn, hand_on_run, take_arrival, arrive_verdict, arrive_of, passed_by_clock, take_clock_end, clock_end_verdict, clock_end_of}
use Rattle.frame_form.specs.Segments.{padding, last_used, whole_segments}
use Rattle.frame_form.specs.Frames.{framed}
use Rattle.frame_reader.specs.Faults.{packet_length, length_right, tail_fault, first_fault}
use Rattle.frame_reader.specs.Reading.{read_checks}
use Rattle.frame_writer.specs.Writing.{values_fit, frame_by, write_verdict}
use Rattle.frame.specs.Writing.{write_of, write_output}
use Rattle.frame.specs.Reading.{read_of}
use Rattle.route.specs.Entries.{parse, entries_in, is_in, adds, deletes}
use Rattle.route.specs.Updating.{table_after, those, lost_between, update_of}
use Rattle.paper_values.specs.Values.{Values}

pub values : Values
unfolding list_from distance bit member set_of first every sender_in_order send_verdict send_of held_in_window clocks_on_held clocks_apart hsnr_furthest meets_clock tickets_of_held in_order plain places hand_on handed remaining advance held_tickets starts_clock hold run_after_nesn hand_on_run take_arrival arrive_verdict arrive_of passed_by_clock take_clock_end clock_end_verdict clock_end_of padding last_used whole_segments framed packet_length length_right tail_fault first_fault read_checks values_fit frame_by write_verdict write_of write_output read_of parse entries_in is_in adds deletes table_after those lost_between update_of
values = record {
  p1 = refl;
  p2 = refl;
  p2-end = refl;
  p3 = refl;
  p4 = refl;
  p5 = refl;
  p6 = refl;
  p6-state = refl;
  p7 = refl;
  p8 = refl;
  p8-nesn = refl;
  p8-clocks = refl;
  p9 = record { answer = refl; output = refl; read = refl };
  p9-downlink = record { answer = refl; output = refl; read = refl };
  p10 = record { answer = refl; output = refl; read = refl };
  p10-downlink = record { answer = refl; output = refl; read = refl };
  p11 = record { answer = refl; output = refl; read = refl };
  p11-downlink = record { answer = refl; output = refl; read = refl };
  p12 = refl;
  p12-turned = refl;
}
