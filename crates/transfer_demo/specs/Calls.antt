-- The events of the program as those of the claims (`transfer_claims`, specs/Circuit.antt): a frame
-- arrives, something else arrives, a clock ends.
-- Assumes nothing.
use Rattle.resequencer_claims.specs.Events.{Event, packet, stray, clock_end}
use Rattle.transfer_demo.specs.declared.Event.{Event as Happening}
use Rattle.transfer_demo.specs.declared.Event.TheVariants.{Frame, Stray, ClockEnd}

-- a stray arrival has the ticket 0
abbrev pub event_of : Happening → Event
event_of (Frame place) = packet place
event_of (Stray sn) = stray sn 0
event_of (ClockEnd sn) = clock_end sn
