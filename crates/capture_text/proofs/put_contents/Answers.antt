-- `capture_text::put_contents` meets its contract: each arm is a case of `read_text`.
-- Assumes nothing.
use Rattle.capture_text.proofs.Texts.{packet-read, route-read}
use native.Mathlib.Omega.{arith}
use Rattle.capture_text.proofs.put_contents.Goals as goal

pub returns-in-Packet : goal.returns-in-Packet
returns-in-Packet c = packet-read _ _ c.in-Packet.is c.put_packet.ensures

pub returns-in-Route : goal.returns-in-Route
returns-in-Route c = route-read _ c.in-Route.is (c.put_word.ensures.written (omega arith))
