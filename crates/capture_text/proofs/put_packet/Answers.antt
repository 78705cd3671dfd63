-- `capture_text::put_packet` meets its contract: the parts of the line are written one after the
-- other.
-- Assumes nothing.
use mathlib.Core.Path.{ap}
use Rattle.text.specs.Decimal.{decimal}
use Rattle.capture_text.proofs.Texts.{kind-room, packet-written}
use Rattle.capture_text.proofs.put_packet.Goals as goal

pub put_kind-kind-requires : goal.put_kind-kind-requires
put_kind-kind-requires c = kind-room c.requires c.put_number-sn.ensures c.put_byte-blank.ensures

pub returns : goal.returns
returns c =
    packet-written c.requires c.put_number-sn.ensures c.put_byte-blank.ensures c.args.packet (ap (λ k. decimal k.0) c.sn.ensures) c.put_kind-kind.ensures c.put_word.ensures
