-- `capture_text::put_hex` meets its contract: a byte more is written behind those before it.
-- Assumes nothing.
use Rattle.capture_text.proofs.Texts.{hex-none, hex-turn}
use Rattle.capture_text.proofs.put_hex.Goals as goal

pub loop-byte-init : goal.loop-byte-init
loop-byte-init c = hex-none _ c.args.bytes.now _

pub loop-byte-preserved : goal.loop-byte-preserved
loop-byte-preserved c =
    hex-turn _ _ _ _ _ _ _ _ _ _ c.loop-byte-test.true c.requires.0 c.requires.1 c.loop-byte.invariant c.put_byte-blank.ensures c.put_hex_byte-end.ensures
