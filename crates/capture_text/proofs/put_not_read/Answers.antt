-- `capture_text::put_not_read` meets its contract: the dashes are written, and the number after
-- them.
-- Assumes nothing.
use Rattle.capture_text.proofs.Texts.{not-read-written}
use Rattle.capture_text.proofs.put_not_read.Goals as goal

pub returns : goal.returns
returns c =
    not-read-written c.args.why c.number.ensures c.requires c.put_word-dashes.ensures c.put_spaced.ensures
