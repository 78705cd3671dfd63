-- `capture_text::put_refused` meets its contract: the word, the number and a line end are written
-- one after the other.
-- Assumes nothing.
use Rattle.capture_text.proofs.Texts.{refused-written}
use Rattle.capture_text.proofs.put_refused.Goals as goal

pub returns : goal.returns
returns c =
    refused-written c.args.why c.number.ensures c.requires c.put_word-word.ensures c.put_spaced-number.ensures c.put_byte.ensures
