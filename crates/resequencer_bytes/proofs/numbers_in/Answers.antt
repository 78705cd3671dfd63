-- `resequencer_bytes::numbers_in` meets its contract: field by field.
-- Assumes nothing.
use Rattle.resequencer_bytes.proofs.Reading.{read-numbers}
use Rattle.resequencer_bytes.proofs.numbers_in.Goals as goal

pub returns : goal.returns
returns c = read-numbers c.args.state.now _ _ c.word.ensures c.word-2.ensures
