-- `replay_script::put_refusal` meets its contract: the word is written, and the number after it.
-- Assumes nothing.
use Rattle.replay_script.proofs.Reports.{number-refused}
use Rattle.replay_script.proofs.put_refusal.Goals as goal

pub returns : goal.returns
returns c =
    number-refused c.args.why c.number.ensures c.requires c.put_word-end.ensures c.put_spaced.ensures
