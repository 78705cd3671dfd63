-- `replay_script::put_answer` meets its contract: the parts of the line are written one after the
-- other.
-- Assumes nothing.
use mathlib.Core.Path.{◌≡◌}
use lib.ListN.{length}
use borrow.Author.Rules.{rules}
use Rattle.replay_script.proofs.Reports.{answer-written}
use Rattle.replay_script.proofs.put_answer.Goals as goal

pub returns : goal.returns
returns c =
    let sized : length c.args.answer.tickets ≡ 32 = search rules in
    answer-written c.args.answer _ _ c.requires c.put_number-nesn.ensures c.put_spaced-held.ensures c.put_spaced-clocks.ensures
    sized c.count.ensures c.count-2.ensures c.at_most-count.ensures.1 c.put_result-result.ensures c.put_byte.ensures
