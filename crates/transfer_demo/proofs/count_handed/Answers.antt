-- `transfer_demo::count_handed` meets its contract: the first `count` of the 32 tickets, or all of
-- them.
-- Assumes nothing.
use mathlib.Core.Path.{◌≡◌}
use native.Mathlib.Omega.{arith}
use lib.ListN.{length, length-take}
use borrow.Author.Rules.{rules}
use Rattle.resequencer.specs.Events.{handed}
use Rattle.transfer_demo.proofs.count_handed.Goals as goal

pub returns : goal.returns
unfolding handed
returns c =
    let long : length c.args.answer.tickets ≡ 32 = search rules in
    (omega (arith, long, length-take c.args.answer.count c.args.answer.tickets, c.min.ensures), omega (arith, c.min.ensures))
