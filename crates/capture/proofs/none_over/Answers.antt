-- `capture::none_over` meets its contract: `all` answers what the recursion over the lengths does.
-- Assumes nothing.
use mathlib.Core.Path.{◌∙◌}
use lib.Dec.{leb}
use borrow.Author.Rules.{rules}
use borrow.Author.Tests.{tests}
use Rattle.std.proofs.lemmas.Iterator.{YieldsList-from_slice}
use Rattle.std.proofs.lemmas.Iterator.Search.{all_from_yields_List}
use Rattle.capture.proofs.Saving.{all-is}
use Rattle.capture.proofs.none_over.Goals as goal

pub returns : goal.returns
returns c =
    all_from_yields_List (λ n. leb n 160) _ _ _ c.all.ensures.ran (YieldsList-from_slice c.args.lengths.now cc) (λ x b q k. search (rules, tests))
    ∙ all-is 160 c.args.lengths.now
