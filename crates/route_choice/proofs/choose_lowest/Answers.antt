-- `route_choice::choose_lowest` meets its contract: where a code is usable, the set of codes is not
-- empty either.
-- Assumes nothing.
use mathlib.Core.Path.{sym, ap, ◌∙◌}
use Rattle.wordset.specs.Sets.{lowest}
use Rattle.route_choice.proofs.Cases.{lowest-chosen}
use Rattle.route_choice.proofs.choose_lowest.Goals as goal
use Rattle.std.specs.Prelude.{Ok}

pub returns-then-usable-ne0 : goal.returns-then-usable-ne0
returns-then-usable-ne0 c =
    let d = c.difference-usable.ensures in
    ap Ok (c.lowest.ensures ∙ ap (lowest 16) d) ∙ sym (lowest-chosen _ _ (λ z. c.if-usable-ne0.true (d ∙ z)))
