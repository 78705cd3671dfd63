-- `resequencer_bytes::fresh` meets its contract: memory of another size is refused; else every byte
-- becomes 0, as in a fresh state.
-- Assumes nothing.
use mathlib.Core.Path.{◌≡◌, ap, ◌∙◌}
use lib.ListN.{length, replicate}
use Rattle.refusal.proofs.Clauses.{two}
use Rattle.resequencer_bytes.proofs.Calls.{fresh-none, fresh-zeros, fresh-done}
use Rattle.resequencer_bytes.proofs.fresh.Goals as goal

pub returns-in_default : goal.returns-in_default
returns-in_default c =
    two (λ p q. record { value = p; state_after = q })
    (fresh-none c.args.state.now c.in_default.ensures.cases)

pub returns : goal.returns
returns c =
    two (λ p q. record { value = p; state_after = q })
    (let whole = c.in-Some.ensures.cases in
    let long : length c.in-Some.state.now ≡ 146 = ap length whole.same ∙ whole.long in
    fresh-done c.args.state.now c.fill.new.self whole.long (c.fill.ensures.after (λ y e. e) ∙ ap (λ n. replicate n 0) long ∙ fresh-zeros))
