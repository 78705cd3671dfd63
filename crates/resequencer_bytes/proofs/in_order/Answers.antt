-- `resequencer_bytes::in_order` meets its contract: bytes of another length are no state.
-- Assumes nothing.
use mathlib.Core.Path.{sym, ap, ◌∙◌}
use mathlib.Core.Bool.{Bool, cond}
use mathlib.Core.List.{List}
use Prim.Native.Nat.{ℕ}
use Rattle.resequencer.specs.State.{in_order}
use Rattle.resequencer_bytes.specs.Stored.{state_in}
use Rattle.resequencer_bytes.proofs.Calls.{order-none, order-code}
use Rattle.resequencer_bytes.proofs.in_order.Goals as goal

-- the answer by the test of good order
abbrev told : Bool → ℕ
told good = cond good 0 14

pub returns-in_default : goal.returns-in_default
returns-in_default c = order-none c.args.state.now c.in_default.ensures.cases

pub returns-then-good_order : goal.returns-then-good_order
returns-then-good_order c =
    let whole = c.in-Some.ensures.cases in
    ap told (sym c.if-good_order.true)
    ∙ order-code c.args.state.now _ whole.long (c.good_order.ensures ∙ ap (λ (b : List ℕ). in_order (state_in b)) whole.same)

pub returns-else-good_order : goal.returns-else-good_order
returns-else-good_order c =
    let whole = c.in-Some.ensures.cases in
    ap told (sym c.if-good_order.false)
    ∙ order-code c.args.state.now _ whole.long (c.good_order.ensures ∙ ap (λ (b : List ℕ). in_order (state_in b)) whole.same)
