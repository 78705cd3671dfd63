-- `route_choice::choose` meets its contract: where the last-used code is usable, neither the set of
-- codes nor that of the usable ones is empty.
-- Assumes nothing.
use mathlib.Core.Path.{◌≡◌, sym, ap, ◌∙◌}
use mathlib.Core.Bool.{true}
use Prim.Native.Nat.{ℕ}
use native.Mathlib.Omega.{arith}
use Rattle.refusal.proofs.Clauses.{three}
use Rattle.wordset.specs.Sets.{member}
use Rattle.route_choice.specs.Choosing.{usable, choose_of}
use Rattle.route_choice.proofs.Cases.{last-used}
use Rattle.route_choice.proofs.Numbers.{choose-numbers}
use Rattle.route_choice.proofs.choose.Goals as goal
use Rattle.std.specs.Prelude.{Option, Some}

pub returns-in-Some-2 : goal.returns-in-Some-2
returns-in-Some-2 c =
    let code = c.in-Some-2.code in
    let is_usable : member (usable c.args.codes c.args.failed) code ≡ true = cc in
    let tested : c.in-Some.code ≡ code = cc in
    let last : Some code ≡ c.args.last = sym c.in-Some-2.is in
    let chosen = last-used c.args.codes c.args.failed code (omega arith) is_usable in
    three (λ p q r. record { whole = p; number = q; value = r })
    (choose-numbers _ _ _ _ (sym chosen ∙ ap (λ (l : Option ℕ). choose_of c.args.codes l c.args.failed) last))
