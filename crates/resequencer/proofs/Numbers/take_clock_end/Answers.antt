-- `resequencer::Numbers::take_clock_end` meets its contract: the numbers passed are at most 32.
-- Assumes nothing.
use mathlib.Core.Path.{◌≡◌, ap, ap₂, ◌∙◌}
use Prim.Native.Nat.{ℕ, ◌+◌, ◌≤◌}
use native.Mathlib.Omega.{arith}
use Rattle.sequence.specs.declared.LinkNumber.{LinkNumber}
use Rattle.wordset.specs.Sets.{run}
use Rattle.resequencer.specs.Events.{passed_by_clock}
use Rattle.resequencer.specs.Numbers.{bare}
use Rattle.resequencer.proofs.Order.{in_order_lem}
use Rattle.resequencer.proofs.Bounds.{passed-bound}
use Rattle.resequencer.proofs.Steps.{passed-end}
use Rattle.resequencer.proofs.Numbers.take_clock_end.Goals as goal

pub overflow_add-distance_to : goal.overflow_add-distance_to
overflow_add-distance_to c =
    let passed : c.distance_to.result + 1 + c.run-run.result ≡ passed_by_clock (bare c.args.self) c.args.sn.0 = unfold passed_by_clock in
    ap₂ (λ (x y : ℕ). x + 1 + y) c.distance_to.ensures (c.run-run.ensures ∙ ap (λ (n : LinkNumber). run 64 c.args.self.held n.0) c.next-after.ensures) in
    let few : c.distance_to.result + 1 + c.run-run.result ≤ 32 = omega (arith, passed, passed-bound (bare c.args.self) (in_order_lem (bare c.args.self) c.requires.0) c.args.sn.0 c.requires.1.0 c.requires.1.1) in omega (arith, few)

pub overflow_add-distance_to-2 : goal.overflow_add-distance_to-2
overflow_add-distance_to-2 c =
    let passed : c.distance_to.result + 1 + c.run-run.result ≡ passed_by_clock (bare c.args.self) c.args.sn.0 = unfold passed_by_clock in
    ap₂ (λ (x y : ℕ). x + 1 + y) c.distance_to.ensures (c.run-run.ensures ∙ ap (λ (n : LinkNumber). run 64 c.args.self.held n.0) c.next-after.ensures) in
    let few : c.distance_to.result + 1 + c.run-run.result ≤ 32 = omega (arith, passed, passed-bound (bare c.args.self) (in_order_lem (bare c.args.self) c.requires.0) c.args.sn.0 c.requires.1.0 c.requires.1.1) in omega (arith, few)

pub pass-requires : goal.pass-requires
pass-requires c =
    let passed : c.distance_to.result + 1 + c.run-run.result ≡ passed_by_clock (bare c.args.self) c.args.sn.0 = unfold passed_by_clock in
    ap₂ (λ (x y : ℕ). x + 1 + y) c.distance_to.ensures (c.run-run.ensures ∙ ap (λ (n : LinkNumber). run 64 c.args.self.held n.0) c.next-after.ensures) in
    let few : c.distance_to.result + 1 + c.run-run.result ≤ 32 = omega (arith, passed, passed-bound (bare c.args.self) (in_order_lem (bare c.args.self) c.requires.0) c.args.sn.0 c.requires.1.0 c.requires.1.1) in ((in_order_lem (bare c.args.self) c.requires.0).nesn-lt, omega (arith, few))

pub returns : goal.returns
returns c =
    let passed : c.distance_to.result + 1 + c.run-run.result ≡ passed_by_clock (bare c.args.self) c.args.sn.0 = unfold passed_by_clock in
    ap₂ (λ (x y : ℕ). x + 1 + y) c.distance_to.ensures (c.run-run.ensures ∙ ap (λ (n : LinkNumber). run 64 c.args.self.held n.0) c.next-after.ensures) in c.pass.ensures ∙ passed-end c.args.self c.args.sn.0 _ passed
