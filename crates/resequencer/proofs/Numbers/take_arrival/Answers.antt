-- `resequencer::Numbers::take_arrival` meets its contract: each way out is a case of the
-- definition.
-- Assumes nothing.
use mathlib.Core.Path.{◌≡◌, sym, ap, ◌∙◌, subst}
use Prim.Native.Nat.{ℕ, ◌≤◌, ◌<◌}
use native.Mathlib.Omega.{arith}
use Rattle.sequence.specs.declared.LinkNumber.{LinkNumber}
use Rattle.wordset.specs.Sets.{run}
use Rattle.resequencer.specs.Events.{run_after_nesn}
use Rattle.resequencer.specs.Numbers.{bare, step_by}
use Rattle.resequencer.proofs.Order.{in_order_lem}
use Rattle.resequencer.proofs.Bounds.{run-after-bound}
use Rattle.resequencer.proofs.Cases.{old, duplicate, expected, held_on}
use Rattle.resequencer.proofs.Steps.{passed-run}
use Rattle.resequencer.proofs.Numbers.take_arrival.Goals as goal

pub overflow_add-run : goal.overflow_add-run
overflow_add-run c =
    let the-run : c.run.result ≡ run_after_nesn (bare c.args.self) = unfold run_after_nesn in
    c.run.ensures ∙ ap (λ (n : LinkNumber). run 64 c.args.self.held n.0) c.next-after.ensures in
    let few : c.run.result ≤ 31 = let s = bare c.args.self in
    omega (arith, the-run, run-after-bound s (in_order_lem s c.requires.0)) in omega (arith, few)

pub pass-requires : goal.pass-requires
pass-requires c =
    let the-run : c.run.result ≡ run_after_nesn (bare c.args.self) = unfold run_after_nesn in
    c.run.ensures ∙ ap (λ (n : LinkNumber). run 64 c.args.self.held n.0) c.next-after.ensures in
    let few : c.run.result ≤ 31 = let s = bare c.args.self in
    omega (arith, the-run, run-after-bound s (in_order_lem s c.requires.0)) in ((in_order_lem (bare c.args.self) c.requires.0).nesn-lt, omega (arith, few))

pub returns-then-d-gt31 : goal.returns-then-d-gt31
returns-then-d-gt31 c =
    let m = c.args.self in
    c.stay.ensures ∙ ap (step_by m) (sym (old (bare m) _ _ (subst (λ (x : ℕ). 31 < x) c.distance_to-d.ensures c.if-d-gt31.true)))

pub returns-then-member : goal.returns-then-member
returns-then-member c =
    let m = c.args.self in
    c.stay-then-member.ensures
    ∙ ap (step_by m) (sym (duplicate (bare m) _ _ (subst (λ (x : ℕ). x ≤ 31) c.distance_to-d.ensures c.if-d-gt31.false) (sym c.member.ensures ∙ c.if-member.true)))

pub returns-then-d-eq0 : goal.returns-then-d-eq0
returns-then-d-eq0 c =
    let the-run : c.run.result ≡ run_after_nesn (bare c.args.self) = unfold run_after_nesn in
    c.run.ensures ∙ ap (λ (n : LinkNumber). run 64 c.args.self.held n.0) c.next-after.ensures in
    let m = c.args.self in
    c.pass.ensures
    ∙ passed-run m _ the-run
    ∙ ap (step_by m) (sym (expected (bare m) _ _ (sym c.distance_to-d.ensures ∙ c.if-d-eq0.true) (sym c.member.ensures ∙ c.if-member.false)))

pub returns-else-d-eq0 : goal.returns-else-d-eq0
returns-else-d-eq0 c =
    let m = c.args.self in
    c.hold.ensures
    ∙ ap (step_by m) (sym (held_on (bare m) _ _ (subst (λ (x : ℕ). x ≤ 31) c.distance_to-d.ensures c.if-d-gt31.false) (sym c.member.ensures ∙ c.if-member.false) (λ z. c.if-d-eq0.false (c.distance_to-d.ensures ∙ z))))
