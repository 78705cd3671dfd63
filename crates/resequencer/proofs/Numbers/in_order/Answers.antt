-- `resequencer::Numbers::in_order` meets its contract: the tests on the rotated sets decide good
-- order if all tickets are 0.
-- Assumes nothing.
use mathlib.Core.Path.{refl, sym, ◌∙◌}
use mathlib.Core.Bool.{true, false}
use native.Mathlib.Omega.{arith}
use borrow.Author.Rules.{rules}
use lib.Dec.{lit<}
use Rattle.sequence.proofs.Modular.{distance-lt}
use Rattle.resequencer.specs.Numbers.{bare}
use Rattle.resequencer.proofs.Deciding.{sum_fits, decided-by}
use Rattle.resequencer.proofs.Steps.{bare-fits, and-true}
use Rattle.resequencer.proofs.Numbers.in_order.Goals as goal

pub hsnr_in_order-requires : goal.hsnr_in_order-requires
hsnr_in_order-requires c =
    let s = c.args.self in (
      omega (arith, c.distance_to.ensures, distance-lt 64 (lit< tt) s.nesn.0 s.hsnr.0),
      sum_fits _ _ (search rules) (sym c.window_in_order.ensures ∙ c.if-window_in_order.true),
    )

pub returns-then-window_in_order : goal.returns-then-window_in_order
returns-then-window_in_order c =
    let s = c.args.self in
    sym (decided-by (bare s) (search rules) _ _ _ true true c.hsnr_in_order.result true c.rotate-h.ensures c.rotate-c.ensures c.distance_to.ensures (sym c.if-not-in_field.false ∙ c.in_field.ensures) (sym c.if-window_in_order.true ∙ c.window_in_order.ensures) c.hsnr_in_order.ensures (sym (bare-fits s.held)) ∙ and-true c.hsnr_in_order.result)

pub returns-else-window_in_order : goal.returns-else-window_in_order
returns-else-window_in_order c =
    let s = c.args.self in
    c.if-window_in_order.false
    ∙ sym (decided-by (bare s) (search rules) _ _ _ true false _ _ c.rotate-h.ensures c.rotate-c.ensures refl (sym c.if-not-in_field.false ∙ c.in_field.ensures) (sym c.if-window_in_order.false ∙ c.window_in_order.ensures) refl refl)

pub returns-then-not-in_field : goal.returns-then-not-in_field
returns-then-not-in_field c =
    let s = c.args.self in
    sym (decided-by (bare s) (search rules) _ _ _ false _ _ _ refl refl refl (sym c.if-not-in_field.true ∙ c.in_field.ensures) refl refl refl)
