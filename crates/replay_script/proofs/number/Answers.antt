-- `replay_script::number` meets its contract: `value`, continued by the digits that are left, is
-- the value of the whole text.
-- Assumes nothing.
use mathlib.Core.Path.{refl, ◌∙◌}
use native.Mathlib.Omega.{arith}
use borrow.Author.Rules.{rules}
use Rattle.replay_script.proofs.Reading.{empty-none, long-none, digit-none, over_none, digits-turn, value-turn, number_is}
use Rattle.replay_script.proofs.number.Goals as goal

pub returns-then-text-eq0 : goal.returns-then-text-eq0
returns-then-text-eq0 c = empty-none _ c.if-text-eq0.true

pub returns-then-text-gt5 : goal.returns-then-text-gt5
returns-then-text-gt5 c = long-none _ c.if-text-gt5.true

pub loop-byte-init : goal.loop-byte-init
loop-byte-init c = (search rules, refl, refl)

pub returns-then-not-is_ascii_digit : goal.returns-then-not-is_ascii_digit
returns-then-not-is_ascii_digit c = digit-none _ _ c.loop-byte-test.true c.if-not-is_ascii_digit.ensures.cases c.loop-byte.invariant.2

pub returns-in_err-checked_mul : goal.returns-in_err-checked_mul
returns-in_err-checked_mul c =
    c.from_residual.ensures ∙ over_none _ c.loop-byte.value _ c.loop-byte-test.true (omega (arith, c.in_err-checked_mul.ensures)) c.loop-byte.invariant.1

pub returns-in_err-value : goal.returns-in_err-value
returns-in_err-value c =
    c.from_residual-in_err-value.ensures
    ∙ over_none _ c.loop-byte.value _ c.loop-byte-test.true (omega (arith, c.in_err-value.ensures, c.in_ok-checked_mul.ensures)) c.loop-byte.invariant.1

pub loop-byte-preserved : goal.loop-byte-preserved
loop-byte-preserved c = (
  omega (arith, c.in_ok-value.ensures),
  value-turn _ c.loop-byte.value _ _ c.loop-byte-test.true (omega (arith, c.in_ok-value.ensures, c.in_ok-checked_mul.ensures)) c.loop-byte.invariant.1,
  digits-turn _ _ c.loop-byte-test.true c.if-not-is_ascii_digit.ensures.cases.0 c.if-not-is_ascii_digit.ensures.cases.1 c.loop-byte.invariant.2,
)

pub returns : goal.returns
returns c =
    number_is _ _ _ c.if-text-eq0.false
    c.if-text-gt5.false
    c.loop-byte-test.false
    c.loop-byte.invariant.0
    c.loop-byte.invariant.1
    c.loop-byte.invariant.2
