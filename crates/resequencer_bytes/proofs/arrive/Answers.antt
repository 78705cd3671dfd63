-- `resequencer_bytes::arrive` meets its contract: bytes that are no state are refused, then too few
-- places; else the step of the numbers determines the whole answer.
-- Assumes nothing.
use mathlib.Core.Path.{◌≡◌, refl, sym, ◌∙◌, subst}
use lib.ListN.{length, take}
use lib.Seq.{length-take-le}
use Rattle.resequencer.specs.declared.Step.{Step}
use Rattle.resequencer.specs.Numbers.{StepFits}
use Rattle.resequencer.proofs.Steps.{arrive-fits, arrive-told}
use Rattle.resequencer_bytes.specs.Stored.{state_in}
use Rattle.resequencer_bytes.proofs.Steps.{arrival-tells}
use Rattle.resequencer_bytes.proofs.Checking.{arrive-no-state, arrive-few, arrive-done}
use Rattle.refusal.proofs.Clauses.{three}
use Rattle.resequencer_bytes.proofs.arrive.Goals as goal

pub returns-in_default : goal.returns-in_default
returns-in_default c =
    three (λ p q r. record { value = p; state_after = q; tickets_after = r })
    (let a = c.args in arrive-no-state a.state.now a.tickets.now a.sn _ c.in_default.ensures.cases)

pub returns-then-tickets-lt32 : goal.returns-then-tickets-lt32
returns-then-tickets-lt32 c =
    three (λ p q r. record { value = p; state_after = q; tickets_after = r })
    (let a = c.args in
    arrive-few c.in-Some.state.now a.tickets.now a.sn a.state.now c.in-Some.ensures.cases.same c.if-tickets-lt32.true _ _ c.short_answer.ensures)

pub slice_bounds-answer-end : goal.slice_bounds-answer-end
slice_bounds-answer-end c = c.if-tickets-lt32.false

pub slice_bounds-answer-end-2 : goal.slice_bounds-answer-end-2
slice_bounds-answer-end-2 c =
    let lent : length (take 32 c.args.tickets.now) ≡ 32 = length-take-le 32 c.args.tickets.now c.if-tickets-lt32.false in sym lent

pub answer-requires : goal.answer-requires
answer-requires c =
    let lent : length (take 32 c.args.tickets.now) ≡ 32 = length-take-le 32 c.args.tickets.now c.if-tickets-lt32.false in
    let a = c.args in
    let b = c.in-Some.state.now in
    let m = c.numbers_in-numbers.ensures in
    let w = arrival-tells (state_in b) _ c.tickets_in_order-fits.ensures _ m a.sn _ c.arrive-step.ensures.value in
    record {
      places = lent;
      numbers-are = m;
      fits = subst (λ (s : Step). StepFits c.numbers_in-numbers.result.nesn.0 s 1 a.sn a.ticket) (sym c.arrive-step.ensures.value) (arrive-fits _ _ a.sn a.ticket);
      order = w.0;
      stays = λ h k. w.1 h k ∙ sym m;
    }

pub returns : goal.returns
returns c =
    three (λ p q r. record { value = p; state_after = q; tickets_after = r })
    (let lent : length (take 32 c.args.tickets.now) ≡ 32 = length-take-le 32 c.args.tickets.now c.if-tickets-lt32.false in
    let a = c.args in
    let b = c.in-Some.state.now in
    let whole = c.in-Some.ensures.cases in
    arrive-done b a.tickets.now a.sn a.state.now whole.same whole.long c.if-tickets-lt32.false _ _ _ _ (c.answer.auto.out ∙ lent) a.ticket
    (arrive-told (state_in b) _ _ a.sn a.ticket _ c.numbers_in-numbers.ensures _ c.tickets_in_order-fits.ensures c.arrive-step.ensures.value refl)
    (c.answer.ensures.value, (c.answer.ensures.state_after, c.answer.ensures.out_after)))
