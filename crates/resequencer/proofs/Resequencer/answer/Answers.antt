-- `resequencer::Resequencer::answer` meets its contract: the outcome decides what happens to the
-- tickets.
-- Assumes nothing.
use mathlib.Core.Path.{◌≡◌, refl, ap}
use mathlib.Core.Bool.{true}
use native.Mathlib.Omega.{arith}
use borrow.Author.Rules.{rules}
use lib.ListN.{length}
use Rattle.resequencer.specs.Numbers.{hands_on, holds}
use Rattle.resequencer.proofs.Steps.{within, answer-handed, answer-kept, answer-still}
use Rattle.resequencer.proofs.Resequencer.answer.Goals as goal

pub overflow_add-start : goal.overflow_add-start
overflow_add-start c =
    let passes : hands_on c.args.step.outcome ≡ true = ap hands_on (within c.in-Ok-HandedOn.is (rw c.in-Ok-HandedOn.is at c.in-Ok-HandedOn.field-0-is)) in omega (arith, c.requires.nesn-lt passes, c.requires.own)

pub overflow_sub-step : goal.overflow_sub-step
overflow_sub-step c =
    let passes : hands_on c.args.step.outcome ≡ true = ap hands_on (within c.in-Ok-HandedOn.is (rw c.in-Ok-HandedOn.is at c.in-Ok-HandedOn.field-0-is)) in omega (arith, c.requires.least passes)

pub gather_held-count-requires : goal.gather_held-count-requires
gather_held-count-requires c =
    let passes : hands_on c.args.step.outcome ≡ true = ap hands_on (within c.in-Ok-HandedOn.is (rw c.in-Ok-HandedOn.is at c.in-Ok-HandedOn.field-0-is)) in
    let p = c.requires in
    let h = passes in
    (refl, (omega (arith, p.nesn-lt h, p.own), (p.own, (omega (arith, p.least h, p.most h), p.none))))

pub clear_passed-requires : goal.clear_passed-requires
clear_passed-requires c =
    let passes : hands_on c.args.step.outcome ≡ true = ap hands_on (within c.in-Ok-HandedOn.is (rw c.in-Ok-HandedOn.is at c.in-Ok-HandedOn.field-0-is)) in
    let long : length c.args.self.tickets ≡ 64 = search rules in
    let p = c.requires in
    let h = passes in
    (p.nesn-lt h, (omega (arith, p.most h), long))

pub bounds-tickets-sn : goal.bounds-tickets-sn
bounds-tickets-sn c = omega (arith, c.requires.number (ap holds (within c.in-Ok-Held.is (rw c.in-Ok-Held.is at c.in-Ok-Held.field-0-is))))

pub returns-in-Ok-HandedOn : goal.returns-in-Ok-HandedOn
returns-in-Ok-HandedOn c =
    let passes : hands_on c.args.step.outcome ≡ true = ap hands_on (within c.in-Ok-HandedOn.is (rw c.in-Ok-HandedOn.is at c.in-Ok-HandedOn.field-0-is)) in
    let a = c.args in
    answer-handed a.self a.step a.d a.sn.0 a.ticket _ _ _ passes c.gather_held-count.ensures.value c.gather_held-count.ensures.out_after c.clear_passed.ensures

pub returns-in-Ok-Held : goal.returns-in-Ok-Held
returns-in-Ok-Held c =
    let a = c.args in
    answer-kept a.self a.step a.d a.sn.0 a.ticket (ap hands_on (within c.in-Ok-Held.is (rw c.in-Ok-Held.is at c.in-Ok-Held.field-0-is))) (ap holds (within c.in-Ok-Held.is (rw c.in-Ok-Held.is at c.in-Ok-Held.field-0-is)))

pub returns-in-Ok-Old : goal.returns-in-Ok-Old
returns-in-Ok-Old c =
    let a = c.args in
    answer-still a.self a.step a.d a.sn.0 a.ticket (ap hands_on (within c.in-Ok-Old.is (rw c.in-Ok-Old.is at c.in-Ok-Old.field-0-is))) (ap holds (within c.in-Ok-Old.is (rw c.in-Ok-Old.is at c.in-Ok-Old.field-0-is)))

pub returns-in-Ok-Duplicate : goal.returns-in-Ok-Duplicate
returns-in-Ok-Duplicate c =
    let a = c.args in
    answer-still a.self a.step a.d a.sn.0 a.ticket (ap hands_on (within c.in-Ok-Duplicate.is (rw c.in-Ok-Duplicate.is at c.in-Ok-Duplicate.field-0-is))) (ap holds (within c.in-Ok-Duplicate.is (rw c.in-Ok-Duplicate.is at c.in-Ok-Duplicate.field-0-is)))

pub returns-in-Err : goal.returns-in-Err
returns-in-Err c =
    let a = c.args in
    answer-still a.self a.step a.d a.sn.0 a.ticket (ap hands_on c.in-Err.is) (ap holds c.in-Err.is)
