-- `resequencer_bytes::answer` meets its contract: the outcome decides what is written.
-- Assumes nothing.
use mathlib.Core.Path.{◌≡◌, refl, ap, ◌∙◌}
use mathlib.Core.Bool.{true}
use Prim.Native.Nat.{ℕ, ◌+◌}
use native.Mathlib.Omega.{arith}
use lib.ListN.{replicate}
use Rattle.resequencer.specs.declared.Numbers.{Numbers}
use Rattle.resequencer.specs.Numbers.{hands_on, holds}
use Rattle.resequencer.proofs.Steps.{within}
use Rattle.resequencer_bytes.proofs.Calls.{moved_on, moved_in, taken, dropped, refused}
use Rattle.refusal.proofs.Clauses.{three}
use Rattle.resequencer_bytes.proofs.answer.Goals as goal
use Rattle.resequencer.specs.declared.Outcome.TheVariants.{Held, HandedOn, Old, Duplicate}
use Rattle.std.specs.Prelude.{Ok}

pub put-requires : goal.put-requires
put-requires c = omega (arith, c.requires.fits.number (ap holds (within c.in-Ok.is c.in-Held.is)))

pub overflow_add-start : goal.overflow_add-start
overflow_add-start c =
    let f = c.requires.fits in omega (arith, f.nesn-lt (ap hands_on (within c.in-Ok.is c.in-HandedOn.is)), f.own)

pub overflow_sub-step : goal.overflow_sub-step
overflow_sub-step c = omega (arith, c.requires.fits.least (ap hands_on (within c.in-Ok.is c.in-HandedOn.is)))

pub hand_on-count-requires : goal.hand_on-count-requires
hand_on-count-requires c =
    let p = c.requires in
    let h : hands_on c.args.step.outcome ≡ true = ap hands_on (within c.in-Ok.is c.in-HandedOn.is) in
    record {
      cleared = c.fill.ensures.after (λ y e. e) ∙ ap (λ (n : ℕ). replicate n 0) p.places;
      order = p.order h;
      held-is = ap (λ (m : Numbers). m.held) p.numbers-are;
      start_is = ap (λ (m : Numbers). m.nesn.0 + c.args.d) p.numbers-are;
      own = p.fits.own;
      most = omega (arith, p.fits.least h, p.fits.most h);
      none = p.fits.none;
    }

pub returns-in-Held : goal.returns-in-Held
returns-in-Held c =
    three (λ p q r. record { value = p; state_after = q; out_after = r })
    (let a = c.args in
    let p = c.requires in
    let q = within c.in-Ok.is c.in-Held.is in
    let cleared = c.fill.ensures.after (λ y e. e) ∙ ap (λ (n : ℕ). replicate n 0) p.places in
    taken _ a.step a.d a.sn a.ticket _ c.told-state (Ok Held) q refl _ 0 _ _ _ refl
    (moved_in a.state.now a.step a.d a.sn a.ticket _ _ c.told-state (λ i h. c.fits-state i) (p.fits.number (ap holds q)) (ap hands_on q) (ap holds q) cleared c.put.ensures)
    c.put_numbers.ensures)

pub returns-in-HandedOn : goal.returns-in-HandedOn
returns-in-HandedOn c =
    three (λ p q r. record { value = p; state_after = q; out_after = r })
    (let a = c.args in
    let p = c.requires in
    let q = within c.in-Ok.is c.in-HandedOn.is in
    let r = c.hand_on-count.ensures in
    taken _ a.step a.d a.sn a.ticket _ c.told-state (Ok HandedOn) q refl _ _ _ _ _ refl
    (moved_on a.state.now a.step a.d a.sn a.ticket a.numbers _ _ _ p.numbers-are (ap hands_on q) (p.fits.least (ap hands_on q)) r.value r.out_after r.state_after)
    c.put_numbers-in-HandedOn.ensures)

pub returns-in-Old : goal.returns-in-Old
returns-in-Old c =
    three (λ p q r. record { value = p; state_after = q; out_after = r })
    (let a = c.args in
    let p = c.requires in
    let q = within c.in-Ok.is c.in-Old.is in
    let cleared = c.fill.ensures.after (λ y e. e) ∙ ap (λ (n : ℕ). replicate n 0) p.places in
    dropped _ a.step a.d a.sn a.ticket _ c.told-state (Ok Old) q refl refl refl (p.stays (ap hands_on q) (ap holds q) ∙ p.numbers-are) (λ i h. c.fits-state i) _ _ refl cleared)

pub returns-in-Duplicate : goal.returns-in-Duplicate
returns-in-Duplicate c =
    three (λ p q r. record { value = p; state_after = q; out_after = r })
    (let a = c.args in
    let p = c.requires in
    let q = within c.in-Ok.is c.in-Duplicate.is in
    let cleared = c.fill.ensures.after (λ y e. e) ∙ ap (λ (n : ℕ). replicate n 0) p.places in
    dropped _ a.step a.d a.sn a.ticket _ c.told-state (Ok Duplicate) q refl refl refl (p.stays (ap hands_on q) (ap holds q) ∙ p.numbers-are) (λ i h. c.fits-state i) _ _ refl cleared)

pub returns-in-Err : goal.returns-in-Err
returns-in-Err c =
    three (λ p q r. record { value = p; state_after = q; out_after = r })
    (let a = c.args in
    refused _ a.step a.d a.sn a.ticket _ c.told-state _ c.in-Err.is _ c.number.ensures)
