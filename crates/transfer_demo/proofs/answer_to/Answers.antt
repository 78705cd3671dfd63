-- `transfer_demo::answer_to` meets its contract: each event makes its own call.
-- Assumes nothing.
use mathlib.Core.Path.{◌≡◌, sym, ap, ◌∙◌}
use mathlib.Core.Bool.{true}
use mathlib.Core.List.{List}
use Prim.Native.Nat.{ℕ, ◌≤◌, ◌<◌}
use native.Mathlib.Omega.{arith}
use borrow.Author.Tests.{ltb-true}
use Rattle.frame.specs.Reading.{read_of, sn_in}
use Rattle.resequencer.specs.declared.Resequencer.{Resequencer}
use Rattle.resequencer.specs.Events.{arrive_of}
use Rattle.transfer_claims.specs.Rule.{demo_form}
use Rattle.transfer_claims.specs.Circuit.{frame_answer}
use Rattle.transfer_demo.specs.declared.Event.{Event}
use Rattle.transfer_demo.specs.declared.Event.TheVariants.{Frame}
use Rattle.transfer_claims.specs.Rule.{takes_place}
use Rattle.transfer_demo.specs.Calls.{event_of}
use Rattle.transfer_demo.proofs.answer_to.Goals as goal

place-fits : (count place : ℕ) (event : Event) → event ≡ Frame place → takes_place count (event_of event) ≡ true → count ≤ 65536 → place < 65536
place-fits count place event e t h = omega (arith, ltb-true place count (sym (ap (λ (x : Event). takes_place count (event_of x)) e) ∙ t))

-- the call's answer, by what the event is
called : (frames : List (List ℕ)) (state : Resequencer) (given event : Event) → given ≡ event
    → frame_answer demo_form frames state (event_of event) ≡ frame_answer demo_form frames state (event_of given)
called frames state given event e = ap (λ (x : Event). frame_answer demo_form frames state (event_of x)) (sym e)

pub arrive-requires : goal.arrive-requires
arrive-requires c = place-fits _ _ _ c.in-Frame.is c.requires.0 c.requires.1

pub returns-in-Frame : goal.returns-in-Frame
returns-in-Frame c =
    c.arrive.ensures ∙ ap (λ (f : List ℕ). arrive_of c.args.state (sn_in (read_of demo_form f)) c.in-Frame.place) c.frame_at.ensures
    ∙ called _ _ _ _ c.in-Frame.is

pub returns-in-Stray : goal.returns-in-Stray
returns-in-Stray c = c.arrive-in-Stray.ensures.value ∙ called _ _ _ _ c.in-Stray.is

pub returns-in-ClockEnd : goal.returns-in-ClockEnd
returns-in-ClockEnd c = c.clock_end.ensures.value ∙ called _ _ _ _ c.in-ClockEnd.is
