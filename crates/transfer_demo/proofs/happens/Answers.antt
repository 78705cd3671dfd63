-- `transfer_demo::happens` meets its contract: a frame arrives if its place is below the count.
-- Assumes nothing.
use mathlib.Core.Path.{◌≡◌, sym, ap}
use Prim.Native.Nat.{ℕ}
use Rattle.transfer_claims.specs.Rule.{takes_place}
use Rattle.transfer_demo.specs.declared.Event.{Event}
use Rattle.transfer_demo.specs.Calls.{event_of}
use Rattle.transfer_demo.proofs.happens.Goals as goal

told : (count : ℕ) {event x : Event} → event ≡ x → takes_place count (event_of x) ≡ takes_place count (event_of event)
told count e = sym (ap (λ (x : Event). takes_place count (event_of x)) e)

pub returns-in-Frame : goal.returns-in-Frame
returns-in-Frame c = told c.args.count c.in-Frame.is
