-- `replay_script::read_arrival` meets its contract: the two numbers are those before and after the
-- first blank.
-- Assumes nothing.
use mathlib.Core.Path.{ap, ◌∙◌}
use Prim.Native.Nat.{◌+◌}
use borrow.Author.Rules.{part_to_end}
use Rattle.replay_script.specs.Text.{decimal_in}
use Rattle.replay_script.proofs.Lines.{arrival-unparted, arrival-unnumbered, arrival-unticketed, arrival-read}
use Rattle.replay_script.proofs.read_arrival.Goals as goal

pub returns-in_err-blank : goal.returns-in_err-blank
returns-in_err-blank c = c.from_residual.ensures ∙ arrival-unparted _ c.in_err-blank.ensures

pub returns-in_err-sn : goal.returns-in_err-sn
returns-in_err-sn c = c.from_residual-in_err-sn.ensures ∙ arrival-unnumbered _ _ c.in_ok-blank.ensures c.in_err-sn.ensures

pub returns-in_err-ticket : goal.returns-in_err-ticket
returns-in_err-ticket c =
    c.from_residual-in_err-ticket.ensures
    ∙ arrival-unticketed _ _ c.in_ok-blank.ensures (c.in_err-ticket.ensures ∙ ap decimal_in (part_to_end c.args.text.now (c.in_ok-blank.blank + 1)))

pub returns : goal.returns
returns c =
    arrival-read _ _ c.in_ok-blank.ensures _ _ c.in_ok-sn.ensures (c.in_ok-ticket.ensures ∙ ap decimal_in (part_to_end c.args.text.now (c.in_ok-blank.blank + 1)))
