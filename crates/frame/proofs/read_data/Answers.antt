-- `frame::read_data` meets its contract: it decodes what `frame_reader` answered.
-- Assumes nothing.
use mathlib.Core.Path.{ap, ◌∙◌}
use Rattle.frame.specs.declared.UserData.{UserData}
use Rattle.frame.proofs.Ten.{data-done, data-other, data-refused}
use Rattle.frame.proofs.read_data.Goals as goal
use Rattle.std.specs.Prelude.{Ok, Some}

pub returns-then-ten-eq0 : goal.returns-then-ten-eq0
returns-then-ten-eq0 c =
    let a = c.args in
    let read = c.read-answer in
    ap (λ (place : UserData). Ok (Some (c.from.result, place))) c.place_in.ensures
    ∙ data-done a.form a.frame.now _ read.result _ c.number-number.ensures read.ensures.value read.ensures.written _ c.if-answer-eq0.true c.if-ten-eq0.true c.from.ensures

pub returns-then-answer-eq0 : goal.returns-then-answer-eq0
returns-then-answer-eq0 c =
    let a = c.args in
    let read = c.read-answer in
    data-other a.form a.frame.now _ read.result _ c.number-number.ensures read.ensures.value read.ensures.written c.if-answer-eq0.true c.if-ten-eq0.false

pub returns : goal.returns
returns c =
    let a = c.args in
    let read = c.read-answer in
    data-refused a.form a.frame.now _ read.result _ c.number-number.ensures read.ensures.value read.ensures.written _ c.if-answer-eq0.false c.refused.ensures
