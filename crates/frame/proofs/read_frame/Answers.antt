-- `frame::read_frame` meets its contract: it decodes what `frame_reader` answered.
-- Assumes nothing.
use mathlib.Core.Path.{ap, ◌∙◌}
use Rattle.std.specs.Prelude.{Ok}
use Rattle.frame.specs.Reading.{contents_at}
use Rattle.frame.proofs.Numbers.{frame-says}
use Rattle.frame.proofs.Ten.{read_done, read-refused}
use Rattle.refusal.proofs.Clauses.{two}
use Rattle.frame.proofs.read_frame.Goals as goal

pub returns-then-answer-eq0 : goal.returns-then-answer-eq0
returns-then-answer-eq0 c =
    two (λ p q. record { value = p; says = q })
    (let a = c.args in
    let read = c.read-answer in
    frame-says a.form a.frame.now _
    (read_done a.form a.frame.now _ read.result _ c.number-number.ensures read.ensures.value read.ensures.written (Ok c.contents_at.result) c.if-answer-eq0.true (ap Ok (c.contents_at.ensures ∙ ap (contents_at _) c.place_in.ensures))))

pub returns : goal.returns
returns c =
    two (λ p q. record { value = p; says = q })
    (let a = c.args in
    let read = c.read-answer in
    frame-says a.form a.frame.now _
    (read-refused a.form a.frame.now _ read.result _ c.number-number.ensures read.ensures.value read.ensures.written _ c.if-answer-eq0.false c.refused.ensures))
