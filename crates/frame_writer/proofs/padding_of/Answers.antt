-- `frame_writer::padding_of` meets its contract: one remainder gives what the definition says by
-- two.
-- Assumes nothing.
use native.Mathlib.Omega.{arith}
use Rattle.frame_form.specs.Segments.{padding}
use Rattle.refusal.proofs.Clauses.{two}
use Rattle.frame_writer.proofs.padding_of.Goals as goal

pub returns : goal.returns
unfolding padding
returns c =
    two (λ p q. record { value = p; few = q })
    ((omega arith, omega arith))
