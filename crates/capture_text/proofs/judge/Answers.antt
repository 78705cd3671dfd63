-- `capture_text::judge` meets its contract: the test is the first of `file_verdict`.
-- Assumes nothing.
use mathlib.Core.Path.{sym, subst, ◌∙◌}
use Prim.Native.Nat.{◌≤◌}
use Rattle.capture.specs.Opening.{opened_count}
use Rattle.capture_text.proofs.Reports.{too_long, opens, few}
use native.Mathlib.Omega.{arith}
use Rattle.refusal.proofs.Clauses.{two}
use Rattle.capture_text.proofs.judge.Goals as goal

pub returns-then-file-gt83980 : goal.returns-then-file-gt83980
returns-then-file-gt83980 c =
    two (λ p q. record { value = p; few = q })
    ((too_long _ c.if-file-gt83980.true, omega arith))

pub returns : goal.returns
returns c =
    two (λ p q. record { value = p; few = q })
    ((c.open_file.ensures.value ∙ opens _ c.if-file-gt83980.false, subst (λ o. opened_count o ≤ 512) (sym c.open_file.ensures.value) (few _)))
