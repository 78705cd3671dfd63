-- `capture_bytes::save` meets its contract: a file's length is small enough not to overflow.
-- Assumes nothing.
use mathlib.Core.Path.{◌≡◌, sym, ap, ◌∙◌}
use Prim.Native.Nat.{ℕ, ◌+◌, ◌*◌}
use native.Mathlib.Omega.{arith}
use lib.ListN.{length}
use Rattle.capture_bytes.specs.Answers.{saved_answer}
use Rattle.capture_bytes.proofs.Sizes.{save-few}
use Rattle.refusal.proofs.Clauses.{two}
use Rattle.capture_bytes.proofs.save.Goals as goal

pub overflow_mul-result : goal.overflow_mul-result
overflow_mul-result c =
    let a = c.args in
    omega (arith, save-few a.form a.lengths.now a.frames.now (length a.out.now) _ (sym c.save.ensures.whole ∙ c.in-Ok.is))

pub returns-in-Ok : goal.returns-in-Ok
returns-in-Ok c =
    two (λ p q. record { value = p; written = q })
    (let w = c.save in
    let n = c.in-Ok.n in
    let code : 256 * n ≡ 0 + 256 * n = omega arith in
    (code ∙ ap saved_answer (sym c.in-Ok.is ∙ w.ensures.whole), w.ensures.written))

pub returns-in-Err : goal.returns-in-Err
returns-in-Err c =
    two (λ p q. record { value = p; written = q })
    (let w = c.save in
    let n = c.number.result in
    let code : n ≡ n + 256 * 0 = omega arith in (
      code ∙ ap (λ (x : ℕ). x + 256 * 0) c.number.ensures ∙ ap saved_answer (sym c.in-Err.is ∙ w.ensures.whole),
      w.ensures.written,
    ))
