-- `capture_bytes::open_file` meets its contract: the form and the count are small enough not to
-- overflow.
-- Assumes nothing.
use mathlib.Core.Path.{◌≡◌, sym, ap, ◌∙◌}
use Prim.Native.Nat.{ℕ, ◌+◌, ◌*◌, ◌≤◌}
use native.Mathlib.Omega.{arith}
use Rattle.capture_bytes.specs.Answers.{opened_answer}
use Rattle.capture_bytes.proofs.Sizes.{open-few}
use Rattle.capture_bytes.proofs.open_file.Goals as goal

pub overflow_mul-result : goal.overflow_mul-result
overflow_mul-result c =
    let small : (c.in-Ok.opened.form ≤ 17) × (c.in-Ok.opened.count ≤ 512) = open-few c.args.file.now _ _ (sym c.open_file.ensures.value ∙ c.in-Ok.is) in omega (arith, small)

pub overflow_mul-result-in-Ok : goal.overflow_mul-result-in-Ok
overflow_mul-result-in-Ok c =
    let small : (c.in-Ok.opened.form ≤ 17) × (c.in-Ok.opened.count ≤ 512) = open-few c.args.file.now _ _ (sym c.open_file.ensures.value ∙ c.in-Ok.is) in omega (arith, small)

pub overflow_add-result : goal.overflow_add-result
overflow_add-result c =
    let small : (c.in-Ok.opened.form ≤ 17) × (c.in-Ok.opened.count ≤ 512) = open-few c.args.file.now _ _ (sym c.open_file.ensures.value ∙ c.in-Ok.is) in omega (arith, small)

pub returns-in-Ok : goal.returns-in-Ok
returns-in-Ok c =
    let form = c.in-Ok.opened.form in
    let count = c.in-Ok.opened.count in
    let code : 256 * form + 65536 * count ≡ 0 + 256 * form + 65536 * count = omega arith in
    code ∙ ap opened_answer (sym c.in-Ok.is ∙ c.open_file.ensures.value)

pub returns-in-Err : goal.returns-in-Err
returns-in-Err c =
    let n = c.number.result in
    let code : n ≡ n + 256 * 0 + 65536 * 0 = omega arith in
    code ∙ ap (λ (x : ℕ). x + 256 * 0 + 65536 * 0) c.number.ensures
    ∙ ap opened_answer (sym c.in-Err.is ∙ c.open_file.ensures.value)
