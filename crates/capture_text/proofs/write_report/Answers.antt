-- `capture_text::write_report` meets its contract: the room is tested, then the file; the lines or
-- the refusal are written.
-- Assumes nothing.
use mathlib.Core.Path.{subst}
use Prim.Native.Nat.{◌≤◌}
use Rattle.capture.specs.Opening.{opened_count}
use Rattle.capture_text.proofs.Reports.{no_room, lines-reported, refused-reported}
use Rattle.refusal.proofs.Clauses.{four}
use Rattle.capture_text.proofs.write_report.Goals as goal

pub returns-then-out-lt65536 : goal.returns-then-out-lt65536
returns-then-out-lt65536 c =
    four (λ p q r s. record { value = p; number = q; written = r; inside = s })
    (let p = no_room c.args.hex c.args.file.now c.args.out.now c.if-out-lt65536.true in
    (p.answer, (p.number, (p.written, p.inside))))

pub put_lines-requires : goal.put_lines-requires
put_lines-requires c =
    (subst (λ o. opened_count o ≤ 512) c.in-Ok.is c.judge.ensures.few, c.if-out-lt65536.false)

pub returns-in-Ok : goal.returns-in-Ok
returns-in-Ok c =
    four (λ p q r s. record { value = p; number = q; written = r; inside = s })
    (let p = lines-reported c.args.hex c.args.file.now c.args.out.now _ _ _ c.if-out-lt65536.false c.judge.ensures.value _ _ _ c.in-Ok.is c.from.ensures c.put_lines.ensures in
    (p.answer, (p.number, (p.written, p.inside))))

pub returns-in-Err : goal.returns-in-Err
returns-in-Err c =
    four (λ p q r s. record { value = p; number = q; written = r; inside = s })
    (let p = refused-reported c.args.hex c.args.file.now c.args.out.now _ _ _ c.if-out-lt65536.false c.judge.ensures.value _ c.in-Err.is c.put_refused.ensures in
    (p.answer, (p.number, (p.written, p.inside))))
