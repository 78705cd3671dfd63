-- `frame_writer::put` meets its contract: the refusal number decides which case of the definitions
-- holds.
-- Assumes nothing.
use mathlib.Core.Path.{◌≡◌, sym, ap, ◌∙◌}
use mathlib.Core.Bool.{cond}
use Prim.Native.Nat.{ℕ, ◌+◌, ◌-◌}
use native.Mathlib.Omega.{arith}
use lib.ListN.{length}
use Rattle.frame_fields.specs.Rows.{bytes_of}
use Rattle.frame_form.specs.Forms.{long_segment, seg_of, form_at}
use Rattle.frame_form.specs.Segments.{padding, last_used, frame_length}
use Rattle.frame_form.specs.Frames.{framed}
use Rattle.frame_form.proofs.Segments.{frame-some}
use Rattle.frame_writer.specs.Writing.{write_verdict, output_by}
use Rattle.frame_writer.proofs.Verdicts.{number-done, Passed, passed, refused}
use Rattle.frame_writer.proofs.Answers.{put-done}
use Rattle.refusal.proofs.Clauses.{two}
use Rattle.frame_writer.proofs.put.Goals as goal
use Rattle.refusal.specs.Numbers.{Verdict}
use Rattle.std.specs.Prelude.{Ok}

pub returns-then-refusal-ne0 : goal.returns-then-refusal-ne0
returns-then-refusal-ne0 c =
    let a = c.args in
    let n = a.size + length a.user.now in
    let verdict : Verdict = write_verdict (form_at a.form) a.fits n (length a.out.now) in
    let frame = framed (seg_of (form_at a.form)) (bytes_of a.size (a.number + cond a.lv (last_used long_segment n) 0)) a.user.now in
    two (λ p q. record { value = p; written = q })
    (refused verdict c.check_put-refusal.result (frame_length (seg_of (form_at a.form)) n) frame a.out.now c.check_put-refusal.ensures c.if-refusal-ne0.true)

pub put_frame-requires : goal.put_frame-requires
put_frame-requires c =
    let a = c.args in
    let n = a.size + length a.user.now in
    let verdict : Verdict = write_verdict (form_at a.form) a.fits n (length a.out.now) in
    let ok : verdict ≡ Ok tt = number-done verdict (sym c.check_put-refusal.ensures ∙ omega (arith, c.if-refusal-ne0.false)) in
    let facts : Passed (form_at a.form) a.fits n (length a.out.now) = passed (form_at a.form) a.fits n (length a.out.now) ok in
    let padded : c.padding_of-pad.result ≡ padding (seg_of (form_at a.form)) n = c.padding_of-pad.ensures.value ∙ ap (λ (seg : ℕ). padding seg n) (sym facts.long) in
    let pad = c.padding_of-pad.ensures in
    record {
      pad_le_long_segment = (omega (arith, pad.few), omega (arith, pad.value, frame-some long_segment n (omega arith) (omega arith)), omega (arith, padded, facts.room));
      header = (c.requires.0, c.requires.1);
    }

pub overflow_mul-result : goal.overflow_mul-result
overflow_mul-result c =
    let a = c.args in
    let n = a.size + length a.user.now in
    let verdict : Verdict = write_verdict (form_at a.form) a.fits n (length a.out.now) in
    let ok : verdict ≡ Ok tt = number-done verdict (sym c.check_put-refusal.ensures ∙ omega (arith, c.if-refusal-ne0.false)) in
    let facts : Passed (form_at a.form) a.fits n (length a.out.now) = passed (form_at a.form) a.fits n (length a.out.now) ok in
    omega (arith, facts.few, c.padding_of-pad.ensures.few)

pub returns : goal.returns
unfolding last_used
returns c =
    let a = c.args in
    let n = a.size + length a.user.now in
    let verdict : Verdict = write_verdict (form_at a.form) a.fits n (length a.out.now) in
    let ok : verdict ≡ Ok tt = number-done verdict (sym c.check_put-refusal.ensures ∙ omega (arith, c.if-refusal-ne0.false)) in
    let facts : Passed (form_at a.form) a.fits n (length a.out.now) = passed (form_at a.form) a.fits n (length a.out.now) ok in
    let padded : c.padding_of-pad.result ≡ padding (seg_of (form_at a.form)) n = c.padding_of-pad.ensures.value ∙ ap (λ (seg : ℕ). padding seg n) (sym facts.long) in
    let numbered : a.number + c.lv_of.result ≡ a.number + cond a.lv (last_used long_segment n) 0 =
    ap (λ (x : ℕ). a.number + x) (c.lv_of.ensures.value ∙ ap (λ (x : ℕ). cond a.lv (10 - x) 0) c.padding_of-pad.ensures.value) in
    let d = put-done _ _ _ _ _ _ _ _ ok padded c.put_frame.ensures in
    record { value = d.0; written = d.1 ∙ ap (λ (x : ℕ). output_by verdict (framed (seg_of (form_at a.form)) (bytes_of a.size x) a.user.now) a.out.now) numbered }
