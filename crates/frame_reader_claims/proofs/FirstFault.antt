-- The claim `FirstFault`: refusal 3 names the first wrong byte, and the bytes up to it decide that.
-- Assumes nothing.
use mathlib.Core.Path.{◌≡◌, sym, ap, ◌∙◌, subst}
use mathlib.Core.Bool.{true}
use mathlib.Core.List.{List}
use Prim.Native.Nat.{ℕ, suc, ◌<◌, ◌≤◌}
use native.Mathlib.Omega.{arith}
use lib.ListN.{length, take}
use Rattle.refusal.specs.declared.Refusal.TheVariants.{FormatError}
use Rattle.refusal.specs.Positions.{refused_at}
use Rattle.frame_fields.specs.Rows.{AreBytes}
use Rattle.frame_form.specs.declared.Form.{Form}
use Rattle.frame_form.specs.Forms.{seg_of, form_valid}
use Rattle.frame_form.specs.Segments.{whole_segments}
use Rattle.frame_reader.specs.Reading.{found_in, fault_of, read_checks}
use Rattle.frame_reader_claims.specs.Wrong.{BadAt}
use Rattle.frame_reader_claims.specs.FirstFault.{IsFirst, FirstFault}
use Rattle.frame_reader_claims.proofs.Verdicts.{three-says, three-given, placed}
use Rattle.frame_reader_claims.proofs.Agreeing.{fewer}
use Rattle.frame_reader_claims.proofs.ByKind.{bad-inside, bad-least, fault-bad, bad-front}

named-is-first : (form : Form) (frame : List ℕ) (at : ℕ) → read_checks form frame ≡ refused_at FormatError at → IsFirst form frame at
named-is-first form frame at e =
    let t = three-says form frame at e in
    let found = found_in frame in
    let bad : BadAt form frame found at = subst (BadAt form frame found) (sym t.same) (fault-bad form frame t.whole found t.fault) in
    record {
      inside = bad-inside form frame t.whole found at bad;
      wrong = bad;
      none_before = λ i h b. omega (arith, h, t.same, bad-least form frame t.whole found i b);
    }

wrong-is-refused : (form : Form) (frame : List ℕ) (i : ℕ) → form_valid form ≡ true → whole_segments (seg_of form) (length frame) ≡ true
    → BadAt form frame (found_in frame) i → (at : ℕ) × (read_checks form frame ≡ refused_at FormatError at) × (at ≤ i)
wrong-is-refused form frame i valid whole bad =
    let least = bad-least form frame whole (found_in frame) i bad in
    let inside = bad-inside form frame whole (found_in frame) i bad in
    (fault_of (found_in frame) form frame, three-given form frame valid whole (λ z. omega arith), least)

-- the byte is wrong in the other frame too, which is so refused at it or before it; but a byte
-- before it that is wrong there is wrong here
told-by-the-front : (form : Form) (frame other : List ℕ) (at : ℕ) → AreBytes frame → AreBytes other → read_checks form frame ≡ refused_at FormatError at
    → length other ≡ length frame → take (suc at) other ≡ take (suc at) frame → read_checks form other ≡ refused_at FormatError at
told-by-the-front form frame other at are also e len front =
    let t = three-says form frame at e in
    let whole : whole_segments (seg_of form) (length other) ≡ true = ap (whole_segments (seg_of form)) len ∙ t.whole in
    let first = named-is-first form frame at e in
    let r = wrong-is-refused form other at t.valid whole (bad-front form frame t.whole other at are also len front first.wrong) in
    let there = named-is-first form other r.0 r.1 in
    let back = bad-front form other whole frame r.0 also are (sym len) (fewer (suc r.0) (suc at) frame other (omega (arith, r.2)) (sym front)) there.wrong in
    let before : r.0 < at → ⊥ = λ h. first.none_before r.0 h back in
    let same : r.0 ≡ at = omega (arith, r.2, before) in
    r.1 ∙ ap (refused_at FormatError) same

pub first-fault : FirstFault
first-fault = record {
  named-is-first = named-is-first;
  wrong-is-refused = wrong-is-refused;
  told-by-the-front = told-by-the-front;
  placed = placed;
}
