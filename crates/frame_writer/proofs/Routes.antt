-- The length of a ROUTE packet, its checks and its frame.
-- Assumes nothing.
use mathlib.Core.Path.{◌≡◌, refl, sym, ap, ◌∙◌}
use mathlib.Core.Bool.{Bool, true, false, cond}
use mathlib.Core.List.{List, [], ◌∷◌, ◌++◌}
use mathlib.Core.Logic.{inl, inr}
use Prim.Native.Nat.{ℕ, ◌+◌, ◌*◌}
use native.Mathlib.Omega.{arith}
use lib.Dec.{eqb}
use lib.ListN.{length, drop, replicate, length-append}
use borrow.Author.Tests.{lt-leb}
use Rattle.refusal.specs.Numbers.{refusal_number, Verdict}
use Rattle.frame_fields.specs.Rows.{bytes_of}
use Rattle.frame_fields.specs.Layouts.{header_number}
use Rattle.frame_form.specs.declared.Form.{Form}
use Rattle.frame_form.specs.Forms.{seg_of, most_of, form_valid, form_at}
use Rattle.frame_form.specs.Segments.{padding, frame_length}
use Rattle.frame_form.specs.Frames.{framed}
use Rattle.frame_form.proofs.Forms.{most-range}
use Rattle.frame_kinds.specs.Kinds.{route_layout}
use Rattle.frame_writer.specs.Writing.{write_verdict, output_by, answer_by}
use Rattle.frame_writer.specs.Routes.{route_after, route_length, route_fits, route_frame, route_verdict, route_answer, route_bytes}
use Rattle.frame_writer.specs.Parts.{SameOrLong}
use Rattle.frame_writer.proofs.Verdicts.{passed, refused}
use Rattle.frame_writer.proofs.Answers.{put-done}
use Rattle.std.specs.Prelude.{Ok}

-- ---- the length

-- what follows RTL is as long
pub after-length : (o : ℕ) (table extra : List ℕ) → 2 + length (route_after o table extra) ≡ route_length o (length table) (length extra)
after-length o table extra = go (eqb o 1) refl
  where
    go : (b : Bool) → eqb o 1 ≡ b → 2 + length (table ++ cond (eqb o 1) (length extra ∷ extra) []) ≡ 2 + (length table + cond (eqb o 1) (1 + length extra) 0)
    go true q = rw q (ap (λ (x : ℕ). 2 + x) (length-append table (length extra ∷ extra) ∙ omega arith))
    go false q = rw q (ap (λ (x : ℕ). 2 + x) (length-append table []))

-- ---- the checks

-- a packet over every largest one is refused alike, whatever its length
pub long-alike : (form : Form) (fits : Bool) (r n room : ℕ) → SameOrLong r n → write_verdict form fits r room ≡ write_verdict form fits n room
unfolding write_verdict
long-alike form fits r n room (inl e) = ap (λ (x : ℕ). write_verdict form fits x room) e
long-alike form fits r n room (inr p) = go (form_valid form) refl
  where
    go : (b : Bool) → form_valid form ≡ b → write_verdict form fits r room ≡ write_verdict form fits n room
    go false e = rw e
    go true e =
        let most = (most-range form e).1 in
        rw (e, lt-leb r (most_of form) (omega (arith, p.0, most)), lt-leb n (most_of form) (omega (arith, p.1, most)))

-- ---- the frame

-- the header as a number
pub route-header : (o i t : ℕ) → 0x7000 + 512 * o + 256 * i + t ≡ header_number route_layout 0 (o ∷ i ∷ t ∷ [])
route-header o i t = omega arith

module _ (form o i : ℕ) (table extra out : List ℕ) (fits : Bool) (r : ℕ) (ef : fits ≡ route_fits o i (length extra)) (long : SameOrLong r (route_length o (length table) (length extra))) where
  abbrev said : Verdict
  said = route_verdict (form_at form) o i (length table) (length extra) (length out)

  same : write_verdict (form_at form) fits r (length out) ≡ said
  same =
      long-alike (form_at form) fits r (route_length o (length table) (length extra)) (length out) long
      ∙ ap (λ (b : Bool). write_verdict (form_at form) b (route_length o (length table) (length extra)) (length out)) ef

  -- a refusal
  pub route-refused : (number : ℕ) → number ≡ refusal_number (write_verdict (form_at form) fits r (length out)) → (number ≡ 0 → ⊥)
      → (number ≡ route_answer form o i (length table) (length extra) (length out)) × (out ≡ route_bytes form o i table extra out)
  unfolding route_answer route_bytes
  route-refused number e some = refused said number _ (route_frame (form_at form) o i table extra) out (e ∙ ap refusal_number same) some

  -- the length, if it passed
  pub route-fits : write_verdict (form_at form) fits r (length out) ≡ Ok tt → r ≡ 2 + length (route_after o table extra)
  route-fits ok = go long
    where
      go : SameOrLong r (route_length o (length table) (length extra)) → r ≡ 2 + length (route_after o table extra)
      go (inl e) = e ∙ sym (after-length o table extra)
      go (inr p) = absurd (omega (arith, p.0, (passed (form_at form) fits r (length out) ok).few))

  pub route-done : (number pad : ℕ) (last : List ℕ) → write_verdict (form_at form) fits r (length out) ≡ Ok tt → pad ≡ padding (seg_of (form_at form)) r
      → number ≡ header_number route_layout 0 (o ∷ i ∷ length table ∷ [])
      → last ≡ (bytes_of 2 number ++ (route_after o table extra ++ replicate pad 0)) ++ drop (2 + length (route_after o table extra) + pad) out
      → (256 * (r + pad) ≡ route_answer form o i (length table) (length extra) (length out)) × (last ≡ route_bytes form o i table extra out)
  unfolding route_answer route_bytes route_frame
  route-done number pad last ok ep en el =
      let n = route-fits ok in
      let seg = seg_of (form_at form) in
      let d = put-done said seg 2 number pad (route_after o table extra) out last (sym same ∙ ok) (ep ∙ ap (padding seg) n) el in (
        ap (λ (x : ℕ). 256 * (x + pad)) n ∙ d.0 ∙ ap (λ (x : ℕ). answer_by said (frame_length seg x)) (after-length o table extra),
        d.1 ∙ ap (λ (x : ℕ). output_by said (framed seg (bytes_of 2 x) (route_after o table extra)) out) en,
      )
