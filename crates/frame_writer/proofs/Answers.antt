-- What the calls answer, for any kind.
-- Assumes nothing.
use mathlib.Core.Path.{◌≡◌, refl, sym, ap, ap₂, ◌∙◌}
use mathlib.Core.Bool.{Bool, cond}
use mathlib.Core.List.{List, ◌++◌}
use Prim.Native.Nat.{ℕ, ◌+◌, ◌*◌}
use native.Mathlib.Omega.{arith}
use lib.ListN.{length, get_or, take, drop, replicate}
use borrow.Author.Tests.{eq-eqb, ne_eqb}
use Rattle.lists.specs.Lists.{over}
use Rattle.frame_fields.specs.Rows.{bytes_of}
use Rattle.frame_fields.specs.Layouts.{header_number}
use Rattle.frame_fields.proofs.Rows.{bytes-length}
use Rattle.frame_form.specs.Forms.{long_segment, seg_of, form_at}
use Rattle.frame_form.specs.Segments.{padding, last_used, frame_length}
use Rattle.frame_form.specs.Frames.{framed}
use Rattle.frame_form.proofs.Frames.{framed-length}
use Rattle.frame_kinds.specs.declared.Kind.{Kind}
use Rattle.frame_kinds.specs.declared.Found.{Found}
use Rattle.frame_kinds.specs.declared.Found.TheVariants.{Known}
use Rattle.frame_kinds.specs.Kinds.{size_of, layout_of, kind_at, value_count}
use Rattle.frame_writer.specs.declared.Made.{Made}
use Rattle.frame_writer.specs.Parts.{Heading}
use Rattle.frame_writer.specs.Writing.{frame_by, write_verdict, output_by, answer_by, places_fit, write_answer_by, write_answer, write_bytes_by, write_bytes}
use Rattle.frame_writer.proofs.Verdicts.{passed}
use Rattle.refusal.specs.Numbers.{Verdict}
use Rattle.std.specs.Prelude.{Ok, Err}

-- the lent output is the same for two frames that are equal if one is written
same-output : (v : Verdict) (a b out : List ℕ) → (v ≡ Ok tt → a ≡ b) → output_by v a out ≡ output_by v b out
same-output (Ok tt) a b out e = ap (λ (frame : List ℕ). over frame out) (e refl)
same-output (Err why) a b out e = refl

-- a packet of kind k, written with the header that m says
module _ (form : ℕ) (k : Kind) (places user out : List ℕ) (m : Made) (h : Heading (form_at form) k places (length user) m) where
  -- the packet's length, if its header has this one
  abbrev whole : ℕ → ℕ
  whole size = size + length user

  -- the checks, if this is their test and the header's length
  abbrev verdict : Bool → ℕ → Verdict
  verdict fits size = write_verdict (form_at form) fits (whole size) (length out)

  -- the header's number with LV
  abbrev number : ℕ → ℕ
  number size = m.number + cond m.lv (last_used long_segment (whole size)) 0

  abbrev frame : ℕ → ℕ → List ℕ
  frame size x = framed (seg_of (form_at form)) (bytes_of size x) user

  -- if the checks are passed, it is the number of the definitions
  same-frame : verdict (places_fit (form_at form) k places (length user)) (size_of k) ≡ Ok tt
      → frame (size_of k) (number (size_of k)) ≡ frame_by (form_at form) k (take (value_count k) places) user
  unfolding frame_by
  same-frame done =
      let p = passed (form_at form) (places_fit (form_at form) k places (length user)) (whole (size_of k)) (length out) done in
      let u = last_used long_segment (whole (size_of k)) in
      let l = layout_of (form_at form) k in
      ap (frame (size_of k)) (h.number (h.fits ∙ p.fit) u)
      ∙ ap (λ (seg : ℕ). frame (size_of k) (header_number l (last_used seg (whole (size_of k))) (take (value_count k) places))) (sym p.long)

  pub wrote : (r : ℕ) (last : List ℕ) → r ≡ answer_by (verdict m.fits m.size) (frame_length (seg_of (form_at form)) (whole m.size))
      → last ≡ output_by (verdict m.fits m.size) (frame m.size (number m.size)) out
      → (r ≡ write_answer_by (Known k) form places (length user) (length out)) × (last ≡ write_bytes_by (Known k) form places user out)
  wrote r last er el = (
    er ∙ ap₂ (λ (f : Bool) (s : ℕ). answer_by (verdict f s) (frame_length (seg_of (form_at form)) (whole s))) h.fits h.size,
    el
        ∙ ap₂ (λ (f : Bool) (s : ℕ). output_by (verdict f s) (frame s (number s)) out) h.fits h.size
        ∙ same-output (verdict (places_fit (form_at form) k places (length user)) (size_of k)) (frame (size_of k) (number (size_of k)))
        (frame_by (form_at form) k (take (value_count k) places) user) out same-frame,
  )

-- a packet of ten bytes, and of another length
module _ (form : ℕ) (bytes : List ℕ) where
  pub ten-answer : (found : Found) (user room : ℕ) → length bytes ≡ 10 → found ≡ kind_at (get_or bytes 0 0)
      → write_answer_by found form (drop 1 bytes) user room ≡ write_answer form bytes user room
  unfolding write_answer
  ten-answer found user room e ek = rw (eq-eqb (length bytes) 10 e, ← ek)

  pub ten-bytes : (found : Found) (user out : List ℕ) → length bytes ≡ 10 → found ≡ kind_at (get_or bytes 0 0)
      → write_bytes_by found form (drop 1 bytes) user out ≡ write_bytes form bytes user out
  unfolding write_bytes
  ten-bytes found user out e ek = rw (eq-eqb (length bytes) 10 e, ← ek)

  pub other-answer : (user room : ℕ) → (length bytes ≡ 10 → ⊥) → 1 ≡ write_answer form bytes user room
  unfolding write_answer
  other-answer user room e = rw (ne_eqb (length bytes) 10 e)

  pub other-bytes : (user out : List ℕ) → (length bytes ≡ 10 → ⊥) → out ≡ write_bytes form bytes user out
  unfolding write_bytes
  other-bytes user out e = rw (ne_eqb (length bytes) 10 e)

-- ---- a frame of any header and any bytes after it

-- written, with the padding of the form
pub put-done : (v : Verdict) (seg size number pad : ℕ) (user out last : List ℕ) → v ≡ Ok tt → pad ≡ padding seg (size + length user)
    → last ≡ (bytes_of size number ++ (user ++ replicate pad 0)) ++ drop (size + length user + pad) out
    → (256 * (size + length user + pad) ≡ answer_by v (frame_length seg (size + length user))) × (last ≡ output_by v (framed seg (bytes_of size number) user) out)
unfolding framed
put-done v seg size number pad user out last ok e el =
    let h = bytes_of size number in
    let n = size + length user in
    let frame = framed seg h user in
    let wide : length h ≡ size = bytes-length size number in
    let same : h ++ (user ++ replicate pad 0) ≡ frame =
    ap (λ (p : ℕ). h ++ (user ++ replicate p 0)) (e ∙ ap (λ (k : ℕ). padding seg (k + length user)) (sym wide)) in
    let long : n + pad ≡ length frame = ap (λ (p : ℕ). n + p) e ∙ sym (framed-length seg size h user wide) in (
      omega (arith, e) ∙ sym (ap (λ (w : Verdict). answer_by w (frame_length seg n)) ok),
      el ∙ ap (λ (l : List ℕ). l ++ drop (n + pad) out) same ∙ ap (λ (k : ℕ). frame ++ drop k out) long ∙ sym (ap (λ (w : Verdict). output_by w frame out) ok),
    )
