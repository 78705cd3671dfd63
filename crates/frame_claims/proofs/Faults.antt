-- The position of a fault, of the calls, from that of the checks: a call's answer tells which check
-- failed, and `frame_reader_claims` where.
-- Assumes nothing.
use mathlib.Core.Path.{◌≡◌, refl, sym, ap, ◌∙◌}
use mathlib.Core.Bool.{Bool, true, false, cond}
use mathlib.Core.List.{List}
use mathlib.Core.Logic.{◌⊎◌, inl, inr}
use Prim.Native.Nat.{ℕ, ◌+◌, ◌*◌, ◌%◌}
use native.Mathlib.Omega.{arith}
use lib.Dec.{leb}
use lib.ListN.{length}
use Rattle.refusal.specs.declared.Refusal.{Refusal}
use Rattle.refusal.specs.declared.Refusal.TheVariants.{FormatError, OutputTooShort}
use Rattle.refusal.specs.Numbers.{number_of, refusal_at}
use Rattle.refusal.specs.Positions.{Checked, refused_at, fault_position}
use Rattle.refusal.proofs.Numbers.{number-range, number-back}
use Rattle.frame_form.specs.declared.Form.{Form}
use Rattle.frame_form.specs.Forms.{most_of, form_at}
use Rattle.frame_kinds.specs.declared.Found.{Found}
use Rattle.frame_kinds.specs.declared.Found.TheVariants.{Known, Route, Unknown}
use Rattle.frame_reader.specs.Reading.{found_in, header_length, user_length, read_checks, read_answer_by, read_answer, fault_answer}
use Rattle.frame_reader_claims.specs.FirstFault.{IsFirst, Placed}
use Rattle.frame_reader_claims.proofs.FirstFault.{first-fault}
use Rattle.frame.specs.declared.Contents.{Contents}
use Rattle.frame.specs.Reading.{read_by, read_of}
use Rattle.frame.proofs.Frames.{never-unknown}
use Rattle.frame_claims.specs.Faults.{FaultOfTyped, FaultOfBytes, FaultOfCalls}
use Rattle.std.specs.Prelude.{Ok, Err}

-- ---- the typed call

-- a refusal of the call is one of the checks
same-refusal : (w why : Refusal) (a at : ℕ) → refused_at {T = Contents} w a ≡ refused_at {T = Contents} why at → refused_at {T = Unit} w a ≡ refused_at {T = Unit} why at
same-refusal w why a at e = cc

checks-of : (form : Form) (frame : List ℕ) (why : Refusal) (at : ℕ) → read_of form frame ≡ refused_at why at → read_checks form frame ≡ refused_at why at
unfolding read_of
checks-of form frame why at e = go (read_checks form frame) (found_in frame) refl refl e
  where
    go : (c : Checked) (f : Found) → read_checks form frame ≡ c → found_in frame ≡ f → read_by c f form frame ≡ refused_at why at → read_checks form frame ≡ refused_at why at
    go (Err fault) f ec ef h = ec ∙ same-refusal fault.why why fault.at at h
    go (Ok tt) (Known k) ec ef h = let z : ◌≡◌ {A = ℕ} 0 1 = cc in absurd (omega arith)
    go (Ok tt) Route ec ef h = let z : ◌≡◌ {A = ℕ} 0 1 = cc in absurd (omega arith)
    go (Ok tt) Unknown ec ef h = absurd (never-unknown form frame ec ef)

read-of : (form : Form) (frame : List ℕ) (why : Refusal) (at : ℕ) → read_checks form frame ≡ refused_at why at → read_of form frame ≡ refused_at why at
unfolding read_of
read-of form frame why at e = ap (λ (c : Checked). read_by c (found_in frame) form frame) e

typed : FaultOfTyped
typed = record {
  named-is-first = λ form frame at e. first-fault.named-is-first form frame at (checks-of form frame FormatError at e);
  told-by-the-front = λ form frame other at are also e len front.
      read-of form other FormatError at (first-fault.told-by-the-front form frame other at are also (checks-of form frame FormatError at e) len front);
}

-- ---- the calls on lent bytes

-- a refusal with the number of another is that one
same_number : (why other : Refusal) → number_of why ≡ number_of other → why ≡ other
same_number why other e = sym (number-back why) ∙ ap refusal_at e ∙ number-back other

-- the number and the position of a refusal go together
record Told (form : Form) (frame : List ℕ) (number at : ℕ) : Type 0 where
  some : number ≡ 0 → ⊥
  one : number ≡ 1 → at ≡ 0
  two : number ≡ 2 → at ≡ length frame
  five : number ≡ 5 → ⊥
  thirteen : number ≡ 13 → at ≡ most_of form

told : (form : Form) (frame : List ℕ) (why : Refusal) (at : ℕ) → Placed form frame why at → Told form frame (number_of why % 256) at
told form frame why at (inl (e, p)) =
    let n = ap number_of e in
    record { some = λ h. omega (arith, n, h); one = λ h. p; two = λ h. absurd (omega (arith, n, h)); five = λ h. omega (arith, n, h); thirteen = λ h. absurd (omega (arith, n, h)) }
told form frame why at (inr (inl (e, p))) =
    let n = ap number_of e in
    record { some = λ h. omega (arith, n, h); one = λ h. absurd (omega (arith, n, h)); two = λ h. p; five = λ h. omega (arith, n, h); thirteen = λ h. absurd (omega (arith, n, h)) }
told form frame why at (inr (inr (inl (e, p)))) =
    let n = ap number_of e in
    record { some = λ h. omega (arith, n, h); one = λ h. absurd (omega (arith, n, h)); two = λ h. absurd (omega (arith, n, h)); five = λ h. omega (arith, n, h); thirteen = λ h. p }
told form frame why at (inr (inr (inr e))) =
    let n = ap number_of e in
    record { some = λ h. omega (arith, n, h); one = λ h. absurd (omega (arith, n, h)); two = λ h. absurd (omega (arith, n, h)); five = λ h. omega (arith, n, h); thirteen = λ h. absurd (omega (arith, n, h)) }

-- an answer of `read` once all checks passed
open-number : (b : Bool) (n : ℕ) → let x = cond b (256 * n) (number_of OutputTooShort) % 256 in (x ≡ 0) ⊎ (x ≡ 5)
open-number true n = inl (omega arith)
open-number false n = inr refl

-- the answer of `read` and that of `fault`, by the checks
abbrev Answers : Form → List ℕ → ℕ → ℕ → Type 0
Answers form frame number at =
    ((at ≡ 0) × ((number ≡ 0) ⊎ (number ≡ 5))) ⊎ (Told form frame number at × (number ≡ 3 → IsFirst form frame at))

module _ (form : ℕ) (frame : List ℕ) (places : ℕ) where
  by-checks : (c : Checked) → read_checks (form_at form) frame ≡ c
      → Answers (form_at form) frame (read_answer_by c (header_length (found_in frame)) (user_length (found_in frame) (form_at form) frame) places % 256) (fault_position c)
  by-checks (Ok tt) e = inl (refl, open-number (leb 10 places) (header_length (found_in frame) + 256 * user_length (found_in frame) (form_at form) frame))
  by-checks (Err fault) e = inr (
    told (form_at form) frame fault.why fault.at (first-fault.placed (form_at form) frame fault.why fault.at e),
    λ h.
        let why = fault.why in
        let at = fault.at in
        let three : why ≡ FormatError = same_number why FormatError (omega (arith, number-range why, h)) in
        first-fault.named-is-first (form_at form) frame at (e ∙ ap (λ (w : Refusal). refused_at w at) three),
  )

  answers : Answers (form_at form) frame (read_answer form frame places % 256) (fault_answer form frame)
  unfolding read_answer fault_answer
  answers = by-checks (read_checks (form_at form) frame) refl

  of-bytes : FaultOfBytes form frame places
  of-bytes = go answers
    where
      go : Answers (form_at form) frame (read_answer form frame places % 256) (fault_answer form frame) → FaultOfBytes form frame places
      go (inl (z, inl n)) = record {
        of-0 = λ h. z;
        of-1 = λ h. z;
        of-2 = λ h. absurd (omega (arith, n, h));
        of-3 = λ h. absurd (omega (arith, n, h));
        of-5 = λ h. z;
        of-13 = λ h. absurd (omega (arith, n, h));
      }
      go (inl (z, inr n)) = record {
        of-0 = λ h. z;
        of-1 = λ h. z;
        of-2 = λ h. absurd (omega (arith, n, h));
        of-3 = λ h. absurd (omega (arith, n, h));
        of-5 = λ h. z;
        of-13 = λ h. absurd (omega (arith, n, h));
      }
      go (inr (t, first)) = record {
        of-0 = λ h. absurd (t.some h);
        of-1 = t.one;
        of-2 = t.two;
        of-3 = first;
        of-5 = λ h. absurd (t.five h);
        of-13 = t.thirteen;
      }

pub fault-of-calls : FaultOfCalls
fault-of-calls = record { typed = typed; of-bytes = of-bytes }
