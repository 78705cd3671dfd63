-- What a refusal by the checks of reading says of them, and where each check puts its refusal.
-- Assumes nothing.
use mathlib.Core.Path.{◌≡◌, refl, sym, ap}
use mathlib.Core.Bool.{Bool, true, false}
use mathlib.Core.List.{List}
use mathlib.Core.Logic.{◌⊎◌, inl, inr}
use Prim.Native.Nat.{ℕ}
use native.Mathlib.Omega.{arith}
use lib.Dec.{leb, eqb}
use lib.ListN.{length}
use borrow.Author.Tests.{eqb-false, ne_eqb}
use Rattle.refusal.specs.declared.Refusal.{Refusal}
use Rattle.refusal.specs.declared.Refusal.TheVariants.{OutOfRange, Malformed, FormatError, PacketTooLong}
use Rattle.refusal.specs.Positions.{Checked, refused_at, check_at, fault_number, fault_position}
use Rattle.frame_form.specs.declared.Form.{Form}
use Rattle.frame_form.specs.Forms.{seg_of, most_of, form_valid}
use Rattle.frame_form.specs.Segments.{whole_segments}
use Rattle.frame_reader.specs.Reading.{found_in, fault_of, length_in, read_checks}
use Rattle.frame_reader_claims.specs.FirstFault.{Placed}
use Rattle.std.specs.Prelude.{Ok, Err}

-- the four checks, over their tests and positions alone
abbrev four_checks : Bool → Bool → Bool → Bool → ℕ → ℕ → ℕ → Checked
four_checks valid whole right short len fault most =
    check_at valid OutOfRange 0 (check_at whole Malformed len (check_at right FormatError fault (check_at short PacketTooLong most (Ok tt))))

-- 3 comes from the third check alone, after the two before it held
three-from : (a b c d : Bool) (len fault most at : ℕ) → four_checks a b c d len fault most ≡ refused_at FormatError at
    → (a ≡ true) × (b ≡ true) × (c ≡ false) × (at ≡ fault)
three-from false b c d len fault most at e = absurd (omega (arith, ap fault_number e))
three-from true false c d len fault most at e = absurd (omega (arith, ap fault_number e))
three-from true true false d len fault most at e = (refl, refl, refl, sym (ap fault_position e))
three-from true true true false len fault most at e = absurd (omega (arith, ap fault_number e))
three-from true true true true len fault most at e = absurd (omega (arith, ap fault_number e))

-- the refusal, if there is one
abbrev reason_of : Checked → Refusal
reason_of (Ok tt) = FormatError
reason_of (Err fault) = fault.why

-- each check gives its own refusal at its own position
placed-from : (a b c d : Bool) (len fault most : ℕ) (why : Refusal) (at : ℕ) → four_checks a b c d len fault most ≡ refused_at why at
    → ((why ≡ OutOfRange) × (at ≡ 0)) ⊎ (((why ≡ Malformed) × (at ≡ len)) ⊎ (((why ≡ PacketTooLong) × (at ≡ most)) ⊎ (why ≡ FormatError)))
placed-from false b c d len fault most why at e = inl (sym (ap reason_of e), sym (ap fault_position e))
placed-from true false c d len fault most why at e = inr (inl (sym (ap reason_of e), sym (ap fault_position e)))
placed-from true true false d len fault most why at e = inr (inr (inr (sym (ap reason_of e))))
placed-from true true true false len fault most why at e = inr (inr (inl (sym (ap reason_of e), sym (ap fault_position e))))
placed-from true true true true len fault most why at e = inr (inr (inr (sym (ap reason_of e))))

-- reading is refused with 3: the form is valid, the frame is whole segments, and its first fault,
-- which is not the frame's length, is the position
pub record FormatRefusal (form : Form) (frame : List ℕ) (at : ℕ) : Type 0 where
  pub valid : form_valid form ≡ true
  pub whole : whole_segments (seg_of form) (length frame) ≡ true
  pub same : at ≡ fault_of (found_in frame) form frame
  pub fault : fault_of (found_in frame) form frame ≡ length frame → ⊥

pub three-says : (form : Form) (frame : List ℕ) (at : ℕ) → read_checks form frame ≡ refused_at FormatError at → FormatRefusal form frame at
unfolding read_checks
three-says form frame at e =
    let whole = whole_segments (seg_of form) (length frame) in
    let fault = fault_of (found_in frame) form frame in
    let short = leb (length_in (found_in frame) form frame) (most_of form) in
    let t = three-from (form_valid form) whole (eqb fault (length frame)) short (length frame) fault (most_of form) at e in
    record { valid = t.0; whole = t.1; same = t.3; fault = eqb-false fault (length frame) t.2 }

pub three-given : (form : Form) (frame : List ℕ) → form_valid form ≡ true → whole_segments (seg_of form) (length frame) ≡ true
    → (fault_of (found_in frame) form frame ≡ length frame → ⊥) → read_checks form frame ≡ refused_at FormatError (fault_of (found_in frame) form frame)
unfolding read_checks
three-given form frame valid whole fault = rw (valid, whole, ne_eqb (fault_of (found_in frame) form frame) (length frame) fault)

pub placed : (form : Form) (frame : List ℕ) (why : Refusal) (at : ℕ) → read_checks form frame ≡ refused_at why at → Placed form frame why at
unfolding read_checks
placed form frame why at e =
    let whole = whole_segments (seg_of form) (length frame) in
    let fault = fault_of (found_in frame) form frame in
    let short = leb (length_in (found_in frame) form frame) (most_of form) in
    placed-from (form_valid form) whole (eqb fault (length frame)) short (length frame) fault (most_of form) why at e
