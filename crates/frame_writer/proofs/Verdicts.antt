-- The checks of writing, case by case: the number of each refusal, and what holds once all are
-- passed.
-- Assumes nothing.
use mathlib.Core.Path.{◌≡◌, refl, sym, ap, ◌∙◌}
use mathlib.Core.Bool.{Bool, true, false, ◌&&◌}
use mathlib.Core.List.{List}
use Prim.Native.Nat.{ℕ, ◌+◌, ◌<◌, ◌≤◌}
use native.Mathlib.Omega.{arith}
use lib.Dec.{leb}
use borrow.Author.Tests.{leb-true, le-leb, lt-leb}
use Rattle.refusal.specs.declared.Refusal.TheVariants.{OutOfRange, PacketTooLong, OutputTooShort, ShortForm}
use Rattle.refusal.specs.Numbers.{check, refusal_number, Verdict}
use Rattle.refusal.proofs.Checks.{check_done, both_true}
use Rattle.refusal.proofs.Numbers.{number-range}
use Rattle.frame_form.specs.declared.Form.{Form}
use Rattle.frame_form.specs.Forms.{long_segment, seg_of, most_of, form_valid, is_long, form_at}
use Rattle.frame_form.specs.Segments.{padding, frame_length}
use Rattle.frame_form.proofs.Forms.{at-short, long-at, long-segment, segment-long, most-range}
use Rattle.frame_writer.specs.Writing.{write_verdict, output_by, answer_by}
use Rattle.std.specs.Prelude.{Ok, Err}

-- ---- the number of a verdict, by the tests that lead to it

module _ (form : ℕ) (fits : Bool) (n room : ℕ) where
  no-form : form_valid (form_at form) ≡ false → 1 ≡ refusal_number (write_verdict (form_at form) fits n room)
  unfolding write_verdict
  no-form e = rw e

  no-fit : form_valid (form_at form) ≡ true → fits ≡ false → 1 ≡ refusal_number (write_verdict (form_at form) fits n room)
  unfolding write_verdict
  no-fit e f = rw (e, f)

  pub unfit : (form_valid (form_at form) && fits) ≡ false → 1 ≡ refusal_number (write_verdict (form_at form) fits n room)
  unfit e = go (form_valid (form_at form)) fits refl refl e
    where
      go : (v f : Bool) → form_valid (form_at form) ≡ v → fits ≡ f → (v && f) ≡ false → 1 ≡ refusal_number (write_verdict (form_at form) fits n room)
      go true true ev ef h = let z : ◌≡◌ {A = ℕ} 0 1 = cc in absurd (omega arith)
      go true false ev ef h = no-fit ev ef
      go false f ev ef h = no-form ev

  module _ (fit : (form_valid (form_at form) && fits) ≡ true) where
    valid : form_valid (form_at form) ≡ true
    valid = (both_true (form_valid (form_at form)) fits fit).0

    ok : fits ≡ true
    ok = (both_true (form_valid (form_at form)) fits fit).1

    pub short : form ≡ 0 → 23 ≡ refusal_number (write_verdict (form_at form) fits n room)
    unfolding write_verdict
    short e = rw (valid, ok, at-short form e)

    pub most-few : most_of (form_at form) ≤ 160
    most-few = (most-range (form_at form) valid).1

    module _ (z : form ≡ 0 → ⊥) where
      long : is_long (form_at form) ≡ true
      long = long-at form (omega (arith, z))

      pub large : most_of (form_at form) < n → 13 ≡ refusal_number (write_verdict (form_at form) fits n room)
      unfolding write_verdict
      large h = rw (valid, ok, long, lt-leb n (most_of (form_at form)) h)

      -- the frame's length, by the padding of a long form
      whole : (pad : ℕ) → pad ≡ padding long_segment n → frame_length (seg_of (form_at form)) n ≡ n + pad
      whole pad e = ap (λ (seg : ℕ). n + padding seg n) (segment-long form z) ∙ ap (λ (p : ℕ). n + p) (sym e)

      module _ (small : n ≤ most_of (form_at form)) (pad : ℕ) (padded : pad ≡ padding long_segment n) where
        pub cramped : room < n + pad → 5 ≡ refusal_number (write_verdict (form_at form) fits n room)
        unfolding write_verdict
        cramped h =
            rw (valid, ok, long, le-leb n (most_of (form_at form)) small, lt-leb (frame_length (seg_of (form_at form)) n) room (omega (arith, whole pad padded)))

        pub passes : n + pad ≤ room → 0 ≡ refusal_number (write_verdict (form_at form) fits n room)
        unfolding write_verdict
        passes h =
            rw (valid, ok, long, le-leb n (most_of (form_at form)) small, le-leb (frame_length (seg_of (form_at form)) n) room (omega (arith, whole pad padded)))

-- ---- the verdict by its number

pub number-done : (v : Verdict) → refusal_number v ≡ 0 → v ≡ Ok tt
number-done (Ok tt) e = refl
number-done (Err why) e = absurd (omega (arith, (number-range why).0))

-- what passing the checks means
pub record Accepted (form : Form) (fits : Bool) (n room : ℕ) : Type 0 where
  pub good : form_valid form ≡ true
  pub fit : fits ≡ true
  pub long : is_long form ≡ true
  pub most : n ≤ most_of form
  pub room-enough : frame_length (seg_of form) n ≤ room

pub accepted : (form : Form) (fits : Bool) (n room : ℕ) → write_verdict form fits n room ≡ Ok tt → Accepted form fits n room
unfolding write_verdict
accepted form fits n room e =
    let r = check (leb (frame_length (seg_of form) n) room) OutputTooShort (Ok tt) in
    let m = check (leb n (most_of form)) PacketTooLong r in
    let l = check (is_long form) ShortForm m in
    let a = check_done (form_valid form) OutOfRange (check fits OutOfRange l) e in
    let b = check_done fits OutOfRange l a.1 in
    let f = check_done (is_long form) ShortForm m b.1 in
    let c = check_done (leb n (most_of form)) PacketTooLong r f.1 in
    let d = check_done (leb (frame_length (seg_of form) n) room) OutputTooShort (Ok tt) c.1 in
    record { good = a.0; fit = b.0; long = f.0; most = leb-true n (most_of form) c.0; room-enough = leb-true (frame_length (seg_of form) n) room d.0 }

pub accepts : (form : Form) (fits : Bool) (n room : ℕ) → Accepted form fits n room → write_verdict form fits n room ≡ Ok tt
unfolding write_verdict
accepts form fits n room a = rw (a.good, a.fit, a.long, le-leb n (most_of form) a.most, le-leb (frame_length (seg_of form) n) room a.room-enough)

-- so a packet that passes fits its fields, has the segments of a long form, is short, and has room
pub record Passed (form : Form) (fits : Bool) (n out : ℕ) : Type 0 where
  pub fit : fits ≡ true
  pub long : seg_of form ≡ long_segment
  pub few : n ≤ 160
  pub room : frame_length (seg_of form) n ≤ out

pub passed : (form : Form) (fits : Bool) (n room : ℕ) → write_verdict form fits n room ≡ Ok tt → Passed form fits n room
passed form fits n room e =
    let a = accepted form fits n room e in
    record { fit = a.fit; long = long-segment form a.long; few = omega (arith, a.most, (most-range form a.good).1); room = a.room-enough }

-- ---- answers

pub refused : (v : Verdict) (r len : ℕ) (frame out : List ℕ) → r ≡ refusal_number v → (r ≡ 0 → ⊥) → (r ≡ answer_by v len) × (out ≡ output_by v frame out)
refused (Ok tt) r len frame out e z = absurd (z e)
refused (Err why) r len frame out e z = (omega (arith, e), refl)
