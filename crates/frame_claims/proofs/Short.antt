-- When writing answers 23, and that reading never does: the checks of each call, one by one.
-- Assumes nothing.
use mathlib.Core.Path.{◌≡◌, refl, sym, ap, ◌∙◌, subst}
use mathlib.Core.Bool.{Bool, true, false, cond}
use mathlib.Core.List.{List}
use mathlib.Core.Logic.{◌≢◌, ◌⊎◌, inl, inr}
use Prim.Native.Nat.{ℕ, ◌*◌, ◌+◌, ◌%◌, ◌≤◌}
use native.Mathlib.Omega.{arith}
use lib.Dec.{leb, eqb}
use lib.ListN.{length, get_or, drop}
use Rattle.refusal.specs.declared.Refusal.TheVariants.{OutOfRange, PacketTooLong, OutputTooShort, ShortForm}
use Rattle.refusal.specs.Numbers.{number_of, check, refusal_number, Verdict}
use Rattle.refusal.specs.Positions.{Checked, fault_number}
use Rattle.refusal.proofs.Numbers.{number-range}
use Rattle.refusal.proofs.Checks.{check-never}
use Rattle.frame_form.specs.declared.Form.{Form}
use Rattle.frame_form.specs.declared.Form.TheVariants.{ShortUplink}
use Rattle.frame_form.specs.Forms.{seg_of, most_of, form_valid, is_long, form_at}
use Rattle.frame_form.specs.Segments.{frame_length}
use Rattle.frame_form.proofs.Forms.{at-short, long-at}
use Rattle.frame_kinds.specs.declared.Found.{Found}
use Rattle.frame_kinds.specs.declared.Found.TheVariants.{Known, Route, Unknown}
use Rattle.frame_kinds.specs.Kinds.{kind_at}
use Rattle.frame_reader.specs.Reading.{found_in, header_length, user_length, read_checks, read_answer_by, read_answer}
use Rattle.frame_writer.specs.Writing.{packet_size, write_verdict, answer_by, places_fit, write_answer_by, write_answer}
use Rattle.frame.specs.declared.Packet.{Packet}
use Rattle.frame.specs.Writing.{written_by, length_of, fits, frame_verdict, write_of}
use Rattle.frame.specs.Reading.{read_by, read_of}
use Rattle.frame.proofs.Numbers.{read-not-short}
use Rattle.frame_claims.specs.Short.{ShortNotWritten, ShortBytesNotWritten}
use Rattle.frame_claims.proofs.Bytes.{written_answer, answer-of}
use Rattle.std.specs.Prelude.{Ok, Err}

-- ---- writing

-- the form is valid; then 1 and 23, before all others
pub by-fit : (b : Bool) (len : ℕ) → written_by (check b OutOfRange (Err ShortForm)) len ≡ Err (cond b ShortForm OutOfRange)
by-fit true len = refl
by-fit false len = refl

in-short : (p : Packet) (user room : ℕ) → write_of ShortUplink p user room ≡ Err (cond (fits ShortUplink p user) ShortForm OutOfRange)
unfolding write_of write_verdict
in-short p user room = by-fit (fits ShortUplink p user) (frame_length (seg_of ShortUplink) (length_of p user))

-- the checks in a long form: 23 is none of them
pub never-long : (form : Form) (fit : Bool) (n room : ℕ) → is_long form ≡ true → refusal_number (write_verdict form fit n room) ≢ 23
unfolding write_verdict
never-long form fit n room long =
    let r = check (leb (frame_length (seg_of form) n) room) OutputTooShort (Ok tt) in
    let m = check (leb n (most_of form)) PacketTooLong r in
    let never_r = check-never 23 (leb (frame_length (seg_of form) n) room) OutputTooShort (Ok tt) (λ e. omega arith) (λ e. omega arith) in
    let never-m = check-never 23 (leb n (most_of form)) PacketTooLong r (λ e. omega arith) never_r in
    let never-l : refusal_number (check (is_long form) ShortForm m) ≢ 23 = subst (λ (b : Bool). refusal_number (check b ShortForm m) ≢ 23) (sym long) never-m in
    let never-f = check-never 23 fit OutOfRange (check (is_long form) ShortForm m) (λ e. omega arith) never-l in
    check-never 23 (form_valid form) OutOfRange (check fit OutOfRange (check (is_long form) ShortForm m)) (λ e. omega arith) never-f

-- a writer's answer has the number of its checks
pub number_by : (v : Verdict) (len : ℕ) → refusal_number (written_by v len) ≡ refusal_number v
number_by (Ok tt) len = refl
number_by (Err why) len = refl

in-long : (form : Form) (p : Packet) (user room : ℕ) → is_long form ≡ true → refusal_number (write_of form p user room) ≢ 23
unfolding write_of
in-long form p user room long e =
    never-long form (fits form p user) (length_of p user) room long
    (sym (number_by (frame_verdict form p user room) (frame_length (seg_of form) (length_of p user))) ∙ e)

pub short-not-written : ShortNotWritten
short-not-written = record { in-short = in-short; in-long = in-long; reading = read-not-short }

-- ---- lent bytes

-- the answer of `write`: 1, or by the checks of writing some packet
abbrev Answered : Form → ℕ → ℕ → Type 0
Answered form room x = (x ≡ 1) ⊎ ((fit : Bool) × (n : ℕ) × (x ≡ answer_by (write_verdict form fit n room) (frame_length (seg_of form) n)))

module _ (form : ℕ) (bytes : List ℕ) (user room : ℕ) where
  by_kind : (found : Found) → Answered (form_at form) room (write_answer_by found form (drop 1 bytes) user room)
  by_kind (Known k) = inr (places_fit (form_at form) k (drop 1 bytes) user, packet_size k user, refl)
  by_kind Route = inl refl
  by_kind Unknown = inl refl

  by_ten : (b : Bool) → Answered (form_at form) room (cond b (write_answer_by (kind_at (get_or bytes 0 0)) form (drop 1 bytes) user room) (number_of OutOfRange))
  by_ten true = by_kind (kind_at (get_or bytes 0 0))
  by_ten false = inl refl

  answered : Answered (form_at form) room (write_answer form bytes user room)
  unfolding write_answer
  answered = by_ten (eqb (length bytes) 10)

-- the checks in the short form
short-checks : (fit : Bool) (n room len : ℕ) → answer_by (write_verdict (form_at 0) fit n room) len ≡ cond fit 23 1
unfolding write_verdict
short-checks fit n room len = ap (λ (f : Form). answer_by (write_verdict f fit n room) len) (at-short 0 refl) ∙ go fit
  where
    go : (b : Bool) → answer_by (check b OutOfRange (Err ShortForm)) len ≡ cond b 23 1
    go true = refl
    go false = refl

-- a packet in the short form
short-answer : (b : Bool) → written_answer (Err (cond b ShortForm OutOfRange)) ≡ cond b 23 1
short-answer true = refl
short-answer false = refl

short-packet : (p : Packet) (user room : ℕ) → written_answer (write_of (form_at 0) p user room) ≡ cond (fits ShortUplink p user) 23 1
short-packet p user room =
    ap (λ (f : Form). written_answer (write_of f p user room)) (at-short 0 refl) ∙ ap written_answer (in-short p user room) ∙ short-answer (fits ShortUplink p user)

one_of : (b : Bool) (x : ℕ) → x ≡ cond b 23 1 → (x ≡ 1) ⊎ (x ≡ 23)
one_of true x e = inr e
one_of false x e = inl e

never-written : (packet : List ℕ) (user room : ℕ) → (write_answer 0 packet user room ≡ 1) ⊎ (write_answer 0 packet user room ≡ 23)
never-written packet user room = go (answered 0 packet user room)
  where
    go : Answered (form_at 0) room (write_answer 0 packet user room) → (write_answer 0 packet user room ≡ 1) ⊎ (write_answer 0 packet user room ≡ 23)
    go (inl e) = inl e
    go (inr (fit, n, e)) = one_of fit _ (e ∙ short-checks fit n room (frame_length (seg_of (form_at 0)) n))

-- the lowest byte of an answer is its number
low_byte : (v : Verdict) (len : ℕ) → answer_by v len % 256 ≡ refusal_number v
low_byte (Ok tt) len = omega arith
low_byte (Err why) len = omega (arith, number-range why)

bytes-long : (form : ℕ) (packet : List ℕ) (user room : ℕ) → 1 ≤ form → write_answer form packet user room % 256 ≢ 23
bytes-long form packet user room long e = go (answered form packet user room)
  where
    go : Answered (form_at form) room (write_answer form packet user room) → ⊥
    go (inl a) = omega (arith, a, e)
    go (inr (fit, n, a)) =
        never-long (form_at form) fit n room (long-at form long)
        (sym (low_byte (write_verdict (form_at form) fit n room) (frame_length (seg_of (form_at form)) n)) ∙ sym (ap (λ (x : ℕ). x % 256) a) ∙ e)

-- the number of a reader's answer, if it is one that a refusal may have
by-places : (b : Bool) (n : ℕ) → cond b (256 * n) (number_of OutputTooShort) % 256 ≢ 23
by-places true n e = omega (arith, e)
by-places false n e = omega (arith, e)

by-checks : (c : Checked) (found : Found) (form : Form) (start user places : ℕ) (frame : List ℕ) → fault_number (read_by c found form frame) ≢ 23
    → read_answer_by c start user places % 256 ≢ 23
by-checks (Ok tt) found form start user places frame h e = by-places (leb 10 places) (start + 256 * user) e
by-checks (Err fault) found form start user places frame h e = h (omega (arith, number-range fault.why, e))

bytes-reading : (form : ℕ) (frame : List ℕ) (places : ℕ) → read_answer form frame places % 256 ≢ 23
unfolding read_answer read_of
bytes-reading form frame places =
    by-checks (read_checks (form_at form) frame) (found_in frame) (form_at form) (header_length (found_in frame))
    (user_length (found_in frame) (form_at form) frame) places frame (read-not-short (form_at form) frame)

pub short-bytes-not-written : ShortBytesNotWritten
short-bytes-not-written = record {
  in-short = λ p user room. answer-of 0 p user room ∙ short-packet p user room;
  never-written = never-written;
  in-long = bytes-long;
  reading = bytes-reading;
}
