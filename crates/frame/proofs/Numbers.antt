-- The number, the position and the values of each answer, from the answer itself: what the further
-- clauses of the public calls say.
-- Assumes nothing.
use mathlib.Core.Path.{◌≡◌, refl, sym, ap, ◌∙◌, subst}
use mathlib.Core.Bool.{Bool, true, false, cond}
use mathlib.Core.List.{List, [], ◌∷◌}
use mathlib.Core.Logic.{◌≢◌}
use Prim.Native.Nat.{ℕ, ◌+◌, ◌-◌, ◌/◌, ◌%◌, ◌^◌}
use native.Mathlib.Omega.{arith}
use lib.Dec.{leb, ltb, eqb}
use lib.ListN.{length, get_or}
use borrow.Author.Tests.{lt-ltb}
use Rattle.refusal.specs.declared.Refusal.TheVariants.{OutOfRange, Malformed, FormatError, PacketTooLong}
use Rattle.refusal.specs.Numbers.{value_by, refusal_number, Verdict}
use Rattle.refusal.specs.Positions.{Checked, check_at, fault_number}
use Rattle.refusal.proofs.Checks.{at-never}
use Rattle.little.specs.Little.{flag}
use Rattle.frame_fields.specs.Rows.{number_in}
use Rattle.frame_form.specs.declared.Form.{Form}
use Rattle.frame_form.specs.Forms.{seg_of, most_of, form_valid}
use Rattle.frame_form.specs.Segments.{frame_length, whole_segments}
use Rattle.frame_kinds.specs.declared.Found.{Found}
use Rattle.frame_kinds.specs.declared.Found.TheVariants.{Known, Route, Unknown}
use Rattle.frame_kinds.specs.Kinds.{layout_of, route_layout}
use Rattle.frame_reader.specs.Faults.{packet_length}
use Rattle.frame_reader.specs.Reading.{found_in, fault_of, length_in, user_length, read_checks}
use Rattle.frame.specs.declared.Packet.{Packet}
use Rattle.frame.specs.Writing.{written_bytes, length_of, frame_verdict, written_by, write_of, write_output}
use Rattle.frame_writer.specs.Routes.{route_length}
use Rattle.frame.specs.Routes.{route_said, write_route_of, write_route_output}
use Rattle.std.specs.Prelude.{is_some}
use Rattle.frame.specs.Reading.{after_table, extra_of, read_by, read_of, ReadSays}
use Rattle.frame.proofs.KindLaws.{bit-read, kind-made, values-made}
use Rattle.frame.proofs.OneLayout.{free_in, free-in-range}
use Rattle.frame.proofs.Frames.{never-unknown}
use Rattle.frame.specs.Packets.{Read}
use Rattle.std.specs.Prelude.{Result, Ok, Err}
use Rattle.refusal.specs.declared.Refusal.{Refusal}

-- ---- writing

written-by : (v : Verdict) (len : ℕ) (r : Result ℕ Refusal) → r ≡ written_by v len → (refusal_number r ≡ refusal_number v) × (written_bytes r ≡ value_by v len)
written-by (Ok tt) len r e = (ap refusal_number e, ap written_bytes e)
written-by (Err why) len r e = (ap refusal_number e, ap written_bytes e)

pub write-numbers : (form : Form) (p : Packet) (user out last : List ℕ) (r : Result ℕ Refusal)
    → (r ≡ write_of form p (length user) (length out)) × (last ≡ write_output form p user out)
    → (r ≡ write_of form p (length user) (length out))
    × ((last ≡ write_output form p user out)
    × ((refusal_number r ≡ refusal_number (frame_verdict form p (length user) (length out)))
    × (written_bytes r ≡ value_by (frame_verdict form p (length user) (length out)) (frame_length (seg_of form) (length_of p (length user))))))
unfolding write_of
write-numbers form p user out last r e =
    (e.0, (e.1, written-by (frame_verdict form p (length user) (length out)) (frame_length (seg_of form) (length_of p (length user))) r e.0))

pub route-numbers : (form : Form) (optional initial : Bool) (table extra out last : List ℕ) (r : Result ℕ Refusal)
    → (r ≡ write_route_of form optional initial (length table) (length extra) (length out)) × (last ≡ write_route_output form optional initial table extra out)
    → (r ≡ write_route_of form optional initial (length table) (length extra) (length out))
    × ((last ≡ write_route_output form optional initial table extra out)
    × ((refusal_number r ≡ refusal_number (route_said form optional initial (length table) (length extra) (length out)))
    × (written_bytes r ≡ value_by (route_said form optional initial (length table) (length extra) (length out)) (frame_length (seg_of form) (route_length (flag optional) (length table) (length extra))))))
unfolding write_route_of
route-numbers form optional initial table extra out last r e =
    (e.0, (e.1, written-by (route_said form optional initial (length table) (length extra) (length out)) (frame_length (seg_of form) (route_length (flag optional) (length table) (length extra))) r e.0))

-- ---- reading

-- the length of what follows RTL, from the two strings
two-lengths : (b : Bool) (t o n : ℕ) → n ≡ cond b (2 + t + 1 + o) (2 + t) → t + after_table (extra_of b t (n - 2)) ≡ n - 2
two-lengths false t o n e = omega (arith, e)
two-lengths true t o n e =
    let more : ltb t (n - 2) ≡ true = lt-ltb t (n - 2) (omega (arith, e)) in
    rw more (omega (arith, e))

-- there is optional data if OF is set
pub of-told : (b : Bool) (t n : ℕ) → is_some (extra_of b t n) ≡ b
of-told true t n = refl
of-told false t n = refl

-- a ROUTE has the values of its fields, and the place of what follows them
route-says : (frame : List ℕ) → let vs = free_in route_layout frame in
    ((n : ℕ) → flag (is_some (extra_of (eqb (get_or vs 0 0) 1) (get_or vs 2 0) n)) ∷ flag (eqb (get_or vs 1 0) 1) ∷ get_or vs 2 0 ∷ [] ≡ vs)
    × ((form : Form) → let n = user_length Route form frame in get_or vs 2 0 + after_table (extra_of (eqb (get_or vs 0 0) 1) (get_or vs 2 0) n) ≡ n)
unfolding packet_length
route-says frame =
    let h = number_in 2 frame in
    let vs = free_in route_layout frame in (
      (λ n i. (ap flag (of-told (eqb (get_or vs 0 0) 1) (get_or vs 2 0) n) ∙ bit-read (h / 2 ^ 9 % 2 ^ 1) (omega arith)) i ∷ bit-read (h / 2 ^ 8 % 2 ^ 1) (omega arith) i ∷ get_or vs 2 0 ∷ []),
      (λ form. two-lengths (eqb (get_or vs 0 0) 1) (get_or vs 2 0) (get_or frame (2 + get_or vs 2 0) 0) (packet_length (seg_of form) route_layout frame) refl),
    )

says : (form : Form) (frame : List ℕ) → ReadSays form frame (read_of form frame)
unfolding read_of
says form frame = go (read_checks form frame) (found_in frame) refl refl
  where
    go : (c : Checked) (f : Found) → read_checks form frame ≡ c → found_in frame ≡ f → ReadSays form frame (read_by (read_checks form frame) (found_in frame) form frame)
    go (Err fault) f ec ef =
        record { number = rw ec; position = rw ec; kind = rw ec; values = rw ec; start = rw ec; size = rw ec }
    go (Ok tt) Route ec ef =
        let r = route-says frame in
        record { number = rw (ec, ef); position = rw (ec, ef); kind = rw (ec, ef); values = rw (ec, ef) (r.0 (user_length Route form frame)); start = rw (ec, ef); size = rw (ec, ef) (r.1 form) }
    go (Ok tt) Unknown ec ef = absurd (never-unknown form frame ec ef)
    go (Ok tt) (Known k) ec ef =
        let vs = free_in (layout_of form k) frame in
        record {
          number = rw (ec, ef);
          position = rw (ec, ef);
          kind = rw (ec, ef) (ap Known (kind-made k vs));
          values = rw (ec, ef) (values-made form k vs (free-in-range (layout_of form k) frame));
          start = rw (ec, ef);
          size = rw (ec, ef);
        }

pub frame-says : (form : Form) (frame : List ℕ) (r : Read) → r ≡ read_of form frame → (r ≡ read_of form frame) × ReadSays form frame r
frame-says form frame r e = (e, subst (λ (x : Read). ReadSays form frame x) (sym e) (says form frame))

-- ---- 23 is for writing: reading never answers it

checks-never : (form : Form) (frame : List ℕ) → fault_number (read_checks form frame) ≢ 23
unfolding read_checks
checks-never form frame =
    let at = fault_of (found_in frame) form frame in
    let n = length_in (found_in frame) form frame in
    let d = check_at (leb n (most_of form)) PacketTooLong (most_of form) (Ok tt) in
    let c = check_at (eqb at (length frame)) FormatError at d in
    let b = check_at (whole_segments (seg_of form) (length frame)) Malformed (length frame) c in
    at-never 23 (form_valid form) OutOfRange 0 b (λ e. omega arith)
    (at-never 23 (whole_segments (seg_of form) (length frame)) Malformed (length frame) c (λ e. omega arith)
    (at-never 23 (eqb at (length frame)) FormatError at d (λ e. omega arith)
    (at-never 23 (leb n (most_of form)) PacketTooLong (most_of form) (Ok tt) (λ e. omega arith) (λ e. omega arith))))

pub read-not-short : (form : Form) (frame : List ℕ) → fault_number (read_of form frame) ≢ 23
read-not-short form frame e = checks-never form frame (sym (says form frame).number ∙ e)
