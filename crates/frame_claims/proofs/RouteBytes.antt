-- A ROUTE on lent bytes: an answer that is done came from a frame that passes all checks; and what
-- a refusal of either writer leaves.
-- Assumes nothing.
use mathlib.Core.Path.{◌≡◌, refl, sym, ap, ap₂, ◌∙◌, subst}
use mathlib.Core.Bool.{Bool, true, false, cond}
use mathlib.Core.List.{List, [], ◌∷◌}
use mathlib.Core.Logic.{◌≢◌}
use Prim.Native.Nat.{ℕ, ◌+◌, ◌-◌, ◌*◌, ◌/◌, ◌%◌, ◌<◌, ◌≤◌}
use native.Mathlib.Omega.{arith}
use lib.Dec.{eqb}
use lib.ListN.{length, get_or, take, drop}
use lib.Seq.{take_at}
use borrow.Author.Tests.{lt-leb}
use Rattle.refusal.specs.declared.Refusal.TheVariants.{PacketTooLong}
use Rattle.refusal.proofs.Numbers.{number-range}
use Rattle.lists.specs.Lists.{over}
use Rattle.little.specs.Little.{flag}
use Rattle.frame_fields.specs.Rows.{AreBytes}
use Rattle.frame_form.specs.declared.Form.{Form}
use Rattle.frame_form.specs.declared.Form.TheVariants.{ShortUplink}
use Rattle.frame_form.specs.Forms.{seg_of, most_of, form_valid, is_long, form_at}
use Rattle.frame_form.specs.Segments.{frame_length}
use Rattle.frame_form.proofs.Forms.{long-at, most-range}
use Rattle.frame_kinds.specs.declared.Found.TheVariants.{Route as RouteFound}
use Rattle.frame_kinds.specs.Kinds.{route_layout, route_number, ten_of}
use Rattle.frame_reader.specs.Faults.{packet_length}
use Rattle.frame_reader.specs.Reading.{read_answer, read_bytes}
use Rattle.frame_reader.proofs.Cases.{passed-answer, passed-bytes}
use Rattle.frame_writer.specs.Writing.{write_verdict, output_by, answer_by}
use Rattle.frame_writer.specs.Routes.{route_after, route_length, route_fits, route_frame, route_verdict, route_answer, route_bytes}
use Rattle.frame_writer.proofs.Verdicts.{accepted, accepts}
use Rattle.frame.specs.Routes.{route_said, write_route_of, write_route_output}
use Rattle.frame.proofs.OneLayout.{free_in}
use Rattle.frame_claims.specs.Bytes.{user_named}
use Rattle.frame_claims.specs.Routes.{table_named, extra_named, RouteBytesRead, RouteBytesWritten, RouteReadBackOfBytes, RouteRefusals}
use Rattle.frame_claims.proofs.Bytes.{read_done, route-read}
use Rattle.frame_claims.proofs.Stored.{by-verdict}
use Rattle.frame_claims.proofs.Refusing.{write-by}
use Rattle.frame_claims.proofs.Short.{by-fit, never-long, number_by}
use Rattle.frame_claims.proofs.RouteFrames.{flags, fits-flags, table-first, data-second, written, Written, of_in, in_in, rtl_in, after_in, table_in, extra_in, IsRoute, is-route}
use Rattle.refusal.specs.Numbers.{Verdict}
use Rattle.std.specs.Prelude.{Ok, Err}

-- ---- an answer that is done

answer-done : (v : Verdict) (len : ℕ) → answer_by v len % 256 ≡ 0 → v ≡ Ok tt
answer-done (Ok tt) len h = refl
answer-done (Err why) len h = absurd (omega (arith, number-range why))

-- ---- written, then read

-- the ten bytes of a ROUTE, in these places
abbrev ten_in : ℕ → ℕ → ℕ → List ℕ → List ℕ
ten_in o i t places = over (ten_of route_number (o ∷ i ∷ t ∷ [])) places

-- what they name in the bytes `a`
names_table : (o i t : ℕ) (places a : List ℕ) → table_named (ten_in o i t places) a ≡ take t a
unfolding ten_of
names_table o i t places a = refl

names-extra : (o i t : ℕ) (places a : List ℕ) → extra_named (ten_in o i t places) a ≡ cond (eqb o 1) (drop (t + 1) a) []
unfolding ten_of
names-extra o i t places a = refl

-- an answer that names n bytes after the first two
names-after : (n : ℕ) (frame : List ℕ) → user_named (256 * (2 + 256 * n)) frame ≡ take n (drop 2 frame)
names-after n frame =
    let len : 256 * (2 + 256 * n) / 65536 ≡ n = omega arith in
    let at : 256 * (2 + 256 * n) / 256 % 256 ≡ 2 = omega arith in
    ap₂ (λ (x y : ℕ). take x (drop y frame)) len at

module _ (form o i : ℕ) (table extra frame places : List ℕ) (fit : route_fits o i (length extra) ≡ true) (w : Written (form_at form) o i table extra frame) (room : 10 ≤ length places) where
  abbrev a : List ℕ
  a = route_after o table extra

  answer-is : read_answer form frame (length places) ≡ 256 * (2 + 256 * length a)
  answer-is =
      passed-answer form frame w.checks RouteFound (length places) (packet_length (seg_of (form_at form)) route_layout frame) w.found room refl
      ∙ omega (arith, w.packet)

  ten-is : read_bytes form frame places ≡ ten_in o i (length table) places
  ten-is = passed-bytes form frame w.checks RouteFound places w.found room ∙ ap (λ (vs : List ℕ). over (ten_of route_number vs) places) w.values

  after_is : user_named (read_answer form frame (length places)) frame ≡ a
  after_is =
      ap (λ (x : ℕ). user_named x frame) answer-is ∙ names-after (length a) frame ∙ ap (take (length a)) w.rest ∙ take_at a w.pad (length a) refl

  is_read : RouteBytesRead form o i table extra frame places
  is_read =
      let none = (flags o i (length extra) fit).none in
      record {
        done = ap (λ (x : ℕ). x % 256) answer-is ∙ omega arith;
        packet-back = ten-is;
        table-back = ap₂ table_named ten-is after_is ∙ names_table o i (length table) places a ∙ table-first o table extra none;
        data-back = ap₂ extra_named ten-is after_is ∙ names-extra o i (length table) places a ∙ data-second o table extra none;
      }

written-is-read : (form o i : ℕ) (table extra out places : List ℕ) → route_answer form o i (length table) (length extra) (length out) % 256 ≡ 0 → 10 ≤ length places
    → RouteBytesRead form o i table extra (take (route_answer form o i (length table) (length extra) (length out) / 256) (route_bytes form o i table extra out)) places
unfolding route_answer route_bytes
written-is-read form o i table extra out places h room =
    let f = form_at form in
    let len = route_length o (length table) (length extra) in
    let v = route_verdict f o i (length table) (length extra) (length out) in
    let ok : v ≡ Ok tt = answer-done v (frame_length (seg_of f) len) h in
    let c = accepted f (route_fits o i (length extra)) len (length out) ok in
    let F = route_frame f o i table extra in
    let w = written f o i table extra c.good c.fit c.most in
    let count : answer_by v (frame_length (seg_of f) len) / 256 ≡ length F = ap (λ (x : Verdict). answer_by x (frame_length (seg_of f) len) / 256) ok ∙ omega (arith, w.size) in
    let front : F ≡ take (answer_by v (frame_length (seg_of f) len) / 256) (output_by v F out) =
    sym (ap₂ (λ (n : ℕ) (x : Verdict). take n (output_by x F out)) count ok ∙ take_at F (drop (length F) out) (length F) refl) in
    subst (λ (x : List ℕ). RouteBytesRead form o i table extra x places) front (is_read form o i table extra F places c.fit w room)

-- ---- read, then written

-- ten bytes and an answer that name the strings of the frame
module _ (form : ℕ) (frame places out : List ℕ) (long : is_long (form_at form) ≡ true) (bytes : AreBytes frame) (q : IsRoute (form_at form) frame) (room : length frame ≤ length out) where
  abbrev f : Form
  f = form_at form

  abbrev n : ℕ
  n = packet_length (seg_of f) route_layout frame - 2

  abbrev ten : List ℕ
  ten = over (ten_of route_number (free_in route_layout frame)) places

  after-named : user_named (256 * (2 + 256 * n)) frame ≡ after_in f frame
  unfolding after_in
  after-named = names-after n frame

  fit : route_fits (of_in frame) (in_in frame) (length (extra_in f frame)) ≡ true
  fit = fits-flags (of_in frame) (in_in frame) (length (extra_in f frame)) q.fit

  fills : frame_length (seg_of f) (route_length (of_in frame) (length (table_in f frame)) (length (extra_in f frame))) ≡ length frame
  fills = sym (written f (of_in frame) (in_in frame) (table_in f frame) (extra_in f frame) q.good fit q.most).size ∙ ap length (q.same bytes)

  said : route_verdict f (of_in frame) (in_in frame) (length (table_in f frame)) (length (extra_in f frame)) (length out) ≡ Ok tt
  said =
      accepts f (route_fits (of_in frame) (in_in frame) (length (extra_in f frame))) (route_length (of_in frame) (length (table_in f frame)) (length (extra_in f frame))) (length out)
      (record { good = q.good; fit = fit; long = long; most = q.most; room-enough = omega (arith, fills, room) })

  answer-again : route_answer form (of_in frame) (in_in frame) (length (table_in f frame)) (length (extra_in f frame)) (length out) ≡ 256 * length frame
  unfolding route_answer
  answer-again =
      ap (λ (v : Verdict). answer_by v (frame_length (seg_of f) (route_length (of_in frame) (length (table_in f frame)) (length (extra_in f frame))))) said
      ∙ omega (arith, fills)

  bytes-again : route_bytes form (of_in frame) (in_in frame) (table_in f frame) (extra_in f frame) out ≡ over frame out
  unfolding route_bytes
  bytes-again =
      ap (λ (v : Verdict). output_by v (route_frame f (of_in frame) (in_in frame) (table_in f frame) (extra_in f frame)) out) said
      ∙ ap (λ (x : List ℕ). over x out) (q.same bytes)

  again : RouteBytesWritten form frame ten (256 * (2 + 256 * n)) out
  unfolding ten_of
  again =
      let table_is = ap (take (rtl_in frame)) after-named in
      let extra-is = ap (λ (x : List ℕ). cond (eqb (of_in frame) 1) (drop (rtl_in frame + 1) x) []) after-named in
      record {
        done = ap₂ (λ (x y : List ℕ). route_answer form (of_in frame) (in_in frame) (length x) (length y) (length out)) table_is extra-is ∙ answer-again;
        bytes = ap₂ (λ (x y : List ℕ). route_bytes form (of_in frame) (in_in frame) x y out) table_is extra-is ∙ bytes-again;
      }

read-is-written : (form : ℕ) (frame places out : List ℕ) → 1 ≤ form → AreBytes frame
    → read_answer form frame (length places) % 256 ≡ 0 → get_or (read_bytes form frame places) 0 0 ≡ route_number → length frame ≤ length out
    → RouteBytesWritten form frame (read_bytes form frame places) (read_answer form frame (length places)) out
read-is-written form frame places out long bytes h first room =
    let ef = route-read form frame places h first in
    let d = read_done form frame (length places) h in
    let answer = passed-answer form frame d.0 RouteFound (length places) (packet_length (seg_of (form_at form)) route_layout frame) ef d.1 refl in
    let ten = passed-bytes form frame d.0 RouteFound places ef d.1 in
    subst (λ (x : List ℕ). RouteBytesWritten form frame x (read_answer form frame (length places)) out) (sym ten)
    (subst (λ (x : ℕ). RouteBytesWritten form frame (over (ten_of route_number (free_in route_layout frame)) places) x out) (sym answer)
    (again form frame places out (long-at form long) bytes (is-route (form_at form) frame d.0 ef) room))

pub route-read-back-of-bytes : RouteReadBackOfBytes
route-read-back-of-bytes = record { written-is-read = written-is-read; read-is-written = read-is-written }

-- ---- refusals

no-byte-written : (form o i : ℕ) (table extra out : List ℕ) → route_answer form o i (length table) (length extra) (length out) % 256 ≢ 0
    → (route_bytes form o i table extra out ≡ out) × (route_answer form o i (length table) (length extra) (length out) / 256 ≡ 0)
unfolding route_answer route_bytes
no-byte-written form o i table extra out h =
    by-verdict (route_verdict (form_at form) o i (length table) (length extra) (length out)) (frame_length (seg_of (form_at form)) (route_length o (length table) (length extra)))
    (route_frame (form_at form) o i table extra) out h

-- two strings of over 255 bytes are a packet over every largest one
long-packet : (optional : Bool) (i table extra : ℕ) → route_fits (flag optional) i extra ≡ true → 255 < table + extra → 255 < route_length (flag optional) table extra
long-packet true i table extra h long = omega (arith, long)
long-packet false i table extra h long = omega (arith, long, (flags 0 i extra h).none (λ z. omega (arith, z)))

over-255 : (form : Form) (optional initial : Bool) (table extra room : ℕ) → form_valid form ≡ true → is_long form ≡ true
    → route_fits (flag optional) (flag initial) extra ≡ true → 255 < table + extra → write_route_of form optional initial table extra room ≡ Err PacketTooLong
unfolding write_route_of write_verdict
over-255 form optional initial table extra room good long fit more =
    let n = route_length (flag optional) table extra in
    rw (good, fit, long, lt-leb n (most_of form) (omega (arith, long-packet optional (flag initial) table extra fit more, (most-range form good).1)))

pub route-refusals : RouteRefusals
unfolding write_route_of write_route_output write_verdict
route-refusals = record {
  nothing_written = λ form optional initial table extra out.
      write-by (route_said form optional initial (length table) (length extra) (length out)) (frame_length (seg_of form) (route_length (flag optional) (length table) (length extra)))
      (route_frame form (flag optional) (flag initial) table extra) out;
  no-byte-written = no-byte-written;
  in-short = λ optional initial table extra room.
      by-fit (route_fits (flag optional) (flag initial) extra) (frame_length (seg_of ShortUplink) (route_length (flag optional) table extra));
  in-long = λ form optional initial table extra room long e.
      never-long form (route_fits (flag optional) (flag initial) extra) (route_length (flag optional) table extra) room long
      (sym (number_by (route_said form optional initial table extra room) (frame_length (seg_of form) (route_length (flag optional) table extra))) ∙ e);
  over-255 = over-255;
}
