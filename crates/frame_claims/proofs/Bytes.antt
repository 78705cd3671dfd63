-- Demand 2 of the calls on lent bytes, from that of the calls on packets: an answer that is done
-- came from a packet that was written or read, and ten bytes are one packet.
-- Assumes nothing.
use mathlib.Core.Path.{◌≡◌, refl, sym, ap, ap₂, ◌∙◌, subst}
use mathlib.Core.Bool.{Bool, true, false, cond, true≢false}
use mathlib.Core.List.{List}
use Prim.Native.Nat.{ℕ, ◌+◌, ◌*◌, ◌/◌, ◌%◌, ◌<◌, ◌≤◌}
use native.Mathlib.Omega.{arith}
use lib.Dec.{leb, eqb}
use lib.ListN.{length, get_or, take, drop}
use lib.Seq.{take_at}
use borrow.Author.Tests.{leb-true, eqb-true, eq-eqb}
use Rattle.refusal.specs.declared.Refusal.TheVariants.{OutOfRange, OutputTooShort}
use Rattle.refusal.specs.Numbers.{number_of, check, Verdict, refusal_number}
use Rattle.refusal.specs.Positions.{Checked}
use Rattle.refusal.proofs.Numbers.{number-range}
use Rattle.lists.specs.Lists.{over}
use Rattle.frame_fields.specs.Rows.{AreBytes}
use Rattle.frame_form.specs.declared.Form.{Form}
use Rattle.frame_form.specs.Forms.{seg_of, form_valid, form_at}
use Rattle.frame_form.specs.Segments.{frame_length}
use Rattle.frame_form.proofs.Forms.{long-at, most-range}
use Rattle.frame_kinds.specs.declared.Kind.{Kind}
use Rattle.frame_kinds.specs.declared.Found.{Found}
use Rattle.frame_kinds.specs.declared.Found.TheVariants.{Known, Route, Unknown}
use Rattle.frame_kinds.specs.Kinds.{size_of, layout_of, kind_number, route_number, kind_at, value_count, ten_of, ten_bytes}
use Rattle.frame_kinds.proofs.Stored.{not-route}
use Rattle.frame_reader.specs.Reading.{found_in, length_in, header_length, user_length, values_as, read_checks, read_answer_by, read_answer, read_bytes}
use Rattle.frame_reader.specs.Parts.{found_number}
use Rattle.frame_reader.proofs.Cases.{passed-answer, passed-bytes}
use Rattle.frame_writer.specs.Writing.{packet_size, frame_by, write_verdict, output_by, answer_by, places_fit, write_answer_by, write_answer, write_bytes}
use Rattle.frame_writer.proofs.Answers.{ten-answer, ten-bytes}
use Rattle.frame.specs.declared.Packet.{Packet}
use Rattle.frame.specs.declared.UserData.{UserData}
use Rattle.frame.specs.Packets.{kind_of, values_of, packet_of, packet_bytes, packet_at}
use Rattle.frame.specs.Writing.{written_bytes, written_by, length_of, frame_of, frame_verdict, write_of, write_output}
use Rattle.frame.specs.Reading.{read_by, read_of, part_of, place_of}
use Rattle.frame.proofs.KindLaws.{kind-made, values-made}
use Rattle.frame.proofs.OneLayout.{free_in, free-in-range}
use Rattle.frame.proofs.Frames.{reads-frame, never-unknown}
use Rattle.frame_claims.specs.ByLayout.{CanHold}
use Rattle.frame_claims.specs.Bytes.{frame_written, user_named, BytesRead, BytesWritten, BytesAreFrame, FrameIsBytes, NoRoute, ReadBackOfBytes}
use Rattle.frame_claims.proofs.ByLayout.{part_length, by_layout}
use Rattle.frame_claims.proofs.ReadBack.{read_back}
use Rattle.frame.proofs.Ten.{places-values}
use Rattle.frame_claims.proofs.Stored.{round-trips}
use Rattle.frame.specs.declared.Contents.TheVariants.{Packet as PacketIn}
use Rattle.std.specs.Prelude.{Result, Ok, Err}
use Rattle.refusal.specs.declared.Refusal.{Refusal}

-- ---- a call of `write`

-- a writer's answer as one number
abbrev pub written_answer : (Result ℕ Refusal) → ℕ
written_answer w = refusal_number w + 256 * written_bytes w

one_number : (v : Verdict) (len : ℕ) → answer_by v len ≡ written_answer (written_by v len)
one_number (Ok tt) len = refl
one_number (Err why) len = refl

-- the values are the first of the nine bytes after the first
values-first : (p : Packet) → take (value_count (kind_of p)) (drop 1 (packet_bytes p)) ≡ values_of p
unfolding ten_of
values-first p = places-values p

-- the calls on ten bytes of a packet do what those on the packet do
module _ (form : ℕ) (p : Packet) where
  same-verdict : (user room : ℕ) → write_verdict (form_at form) (places_fit (form_at form) (kind_of p) (drop 1 (packet_bytes p)) user) (packet_size (kind_of p) user) room
      ≡ frame_verdict (form_at form) p user room
  same-verdict user room = ap (λ (b : Bool). write_verdict (form_at form) b (packet_size (kind_of p) user) room) ((round-trips.packet-back p).places (form_at form) user)

  pub answer-of : (user room : ℕ) → write_answer form (packet_bytes p) user room ≡ written_answer (write_of (form_at form) p user room)
  unfolding write_of
  answer-of user room =
      let b = round-trips.packet-back p in
      sym (ten-answer form (packet_bytes p) (Known (kind_of p)) user room b.ten (sym b.kind))
      ∙ ap (λ (v : Verdict). answer_by v (frame_length (seg_of (form_at form)) (packet_size (kind_of p) user))) (same-verdict user room)
      ∙ one_number (frame_verdict (form_at form) p user room) (frame_length (seg_of (form_at form)) (length_of p user))

  output-of : (user out : List ℕ) → write_bytes form (packet_bytes p) user out ≡ write_output (form_at form) p user out
  unfolding write_output
  output-of user out =
      let b = round-trips.packet-back p in
      sym (ten-bytes form (packet_bytes p) (Known (kind_of p)) user out b.ten (sym b.kind))
      ∙ ap₂ (λ (v : Verdict) (vs : List ℕ). output_by v (frame_by (form_at form) (kind_of p) vs user) out) (same-verdict (length user) (length out)) (values-first p)

-- ---- a call of `write` whose answer is done

-- the packet that it took and wrote
record Wrote (form : ℕ) (bytes : List ℕ) (user room : ℕ) : Type 0 where
  p : Packet
  n : ℕ
  taken : packet_bytes p ≡ bytes
  done : write_of (form_at form) p user room ≡ Ok n

-- a writer's answer with the number 0 is done
written-done : (w : (Result ℕ Refusal)) → written_answer w % 256 ≡ 0 → (n : ℕ) × (w ≡ Ok n)
written-done (Ok n) h = (n, refl)
written-done (Err why) h = absurd (omega (arith, number-range why))

-- and its values fit
done-fits : (form : Form) (b : Bool) (n room len : ℕ) → answer_by (write_verdict form b n room) len % 256 ≡ 0 → b ≡ true
unfolding write_verdict
done-fits form true n room len h = refl
done-fits form false n room len h = go (form_valid form) h
  where
    go : (v : Bool) → answer_by (check v OutOfRange (Err OutOfRange)) len % 256 ≡ 0 → ◌≡◌ {A = Bool} false true
    go true e = absurd (omega (arith, e))
    go false e = absurd (omega (arith, e))

module _ (form : ℕ) (bytes : List ℕ) (user room : ℕ) where
  -- ten bytes of a kind that fit are those of one packet
  by-fit : (k : Kind) → length bytes ≡ 10 → kind_at (get_or bytes 0 0) ≡ Known k → places_fit (form_at form) k (drop 1 bytes) user ≡ true
      → write_answer form bytes user room % 256 ≡ 0 → Wrote form bytes user room
  by-fit k ten kind fit h =
      let same = round-trips.bytes_back (form_at form) bytes k user ten kind fit in
      let w = written-done (write_of (form_at form) (packet_at bytes) user room)
      (ap (λ (x : ℕ). x % 256) (sym (answer-of form (packet_at bytes) user room) ∙ ap (λ (x : List ℕ). write_answer form x user room) same) ∙ h) in
      record { p = packet_at bytes; n = w.0; taken = same; done = w.1 }

  by_kind : (found : Found) → kind_at (get_or bytes 0 0) ≡ found → length bytes ≡ 10 → write_answer form bytes user room % 256 ≡ 0
      → write_answer_by found form (drop 1 bytes) user room % 256 ≡ 0 → Wrote form bytes user room
  by_kind (Known k) kind ten h g =
      by-fit k ten kind
      (done-fits (form_at form) (places_fit (form_at form) k (drop 1 bytes) user) (packet_size k user) room (frame_length (seg_of (form_at form)) (packet_size k user)) g) h
  by_kind Route kind ten h g = absurd (omega arith)
  by_kind Unknown kind ten h g = absurd (omega arith)

  by_ten : (b : Bool) → eqb (length bytes) 10 ≡ b → write_answer form bytes user room % 256 ≡ 0
      → cond b (write_answer_by (kind_at (get_or bytes 0 0)) form (drop 1 bytes) user room) (number_of OutOfRange) % 256 ≡ 0 → Wrote form bytes user room
  by_ten true e h g = by_kind (kind_at (get_or bytes 0 0)) refl (eqb-true (length bytes) 10 e) h g
  by_ten false e h g = absurd (omega arith)

  split : write_answer form bytes user room % 256 ≡ 0
      → cond (eqb (length bytes) 10) (write_answer_by (kind_at (get_or bytes 0 0)) form (drop 1 bytes) user room) (number_of OutOfRange) % 256 ≡ 0
  unfolding write_answer
  split h = h

  wrote : write_answer form bytes user room % 256 ≡ 0 → Wrote form bytes user room
  wrote h = by_ten (eqb (length bytes) 10) refl h (split h)

-- ---- a call of `read` whose answer is done

by-room : (b : Bool) (n : ℕ) → cond b (256 * n) (number_of OutputTooShort) % 256 ≡ 0 → b ≡ true
by-room true n h = refl
by-room false n h = absurd (omega arith)

by-checks : (c : Checked) (start user places : ℕ) → read_answer_by c start user places % 256 ≡ 0 → (c ≡ Ok tt) × (10 ≤ places)
by-checks (Ok tt) start user places h = (refl, leb-true 10 places (by-room (leb 10 places) (start + 256 * user) h))
by-checks (Err fault) start user places h = absurd (omega (arith, number-range fault.why))

-- the frame passed the checks, and there were ten places
pub read_done : (form : ℕ) (frame : List ℕ) (places : ℕ) → read_answer form frame places % 256 ≡ 0 → (read_checks (form_at form) frame ≡ Ok tt) × (10 ≤ places)
unfolding read_answer
read_done form frame places h = by-checks (read_checks (form_at form) frame) (header_length (found_in frame)) (user_length (found_in frame) (form_at form) frame) places h

-- the packet that it read
record WasRead (form : ℕ) (frame : List ℕ) (places : ℕ) : Type 0 where
  p : Packet
  place : UserData
  reads : read_of (form_at form) frame ≡ Ok (PacketIn p place)
  room : 10 ≤ places

module _ (form : ℕ) (frame places : List ℕ) (h : read_answer form frame (length places) % 256 ≡ 0) where
  abbrev first : ℕ
  first = get_or (read_bytes form frame places) 0 0

  -- the first of the ten bytes is the number of what was found
  first-is : (f : Found) → found_in frame ≡ f → first ≡ found_number f
  unfolding ten_of
  first-is (Known k) ef =
      let d = read_done form frame (length places) h in
      ap (λ (l : List ℕ). get_or l 0 0) (passed-bytes form frame d.0 (Known k) places ef d.1)
  first-is Route ef =
      let d = read_done form frame (length places) h in
      ap (λ (l : List ℕ). get_or l 0 0) (passed-bytes form frame d.0 Route places ef d.1)
  first-is Unknown ef = absurd (never-unknown (form_at form) frame (read_done form frame (length places) h).0 ef)

  pub route-read : first ≡ route_number → found_in frame ≡ Route
  route-read e = go (found_in frame) refl
    where
      go : (f : Found) → found_in frame ≡ f → f ≡ Route
      go (Known k) ef = absurd (true≢false (sym (eq-eqb (kind_number k) route_number (sym (first-is (Known k) ef) ∙ e)) ∙ not-route k))
      go Route ef = refl
      go Unknown ef = absurd (never-unknown (form_at form) frame (read_done form frame (length places) h).0 ef)

  was_read : NoRoute (read_bytes form frame places) → WasRead form frame (length places)
  unfolding read_of
  was_read none = go (found_in frame) refl
    where
      d : (read_checks (form_at form) frame ≡ Ok tt) × (10 ≤ length places)
      d = read_done form frame (length places) h

      go : (f : Found) → found_in frame ≡ f → WasRead form frame (length places)
      go (Known k) ef = record {
        p = packet_of k (values_as (Known k) (form_at form) frame);
        place = record { at = size_of k; len = user_length (Known k) (form_at form) frame };
        reads = ap₂ (λ (c : Checked) (f : Found). read_by c f (form_at form) frame) d.0 ef;
        room = d.1;
      }
      go Route ef = absurd (none (first-is Route ef))
      go Unknown ef = absurd (never-unknown (form_at form) frame d.0 ef)

-- what the call gives for a frame that reads, if there are ten places
module _ (form : ℕ) (frame places : List ℕ) (room : 10 ≤ length places) where
  -- its answer and the lent bytes afterwards, for a packet p with its user data at `place`
  abbrev Gives : Packet → UserData → Type 0
  Gives p place = (256 * (place.at + 256 * place.len) ≡ read_answer form frame (length places)) × (over (packet_bytes p) places ≡ read_bytes form frame places)

  of-kind : (k : Kind) → read_checks (form_at form) frame ≡ Ok tt → found_in frame ≡ Known k
      → Gives (packet_of k (free_in (layout_of (form_at form) k) frame)) (record { at = size_of k; len = user_length (Known k) (form_at form) frame })
  of-kind k e ef =
      let vs = free_in (layout_of (form_at form) k) frame in
      let ten : packet_bytes (packet_of k vs) ≡ ten_bytes k vs = ap₂ ten_bytes (kind-made k vs) (values-made (form_at form) k vs (free-in-range (layout_of (form_at form) k) frame)) in (
        sym (passed-answer form frame e (Known k) (length places) (length_in (Known k) (form_at form) frame) ef room refl),
        ap (λ (x : List ℕ). over x places) ten ∙ sym (passed-bytes form frame e (Known k) places ef room),
      )

  by-found : (p : Packet) (place : UserData) (c : Checked) (f : Found) → read_checks (form_at form) frame ≡ c → found_in frame ≡ f
      → read_by c f (form_at form) frame ≡ Ok (PacketIn p place) → Gives p place
  by-found p place (Err fault) f ec ef e = let z : ◌≡◌ {A = ℕ} 0 1 = cc in absurd (omega arith)
  by-found p place (Ok tt) Route ec ef e = let z : ◌≡◌ {A = ℕ} 0 1 = cc in absurd (omega arith)
  by-found p place (Ok tt) Unknown ec ef e = let z : ◌≡◌ {A = ℕ} 0 1 = cc in absurd (omega arith)
  by-found p place (Ok tt) (Known k) ec ef e =
      let there : UserData = record { at = size_of k; len = user_length (Known k) (form_at form) frame } in
      let packet : packet_of k (free_in (layout_of (form_at form) k) frame) ≡ p = cc in
      let at : there ≡ place = cc in
      subst (λ (x : Packet). Gives x place) packet (subst (Gives (packet_of k (free_in (layout_of (form_at form) k) frame))) at (of-kind k ec ef))

  done-read : (p : Packet) (place : UserData) → read_of (form_at form) frame ≡ Ok (PacketIn p place) → Gives p place
  unfolding read_of
  done-read p place e = by-found p place (read_checks (form_at form) frame) (found_in frame) refl refl e

-- a packet is short
read-few : (form : Form) (frame : List ℕ) (p : Packet) (place : UserData) → read_of form frame ≡ Ok (PacketIn p place) → place.at + place.len ≤ 160
read-few form frame p place e =
    let f = reads-frame form frame p place e in
    omega (arith, f.header-first, f.most, (most-range form f.good).1)

-- the user data that an answer names is that at the place which was read, as its start is small
named : (answer : ℕ) (frame : List ℕ) (place : UserData) → 256 * (place.at + 256 * place.len) ≡ answer → place.at < 256
    → user_named answer frame ≡ part_of frame place
named answer frame place e small =
    let len : answer / 65536 ≡ place.len = omega arith in
    let at : answer / 256 % 256 ≡ place.at = omega arith in
    ap₂ (λ (x y : ℕ). take x (drop y frame)) len at

-- ---- the claims

written-is-read : (form : ℕ) (packet user out places : List ℕ) → write_answer form packet (length user) (length out) % 256 ≡ 0
    → 10 ≤ length places → BytesRead form packet user out places
written-is-read form packet user out places h room =
    let w = wrote form packet (length user) (length out) h in
    let back = read_back.written-is-read (form_at form) w.p user out w.n w.done in
    let F = frame_written form packet user out in
    let count : write_answer form packet (length user) (length out) / 256 ≡ w.n =
    ap (λ (x : List ℕ). write_answer form x (length user) (length out) / 256) (sym w.taken)
    ∙ ap (λ (x : ℕ). x / 256) (answer-of form w.p (length user) (length out) ∙ ap written_answer w.done) ∙ omega arith in
    let wrote_it : F ≡ take w.n (write_output (form_at form) w.p user out) =
    ap₂ (λ (x : ℕ) (y : List ℕ). take x y) count
    (ap (λ (x : List ℕ). write_bytes form x user out) (sym w.taken) ∙ output-of form w.p user out) in
    let reads : read_of (form_at form) F ≡ Ok (PacketIn w.p (place_of w.p (length user))) = ap (read_of (form_at form)) wrote_it ∙ back.fields in
    let small = read-few (form_at form) F w.p (place_of w.p (length user)) reads in
    let done = done-read form F places room w.p (place_of w.p (length user)) reads in
    record {
      done = omega (arith, done.0);
      packet-back = sym done.1 ∙ ap (λ (x : List ℕ). over x places) w.taken;
      user-back =
          named (read_answer form F (length places)) F (place_of w.p (length user)) done.0 (omega (arith, small))
          ∙ ap (λ (x : List ℕ). part_of x (place_of w.p (length user))) wrote_it ∙ back.data-kept;
    }

-- what a call of `read` gave: the ten bytes of the packet that it read, and its user data
module _ (form : ℕ) (frame places : List ℕ) (r : WasRead form frame (length places)) where
  ten-read : take 10 (read_bytes form frame places) ≡ packet_bytes r.p
  ten-read =
      ap (take 10) (sym (done-read form frame places r.room r.p r.place r.reads).1)
      ∙ take_at (packet_bytes r.p) (drop (length (packet_bytes r.p)) places) 10 (round-trips.packet-back r.p).ten

  user-read : user_named (read_answer form frame (length places)) frame ≡ part_of frame r.place
  user-read =
      named (read_answer form frame (length places)) frame r.place (done-read form frame places r.room r.p r.place r.reads).0
      (omega (arith, read-few (form_at form) frame r.p r.place r.reads))

read-is-written : (form : ℕ) (frame places out : List ℕ) → 1 ≤ form → AreBytes frame → read_answer form frame (length places) % 256 ≡ 0
    → NoRoute (read_bytes form frame places) → length frame ≤ length out → BytesWritten form frame places out
read-is-written form frame places out long bytes h none room =
    let r = was_read form frame places h none in
    let back = read_back.read-is-written (form_at form) frame r.p r.place out (long-at form long) bytes r.reads room in
    let ten = ten-read form frame places r in
    let user = user-read form frame places r in
    record {
      done =
          ap₂ (λ (x y : List ℕ). write_answer form x (length y) (length out)) ten user
          ∙ answer-of form r.p (length (part_of frame r.place)) (length out)
          ∙ ap (λ (x : ℕ). written_answer (write_of (form_at form) r.p x (length out))) (part_length (form_at form) frame r.p r.place r.reads)
          ∙ ap written_answer back.answer
          ∙ omega arith;
      bytes = ap₂ (λ (x y : List ℕ). write_bytes form x y out) ten user ∙ output-of form r.p (part_of frame r.place) out ∙ back.bytes;
    }

-- ---- by the layout

read-is-frame : (form : ℕ) (frame places : List ℕ) → AreBytes frame → read_answer form frame (length places) % 256 ≡ 0
    → NoRoute (read_bytes form frame places) → BytesAreFrame form frame places
read-is-frame form frame places bytes h none =
    let r = was_read form frame places h none in
    record {
      packet = r.p;
      ten = ten-read form frame places r;
      same = (by_layout.read-is-frame (form_at form) frame r.p r.place bytes r.reads).same ∙ ap (frame_of (form_at form) r.p) (sym (user-read form frame places r));
    }

frame-is-read : (form : ℕ) (p : Packet) (user places : List ℕ) → CanHold (form_at form) p (length user) → 10 ≤ length places → FrameIsBytes form p user places
frame-is-read form p user places holds room =
    let F = frame_of (form_at form) p user in
    let place = place_of p (length user) in
    let read = by_layout.frame-is-read (form_at form) p user holds in
    let small = read-few (form_at form) F p place read.fields in
    let done = done-read form F places room p place read.fields in
    record {
      done = omega (arith, done.0);
      packet-back = sym done.1;
      user-back = named (read_answer form F (length places)) F place done.0 (omega (arith, small)) ∙ read.data-kept;
    }

pub read-back-of-bytes : ReadBackOfBytes
read-back-of-bytes = record {
  read-is-frame = read-is-frame;
  frame-is-read = frame-is-read;
  written-is-read = written-is-read;
  read-is-written = read-is-written;
}
