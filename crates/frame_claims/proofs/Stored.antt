-- The proofs of the claims about packets in bytes: laws over every kind, and one case for each
-- check.
-- Assumes nothing.
use mathlib.Core.Path.{◌≡◌, refl, sym, ap, ap₂, ◌∙◌}
use mathlib.Core.Bool.{Bool, true, false, cond, ◌&&◌, ◌||◌}
use mathlib.Core.Logic.{◌≢◌}
use mathlib.Core.List.{List, [], ◌∷◌, ◌++◌}
use Prim.Native.Nat.{ℕ, ◌+◌, ◌-◌, ◌*◌, ◌/◌, ◌%◌, ◌≤◌}
use native.Mathlib.Omega.{arith}
use lib.Dec.{leb, eqb}
use lib.ListN.{length, get_or, take, drop, replicate, length-drop, take-append-drop}
use lib.Seq.{get_or-take, length-take-le}
use borrow.Author.Tests.{eqb-true}
use Rattle.refusal.specs.declared.Refusal.TheVariants.{OutOfRange, OutputTooShort}
use Rattle.refusal.specs.Numbers.{number_of, Verdict}
use Rattle.refusal.specs.Positions.{Checked}
use Rattle.refusal.proofs.Checks.{both_true}
use Rattle.refusal.proofs.Numbers.{number-alone}
use Rattle.lists.specs.Lists.{over}
use Rattle.frame_fields.specs.Layouts.{fields, has_lv, within}
use Rattle.frame_form.specs.declared.Form.{Form}
use Rattle.frame_form.specs.Forms.{form_at, seg_of}
use Rattle.frame_form.specs.Segments.{frame_length}
use Rattle.frame_form.specs.Frames.{all_zero}
use Rattle.frame_form.proofs.Frames.{zero-zeros}
use Rattle.frame_kinds.specs.declared.Kind.{Kind}
use Rattle.frame_kinds.specs.declared.Found.{Found}
use Rattle.frame_kinds.specs.declared.Found.TheVariants.{Known, Route, Unknown}
use Rattle.frame_kinds.specs.Kinds.{layout_of, kinds, kind_number, route_number, first_numbered, kind_at, value_count, ten_of, ten_bytes}
use Rattle.frame_kinds.proofs.Stored.{number-back, values-few}
use Rattle.frame_reader.specs.Reading.{found_in, header_length, user_length, read_checks, read_answer_by, read_answer, packet_in, read_bytes_by, read_bytes}
use Rattle.frame_writer.specs.Writing.{packet_size, values_fit, frame_by, output_by, answer_by, places_fit, places_verdict, write_answer_by, write_answer, write_bytes_by, write_bytes}
use Rattle.frame.specs.declared.Packet.{Packet}
use Rattle.frame.specs.Packets.{kind_of, values_of, packet_of, packet_bytes, kind_or, packet_at}
use Rattle.frame.proofs.KindLaws.{packet-made, kind-made, values-made, values_same, packet-same}
use Rattle.frame.proofs.Ten.{places_of, ten, places-fit, pad-get}
use Rattle.frame_claims.specs.Stored.{PacketBack, RoundTrips, RefusedBytesChangeNothing}
use Rattle.std.specs.Prelude.{Ok, Err}

-- ---- a packet in its ten bytes

same-packet : (p : Packet) → packet_at (packet_bytes p) ≡ p
unfolding packet_at ten_of
same-packet p =
    ap (λ (found : Found). packet_of (kind_or found) (places_of p)) (number-back (kind_of p))
    ∙ packet-same (kind_of p) (places_of p) (values_of p) (λ j l. pad-get (values_of p) (9 - length (values_of p)) j) ∙ packet-made p

packet-back : (p : Packet) → PacketBack p
unfolding ten_of
packet-back p = record { ten = ten p; kind = number-back (kind_of p); places = λ form user. places-fit form p user; back = same-packet p }

-- ---- ten bytes that are taken as a packet

-- only its own number names a kind
numbered : (ks : List Kind) (n : ℕ) (k : Kind) → first_numbered ks n ≡ Known k → n ≡ kind_number k
numbered [] n k e = go (eqb n route_number) e
  where
    go : (b : Bool) → cond b Route Unknown ≡ Known k → n ≡ kind_number k
    go true h = let z : ◌≡◌ {A = ℕ} 0 1 = cc in absurd (omega arith)
    go false h = let z : ◌≡◌ {A = ℕ} 0 1 = cc in absurd (omega arith)
numbered (j ∷ ks) n k e = go (eqb n (kind_number j)) refl e (numbered ks n k)
  where
    go : (b : Bool) → eqb n (kind_number j) ≡ b → cond b (Known j) (first_numbered ks n) ≡ Known k → (first_numbered ks n ≡ Known k → n ≡ kind_number k) → n ≡ kind_number k
    go true q h rest = let same : j ≡ k = cc in eqb-true n (kind_number j) q ∙ ap kind_number same
    go false q h rest = rest h

known-number : (n : ℕ) (k : Kind) → kind_at n ≡ Known k → n ≡ kind_number k
unfolding kind_at
known-number n k e = numbered kinds n k e

-- values that fit are within their fields, and the places past them are 0
fit_parts : (form : Form) (k : Kind) (places : List ℕ) (user : ℕ) → places_fit form k places user ≡ true
    → (within (fields (layout_of form k)) (take (value_count k) places) ≡ true) × (all_zero (drop (value_count k) places) ≡ true)
unfolding places_fit values_fit
fit_parts form k places user e =
    let values = take (value_count k) places in
    let fs = fields (layout_of form k) in
    let a = both_true (within fs values && (has_lv fs || eqb user 0)) (all_zero (drop (value_count k) places)) e in
    ((both_true (within fs values) (has_lv fs || eqb user 0) a.0).0, a.1)

-- nine places of which those past the values are 0 are the values and zeros
nine : (c : ℕ) (places : List ℕ) → c ≤ 9 → length places ≡ 9 → all_zero (drop c places) ≡ true
    → take c places ++ replicate (9 - length (take c places)) 0 ≡ places
nine c places few long zeros =
    let here : length (take c places) ≡ c = length-take-le c places (omega arith) in
    let left : 9 - length (take c places) ≡ length (drop c places) = omega (arith, here, long, length-drop c places) in
    ap (λ (x : ℕ). take c places ++ replicate x 0) left ∙ ap (λ (l : List ℕ). take c places ++ l) (sym (zero-zeros (drop c places) zeros)) ∙ take-append-drop c places

-- a list of ten bytes that is taken as a packet of kind k is that packet's
taken : (form : Form) (bytes : List ℕ) (k : Kind) (user : ℕ) → length bytes ≡ 10 → kind_at (get_or bytes 0 0) ≡ Known k
    → places_fit form k (drop 1 bytes) user ≡ true → packet_bytes (packet_of k (drop 1 bytes)) ≡ bytes
unfolding ten_of
taken form [] k user long kind fit = absurd (omega arith)
taken form (n ∷ places) k user long kind fit =
    let c = value_count k in
    let parts = fit_parts form k places user fit in
    let values : values_of (packet_of k places) ≡ take c places = values_same k places (take c places) (λ j l. sym (get_or-take c places j 0 l)) ∙ values-made form k (take c places) parts.0 in
    ap₂ ten_bytes (kind-made k places) values
    ∙ ap₂ (λ (m : ℕ) (l : List ℕ). m ∷ l) (sym (known-number n k kind)) (nine c places (values-few k) (omega arith) parts.1)

bytes_back : (form : Form) (bytes : List ℕ) (k : Kind) (user : ℕ) → length bytes ≡ 10 → kind_at (get_or bytes 0 0) ≡ Known k
    → places_fit form k (drop 1 bytes) user ≡ true → packet_bytes (packet_at bytes) ≡ bytes
unfolding packet_at
bytes_back form bytes k user long kind fit =
    ap (λ (found : Found). packet_bytes (packet_of (kind_or found) (drop 1 bytes))) kind ∙ taken form bytes k user long kind fit

pub round-trips : RoundTrips
round-trips = record { packet-back = packet-back; bytes_back = bytes_back }

-- ---- refused writing

pub by-verdict : (v : Verdict) (len : ℕ) (frame out : List ℕ) → answer_by v len % 256 ≢ 0 → (output_by v frame out ≡ out) × (answer_by v len / 256 ≡ 0)
by-verdict (Ok tt) len frame out h = absurd (h (omega arith))
by-verdict (Err why) len frame out h = (refl, omega (arith, number-alone why))

module _ (form : ℕ) (bytes user out : List ℕ) where
  by_kind : (found : Found) → write_answer_by found form (drop 1 bytes) (length user) (length out) % 256 ≢ 0
      → (write_bytes_by found form (drop 1 bytes) user out ≡ out) × (write_answer_by found form (drop 1 bytes) (length user) (length out) / 256 ≡ 0)
  by_kind (Known k) h =
      by-verdict (places_verdict (form_at form) k (drop 1 bytes) (length user) (length out)) (frame_length (seg_of (form_at form)) (packet_size k (length user)))
      (frame_by (form_at form) k (take (value_count k) (drop 1 bytes)) user) out h
  by_kind Route h = (refl, refl)
  by_kind Unknown h = (refl, refl)

  by_ten : (b : Bool)
      → cond b (write_answer_by (kind_at (get_or bytes 0 0)) form (drop 1 bytes) (length user) (length out)) (number_of OutOfRange) % 256 ≢ 0
      → (cond b (write_bytes_by (kind_at (get_or bytes 0 0)) form (drop 1 bytes) user out) out ≡ out)
      × (cond b (write_answer_by (kind_at (get_or bytes 0 0)) form (drop 1 bytes) (length user) (length out)) (number_of OutOfRange) / 256 ≡ 0)
  by_ten true h = by_kind (kind_at (get_or bytes 0 0)) h
  by_ten false h = (refl, refl)

  write-refused : write_answer form bytes (length user) (length out) % 256 ≢ 0
      → (write_bytes form bytes user out ≡ out) × (write_answer form bytes (length user) (length out) / 256 ≡ 0)
  unfolding write_answer write_bytes
  write-refused h = by_ten (eqb (length bytes) 10) h

-- ---- refused reading

by-room : (answer : ℕ) (packet bytes : List ℕ) (b : Bool) → cond b (256 * answer) (number_of OutputTooShort) % 256 ≢ 0
    → (cond b (over packet bytes) bytes ≡ bytes) × (cond b (256 * answer) (number_of OutputTooShort) / 256 ≡ 0)
by-room answer packet bytes true h = absurd (h (omega arith))
by-room answer packet bytes false h = (refl, refl)

by-checks : (c : Checked) (start user : ℕ) (packet bytes : List ℕ) → read_answer_by c start user (length bytes) % 256 ≢ 0
    → (read_bytes_by c packet bytes ≡ bytes) × (read_answer_by c start user (length bytes) / 256 ≡ 0)
by-checks (Ok tt) start user packet bytes h = by-room (start + 256 * user) packet bytes (leb 10 (length bytes)) h
by-checks (Err fault) start user packet bytes h = (refl, number-alone fault.why)

read-refused : (form : ℕ) (frame bytes : List ℕ) → read_answer form frame (length bytes) % 256 ≢ 0
    → (read_bytes form frame bytes ≡ bytes) × (read_answer form frame (length bytes) / 256 ≡ 0)
unfolding read_answer read_bytes
read-refused form frame bytes h =
    by-checks (read_checks (form_at form) frame) (header_length (found_in frame)) (user_length (found_in frame) (form_at form) frame)
    (packet_in (found_in frame) (form_at form) frame) bytes h

pub refused-bytes-change-nothing : RefusedBytesChangeNothing
refused-bytes-change-nothing = record { write = write-refused; read = read-refused }
