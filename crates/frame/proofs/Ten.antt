-- Typed packets and their ten bytes: what the calls of `frame_reader` and `frame_writer` answer is
-- what the typed calls do.
-- Assumes nothing.
use mathlib.Core.Path.{◌≡◌, refl, sym, ap, ap₂, ◌∙◌}
use mathlib.Core.Bool.{Bool, true, false, cond, ◌&&◌, and-true}
use mathlib.Core.List.{List, [], ◌∷◌, ◌++◌, append-nil}
use Prim.Native.Nat.{ℕ, zero, suc, ◌+◌, ◌-◌, ◌*◌, ◌/◌, ◌%◌, ◌^◌, ◌≤◌}
use native.Mathlib.Omega.{arith}
use lib.Dec.{eqb}
use lib.ListN.{length, get_or, take, drop, replicate}
use lib.Pow.{high, low}
use lib.Seq.{take_at, drop_at}
use borrow.Author.Tests.{eq-eqb, ne_eqb}
use Rattle.refusal.specs.declared.Refusal.{Refusal}
use Rattle.refusal.specs.declared.Fault.{Fault}
use Rattle.refusal.specs.declared.Refusal.TheVariants.{OutOfRange}
use Rattle.refusal.specs.Numbers.{number_of, refusal_at, Verdict}
use Rattle.refusal.specs.Positions.{Checked, refused_at}
use Rattle.refusal.proofs.Numbers.{number-range, number-back as refusal-back}
use Rattle.lists.specs.Lists.{over}
use Rattle.little.specs.Little.{flag}
use Rattle.frame_form.specs.declared.Form.{Form}
use Rattle.frame_form.specs.Forms.{seg_of, form_valid, is_uplink, form_at, form_code}
use Rattle.frame_form.specs.Segments.{frame_length}
use Rattle.frame_form.specs.Frames.{all_zero}
use Rattle.frame_form.proofs.Forms.{code-back, code-none}
use Rattle.frame_form.proofs.Frames.{zeros-zero}
use Rattle.frame_kinds.specs.declared.Kind.{Kind}
use Rattle.frame_kinds.specs.declared.Kind.TheVariants.{Data as DataKind}
use Rattle.frame_kinds.specs.declared.Found.{Found}
use Rattle.frame_kinds.specs.declared.Found.TheVariants.{Known, Route, Unknown}
use Rattle.frame_kinds.specs.Kinds.{size_of, route_layout, kind_number, route_number, kind_at, value_count, ten_of, ten_bytes}
use Rattle.frame_kinds.proofs.Table.{values-nine}
use Rattle.frame_kinds.proofs.Stored.{number-back, not-route, header-few, values-few, ten-length}
use Rattle.frame_reader.specs.Reading.{found_in, length_in, header_length, user_length, values_as, packet_in, read_checks, fault_answer, read_answer, read_bytes}
use Rattle.frame_reader.proofs.Cases.{refused-answer, refused-fault, passed-answer, passed-bytes, form-refused}
use Rattle.frame_writer.specs.Writing.{packet_size, values_fit, frame_by, write_verdict, output_by, answer_by, places_fit, places_verdict, data_places, write_answer_by, write_answer, write_bytes_by, write_bytes}
use Rattle.frame_writer.specs.Routes.{route_length, route_frame, route_verdict, route_answer, route_bytes}
use Rattle.frame_writer.proofs.Answers.{ten-answer, ten-bytes}
use Rattle.frame.specs.declared.Packet.{Packet}
use Rattle.frame.specs.declared.Data.{Data as DataFields}
use Rattle.frame.specs.declared.Packet.TheVariants.{Data}
use Rattle.frame.specs.declared.UserData.{UserData}
use Rattle.frame.specs.Packets.{kind_of, values_of, data_of, packet_of, packet_bytes, kind_or, packet_at, as_data, Read}
use Rattle.frame.specs.Routes.{write_route_of, write_route_output}
use Rattle.frame.specs.Reading.{route_of, place_in, contents_at, read_by, read_of, data_read_by, data_read_of}
use Rattle.frame.proofs.KindLaws.{counted, packet-same, data-kind}
use Rattle.frame.proofs.OneLayout.{free_in}
use Rattle.frame.proofs.Frames.{checks-passed, never-unknown}
use Rattle.frame.specs.Writing.{length_of, fits, frame_of, frame_verdict, written_by, written_at, write_of, write_output}
use Rattle.frame.specs.declared.Contents.TheVariants.{Packet as PacketIn, Route as RouteIn}
use Rattle.std.specs.Prelude.{Ok, Err, Option, Some, None}

-- ---- writing

-- the nine bytes after the first
abbrev pub places_of : Packet → List ℕ
places_of p = values_of p ++ replicate (9 - length (values_of p)) 0

pub places-values : (p : Packet) → take (value_count (kind_of p)) (places_of p) ≡ values_of p
places-values p = take_at (values_of p) (replicate (9 - length (values_of p)) 0) (value_count (kind_of p)) (counted p)

pub places-fit : (form : Form) (p : Packet) (user : ℕ) → places_fit form (kind_of p) (places_of p) user ≡ fits form p user
unfolding places_fit
places-fit form p user =
    let zeros : List ℕ = replicate (9 - length (values_of p)) 0 in
    let none : all_zero (drop (value_count (kind_of p)) (places_of p)) ≡ true =
    ap all_zero (drop_at (values_of p) zeros (value_count (kind_of p)) (counted p)) ∙ zeros-zero (9 - length (values_of p)) in
    ap₂ (λ (vs : List ℕ) (b : Bool). values_fit form (kind_of p) vs user && b) (places-values p) none ∙ and-true (fits form p user)

pub ten : (p : Packet) → length (packet_bytes p) ≡ 10
ten p = ten-length (kind_number (kind_of p)) (values_of p) (omega (arith, counted p, values-few (kind_of p)))

-- the answer's number gives the answer
written_back : (v : Verdict) (len : ℕ) → written_at (answer_by v len) ≡ written_by v len
unfolding written_at
written_back (Ok tt) len =
    let z : (0 + 256 * len) % 256 ≡ 0 = omega arith in
    let n : (0 + 256 * len) / 256 ≡ len = omega arith in
    rw (eq-eqb ((0 + 256 * len) % 256) 0 z, n)
written_back (Err why) len =
    let r = number-range why in
    let e : (number_of why + 256 * 0) % 256 ≡ number_of why = omega (arith, r.1) in
    let some : (number_of why + 256 * 0) % 256 ≡ 0 → ⊥ = λ z. omega (arith, e, z, r.0) in
    rw (ne_eqb ((number_of why + 256 * 0) % 256) 0 some, e, refusal-back why)

-- no form but a valid one is written
no-form : (form : Form) (fit : Bool) (n room : ℕ) (len : ℕ) → form_valid form ≡ false → written_by (write_verdict form fit n room) len ≡ written_by (Err OutOfRange) len
unfolding write_verdict
no-form form fit n room len e = rw e

no_output : (form : Form) (fit : Bool) (n room : ℕ) (frame out : List ℕ) → form_valid form ≡ false → output_by (write_verdict form fit n room) frame out ≡ out
unfolding write_verdict
no_output form fit n room frame out e = rw e

module _ (form : Form) (p : Packet) (user out : List ℕ) where
  abbrev verdict : Form → Verdict
  verdict f = places_verdict f (kind_of p) (places_of p) (length user) (length out)

  abbrev made : Form → List ℕ
  made f = output_by (verdict f) (frame_by f (kind_of p) (take (value_count (kind_of p)) (places_of p)) user) out

  same-verdict : verdict form ≡ frame_verdict form p (length user) (length out)
  same-verdict = ap (λ (b : Bool). write_verdict form b (packet_size (kind_of p) (length user)) (length out)) (places-fit form p (length user))

  answer-is : written_at (write_answer_by (Known (kind_of p)) (form_code form) (places_of p) (length user) (length out)) ≡ write_of form p (length user) (length out)
  unfolding write_of
  answer-is = written_back (verdict (form_at (form_code form))) (frame_length (seg_of (form_at (form_code form))) (packet_size (kind_of p) (length user))) ∙ go (form_valid form) refl
    where
      go : (b : Bool) → form_valid form ≡ b
          → written_by (verdict (form_at (form_code form))) (frame_length (seg_of (form_at (form_code form))) (packet_size (kind_of p) (length user)))
          ≡ written_by (frame_verdict form p (length user) (length out)) (frame_length (seg_of form) (length_of p (length user)))
      go true e =
          ap (λ (f : Form). written_by (verdict f) (frame_length (seg_of f) (packet_size (kind_of p) (length user)))) (code-back form e)
          ∙ ap (λ (v : Verdict). written_by v (frame_length (seg_of form) (length_of p (length user)))) same-verdict
      go false e =
          no-form (form_at (form_code form)) _ _ _ _ (code-none form e) ∙ sym (no-form form _ _ _ (frame_length (seg_of form) (length_of p (length user))) e)

  output-is : write_bytes_by (Known (kind_of p)) (form_code form) (places_of p) user out ≡ write_output form p user out
  unfolding write_output
  output-is = go (form_valid form) refl
    where
      go : (b : Bool) → form_valid form ≡ b → made (form_at (form_code form)) ≡ output_by (frame_verdict form p (length user) (length out)) (frame_of form p user) out
      go true e =
          ap made (code-back form e)
          ∙ ap₂ (λ (v : Verdict) (vs : List ℕ). output_by v (frame_by form (kind_of p) vs user) out) same-verdict (places-values p)
      go false e = no_output (form_at (form_code form)) _ _ _ _ out (code-none form e) ∙ sym (no_output form _ _ _ _ out e)

  -- from the values of the kind
  pub wrote-places : (r : ℕ) (last : List ℕ) → r ≡ write_answer_by (Known (kind_of p)) (form_code form) (places_of p) (length user) (length out)
      → last ≡ write_bytes_by (Known (kind_of p)) (form_code form) (places_of p) user out
      → (written_at r ≡ write_of form p (length user) (length out)) × (last ≡ write_output form p user out)
  wrote-places r last er el = (ap written_at er ∙ answer-is, el ∙ output-is)

  -- from the ten bytes
  pub wrote-ten : (r : ℕ) (last : List ℕ) → r ≡ write_answer (form_code form) (packet_bytes p) (length user) (length out)
      → last ≡ write_bytes (form_code form) (packet_bytes p) user out → (written_at r ≡ write_of form p (length user) (length out)) × (last ≡ write_output form p user out)
  unfolding ten_of
  wrote-ten r last er el =
      let known : Known (kind_of p) ≡ kind_at (get_or (packet_bytes p) 0 0) = sym (number-back (kind_of p)) in
      wrote-places r last
      (er ∙ sym (ten-answer (form_code form) (packet_bytes p) (Known (kind_of p)) (length user) (length out) (ten p) known))
      (el ∙ sym (ten-bytes (form_code form) (packet_bytes p) (Known (kind_of p)) user out (ten p) known))

-- a ROUTE
module _ (form : Form) (optional initial : Bool) (table extra out : List ℕ) where
  abbrev t : ℕ
  t = length table

  abbrev e : ℕ
  e = length extra

  abbrev asked : Form → Verdict
  asked f = route_verdict f (flag optional) (flag initial) t e (length out)

  route-answer : written_at (route_answer (form_code form) (flag optional) (flag initial) t e (length out)) ≡ write_route_of form optional initial t e (length out)
  unfolding route_answer write_route_of
  route-answer = written_back (asked (form_at (form_code form))) (frame_length (seg_of (form_at (form_code form))) (route_length (flag optional) t e)) ∙ go (form_valid form) refl
    where
      go : (b : Bool) → form_valid form ≡ b
          → written_by (asked (form_at (form_code form))) (frame_length (seg_of (form_at (form_code form))) (route_length (flag optional) t e))
          ≡ written_by (asked form) (frame_length (seg_of form) (route_length (flag optional) t e))
      go true q = ap (λ (f : Form). written_by (asked f) (frame_length (seg_of f) (route_length (flag optional) t e))) (code-back form q)
      go false q = no-form (form_at (form_code form)) _ _ _ _ (code-none form q) ∙ sym (no-form form _ _ _ (frame_length (seg_of form) (route_length (flag optional) t e)) q)

  route-output : route_bytes (form_code form) (flag optional) (flag initial) table extra out ≡ write_route_output form optional initial table extra out
  unfolding route_bytes write_route_output
  route-output = go (form_valid form) refl
    where
      go : (b : Bool) → form_valid form ≡ b
          → output_by (asked (form_at (form_code form))) (route_frame (form_at (form_code form)) (flag optional) (flag initial) table extra) out
          ≡ output_by (asked form) (route_frame form (flag optional) (flag initial) table extra) out
      go true q = ap (λ (f : Form). output_by (asked f) (route_frame f (flag optional) (flag initial) table extra) out) (code-back form q)
      go false q = no_output (form_at (form_code form)) _ _ _ _ out (code-none form q) ∙ sym (no_output form _ _ _ _ out q)

  pub wrote-route : (number o i r : ℕ) (last : List ℕ) → number ≡ form_code form → o ≡ flag optional → i ≡ flag initial → r ≡ route_answer number o i t e (length out)
      → last ≡ route_bytes number o i table extra out
      → (written_at r ≡ write_route_of form optional initial t e (length out)) × (last ≡ write_route_output form optional initial table extra out)
  wrote-route number o i r last en eo ei er el =
      (ap written_at (er ∙ rw (en, eo, ei) refl) ∙ route-answer, el ∙ rw (en, eo, ei) refl ∙ route-output)

-- ---- reading

-- ten bytes over ten others
all-ten : (n : ℕ) (vs : List ℕ) → length vs ≤ 9 → over (ten_of n vs) (replicate 10 0) ≡ ten_of n vs
all-ten n vs few =
    ap (λ (m : ℕ). ten_of n vs ++ drop m (replicate 10 0)) (ten-length n vs few) ∙ append-nil (ten_of n vs)

-- zeros after the values are no values
pub pad-get : (vs : List ℕ) (n i : ℕ) → get_or (vs ++ replicate n 0) i 0 ≡ get_or vs i 0
pad-get [] zero i = refl
pad-get [] (suc n) zero = refl
pad-get [] (suc n) (suc i) = pad-get [] n i
pad-get (v ∷ vs) n zero = refl
pad-get (v ∷ vs) n (suc i) = pad-get vs n i

-- the ten bytes of a kind and its values give the packet
packet-back : (k : Kind) (vs : List ℕ) → packet_at (ten_bytes k vs) ≡ packet_of k vs
unfolding packet_at ten_of
packet-back k vs =
    ap (λ (f : Found). packet_of (kind_or f) (vs ++ replicate (9 - length vs) 0)) (number-back k)
    ∙ packet-same k (vs ++ replicate (9 - length vs) 0) vs (λ j l. pad-get vs (9 - length vs) j)

known_at : (k : Kind) (vs : List ℕ) (user : UserData) → contents_at (ten_bytes k vs) user ≡ PacketIn (packet_of k vs) user
unfolding contents_at ten_of
known_at k vs user = rw (not-route k) (ap (λ (p : Packet). PacketIn p user) (packet-back k vs))

route-at : (frame : List ℕ) (user : UserData) → contents_at (ten_of route_number (free_in route_layout frame)) user ≡ RouteIn (route_of (free_in route_layout frame) user.len)
unfolding contents_at ten_of
route-at frame user = refl

-- the answer, from what `frame_reader` answered and wrote
abbrev pub answer_at : ℕ → List ℕ → ℕ → Read
answer_at answer bytes at =
    cond (eqb (answer % 256) 0) (Ok (contents_at bytes (place_in answer))) (refused_at (refusal_at (answer % 256)) at)

-- a place, from the number
placed : (size m : ℕ) → size ≤ 7 → let a = 256 * (size + 256 * m) in (a % 256 ≡ 0) × (a / 256 % 256 ≡ size) × (a / 65536 ≡ m)
placed size m few =
    let a = 256 * (size + 256 * m) in
    let above : a / 256 ≡ m * 2 ^ 8 + size = omega arith in
    let sum : a ≡ m * 2 ^ 16 + 256 * size = omega arith in
    (omega arith, ap (λ (x : ℕ). x % 256) above ∙ low m 8 (omega (arith, few)), ap (λ (x : ℕ). x / 65536) sum ∙ high m 16 (omega (arith, few)))

module _ (form : Form) (frame : List ℕ) where
  abbrev code : ℕ
  code = form_code form

  -- the form's number has the same checks
  same-checks : read_checks (form_at code) frame ≡ read_checks form frame
  same-checks = go (form_valid form) refl
    where
      go : (b : Bool) → form_valid form ≡ b → read_checks (form_at code) frame ≡ read_checks form frame
      go true e = ap (λ (f : Form). read_checks f frame) (code-back form e)
      go false e = form-refused (form_at code) frame (code-none form e) ∙ sym (form-refused form frame e)

  refused-back : (why : Refusal) (at : ℕ) (bytes : List ℕ) → read_checks form frame ≡ refused_at why at
      → answer_at (read_answer code frame 10) bytes (fault_answer code frame) ≡ refused_at why at
  refused-back why at bytes e =
      let c = same-checks ∙ e in
      let r = number-range why in
      let small : number_of why % 256 ≡ number_of why = omega (arith, r.1) in
      let some : number_of why % 256 ≡ 0 → ⊥ = λ z. omega (arith, small, z, r.0) in
      ap₂ (λ (a b : ℕ). answer_at a bytes b) (refused-answer code frame why at c 10) (refused-fault code frame why at c)
      ∙ rw (ne_eqb (number_of why % 256) 0 some, small, refusal-back why)

  -- what passes gives ten bytes and a place
  passed-back : (found : Found) (n : ℕ) (vs : List ℕ) → found_in frame ≡ found → read_checks form frame ≡ Ok tt → header_length found ≤ 7 → length vs ≤ 9
      → packet_in found (form_at code) frame ≡ ten_of n vs
      → answer_at (read_answer code frame 10) (read_bytes code frame (replicate 10 0)) (fault_answer code frame)
      ≡ Ok (contents_at (ten_of n vs) (record { at = header_length found; len = user_length found form frame }))
  passed-back found n vs f e few nine ten =
      let c = same-checks ∙ e in
      let valid = (checks-passed form frame e).valid in
      let m = user_length found form frame in
      let packet : length_in found (form_at code) frame ≡ length_in found form frame = ap (λ (g : Form). length_in found g frame) (code-back form valid) in
      let p = placed (header_length found) m few in
      let bytes : read_bytes code frame (replicate 10 0) ≡ ten_of n vs =
      passed-bytes code frame c found (replicate 10 0) f (omega arith) ∙ ap (λ (l : List ℕ). over l (replicate 10 0)) ten ∙ all-ten n vs nine in
      ap₂ (λ (x : ℕ) (b : List ℕ). answer_at x b (fault_answer code frame)) (passed-answer code frame c found 10 (length_in found form frame) f (omega arith) packet) bytes
      ∙ rw (eq-eqb (256 * (header_length found + 256 * m) % 256) 0 p.0, p.1, p.2)

  same-values : (found : Found) → form_valid form ≡ true → values_as found (form_at code) frame ≡ values_as found form frame
  same-values found valid = ap (λ (g : Form). values_as found g frame) (code-back form valid)

  pub read_back : answer_at (read_answer code frame 10) (read_bytes code frame (replicate 10 0)) (fault_answer code frame) ≡ read_of form frame
  unfolding read_of
  read_back = go (read_checks form frame) (found_in frame) refl refl
    where
      go : (c : Checked) (f : Found) → read_checks form frame ≡ c → found_in frame ≡ f
          → answer_at (read_answer code frame 10) (read_bytes code frame (replicate 10 0)) (fault_answer code frame) ≡ read_by c f form frame
      go (Err fault) f ec ef = refused-back fault.why fault.at _ ec
      go (Ok tt) (Known k) ec ef =
          let vs = values_as (Known k) form frame in
          passed-back (Known k) (kind_number k) vs ef ec (header-few k).1 (values-nine (is_uplink form) k _) (ap (ten_bytes k) (same-values (Known k) (checks-passed form frame ec).valid))
          ∙ ap Ok (known_at k vs (record { at = size_of k; len = user_length (Known k) form frame }))
      go (Ok tt) Route ec ef = passed-back Route route_number (values_as Route form frame) ef ec (omega arith) (omega arith) refl ∙ ap Ok (route-at frame _)
      go (Ok tt) Unknown ec ef = absurd (never-unknown form frame ec ef)

-- ---- the same, in the shape of the code's facts

pub wrote-data : (form : Form) (d : DataFields) (user out : List ℕ) (number m r : ℕ) (last : List ℕ) → number ≡ form_code form → m ≡ flag d.m
    → r ≡ write_answer_by (Known DataKind) number (data_places m d.sn.0 d.ps.0 d.pr.0 d.ch) (length user) (length out)
    → last ≡ write_bytes_by (Known DataKind) number (data_places m d.sn.0 d.ps.0 d.pr.0 d.ch) user out
    → (written_at r ≡ write_of form (Data d) (length user) (length out)) × (last ≡ write_output form (Data d) user out)
wrote-data form d user out number m r last en em er el =
    wrote-places form (Data d) user out r last
    (er ∙ ap₂ (λ (n x : ℕ). write_answer_by (Known DataKind) n (data_places x d.sn.0 d.ps.0 d.pr.0 d.ch) (length user) (length out)) en em)
    (el ∙ ap₂ (λ (n x : ℕ). write_bytes_by (Known DataKind) n (data_places x d.sn.0 d.ps.0 d.pr.0 d.ch) user out) en em)

pub wrote-bytes : (form : Form) (p : Packet) (user out : List ℕ) (number : ℕ) (bytes : List ℕ) (r : ℕ) (last : List ℕ) → number ≡ form_code form → bytes ≡ packet_bytes p
    → r ≡ write_answer number bytes (length user) (length out) → last ≡ write_bytes number bytes user out
    → (written_at r ≡ write_of form p (length user) (length out)) × (last ≡ write_output form p user out)
wrote-bytes form p user out number bytes r last en eb er el =
    wrote-ten form p user out r last
    (er ∙ ap₂ (λ (n : ℕ) (b : List ℕ). write_answer n b (length user) (length out)) en eb)
    (el ∙ ap₂ (λ (n : ℕ) (b : List ℕ). write_bytes n b user out) en eb)

-- ten bytes whose first is 0 are DATA
first-data : (bytes : List ℕ) (place : UserData) → get_or bytes 0 0 ≡ 0 → data_read_of (Ok (contents_at bytes place)) ≡ Ok (Some ((data_of (drop 1 bytes)), place))
unfolding contents_at packet_at kind_at
first-data bytes place z = rw z

-- and no other kind has that number
other-kind : (k : Kind) (vs : List ℕ) (place : UserData) → (kind_number k ≡ 0 → ⊥) → Ok None ≡ data_read_of (Ok (PacketIn (packet_of k vs) place))
other-kind k vs place h = go (as_data (packet_of k vs)) refl
  where
    go : (x : Option DataFields) → as_data (packet_of k vs) ≡ x → Ok None ≡ data_read_by x place
    go None e = refl
    go (Some d) e = absurd (h (ap kind_number (data-kind k vs d e)))

module _ (form : Form) (frame : List ℕ) (number answer : ℕ) (bytes : List ℕ) (en : number ≡ form_code form) (ea : answer ≡ read_answer number frame 10)
    (eb : bytes ≡ read_bytes number frame (replicate 10 0)) where
  as_read : (at : ℕ) → at ≡ fault_answer number frame → answer_at answer bytes at ≡ read_of form frame
  as_read at ef =
      ap (λ (x : ℕ). answer_at x bytes at) (ea ∙ ap (λ (n : ℕ). read_answer n frame 10) en)
      ∙ ap₂ (λ (b : List ℕ) (x : ℕ). answer_at (read_answer (form_code form) frame 10) b x) (eb ∙ ap (λ (n : ℕ). read_bytes n frame (replicate 10 0)) en) (ef ∙ ap (λ (n : ℕ). fault_answer n frame) en)
      ∙ read_back form frame

  pub read_done : (r : Read) → answer % 256 ≡ 0 → r ≡ Ok (contents_at bytes (place_in answer)) → r ≡ read_of form frame
  read_done r e er =
      er
      ∙ sym (ap (λ (b : Bool). cond b (Ok (contents_at bytes (place_in answer))) (refused_at (refusal_at (answer % 256)) (fault_answer number frame))) (eq-eqb (answer % 256) 0 e))
      ∙ as_read (fault_answer number frame) refl

  abbrev told : Fault
  told = record { why = refusal_at (answer % 256); at = fault_answer number frame }

  pub read-refused : (fault : Fault) → (answer % 256 ≡ 0 → ⊥) → fault ≡ told → Err fault ≡ read_of form frame
  read-refused fault e ef =
      ap Err ef
      ∙ sym (ap (λ (b : Bool). cond b (Ok (contents_at bytes (place_in answer))) (Err told)) (ne_eqb (answer % 256) 0 e))
      ∙ as_read (fault_answer number frame) refl

  -- the same, of DATA alone
  pub data-done : (d : DataFields) → answer % 256 ≡ 0 → get_or bytes 0 0 ≡ 0 → d ≡ data_of (drop 1 bytes)
      → Ok (Some (d, (place_in answer))) ≡ data_read_of (read_of form frame)
  data-done d e z ed =
      let place : UserData = place_in answer in
      ap (λ (x : DataFields). Ok (Some (x, place))) ed ∙ sym (first-data bytes place z) ∙ ap data_read_of (read_done (Ok (contents_at bytes place)) e refl)

  pub data-refused : (fault : Fault) → (answer % 256 ≡ 0 → ⊥) → fault ≡ told → Err fault ≡ data_read_of (read_of form frame)
  data-refused fault e ef = ap data_read_of (read-refused fault e ef)

  first_byte : (k : Kind) → read_checks form frame ≡ Ok tt → found_in frame ≡ Known k → get_or bytes 0 0 ≡ kind_number k
  unfolding ten_of
  first_byte k ec ef =
      ap (λ (l : List ℕ). get_or l 0 0)
      (eb ∙ ap (λ (n : ℕ). read_bytes n frame (replicate 10 0)) en ∙ passed-bytes (form_code form) frame (same-checks form frame ∙ ec) (Known k) (replicate 10 0) ef (omega arith))

  pub data-other : answer % 256 ≡ 0 → (get_or bytes 0 0 ≡ 0 → ⊥) → Ok None ≡ data_read_of (read_of form frame)
  unfolding read_of
  data-other e some = go (read_checks form frame) (found_in frame) refl refl
    where
      go : (c : Checked) (f : Found) → read_checks form frame ≡ c → found_in frame ≡ f → Ok None ≡ data_read_of (read_by c f form frame)
      go (Err fault) f ec ef =
          let refused : answer ≡ number_of fault.why = ea ∙ ap (λ (n : ℕ). read_answer n frame 10) en ∙ refused-answer (form_code form) frame fault.why fault.at (same-checks form frame ∙ ec) 10 in
          absurd (omega (arith, e, refused, number-range fault.why))
      go (Ok tt) (Known k) ec ef = other-kind k _ _ (λ z. some (first_byte k ec ef ∙ z))
      go (Ok tt) Route ec ef = refl
      go (Ok tt) Unknown ec ef = absurd (never-unknown form frame ec ef)
