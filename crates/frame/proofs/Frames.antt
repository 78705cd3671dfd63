-- Frames of every kind: what is written reads, what reads was written, and what each of the calls'
-- verdicts means.
-- Assumes nothing.
use mathlib.Core.Path.{◌≡◌, refl, sym, ap, ap₂, ◌∙◌, subst}
use mathlib.Core.Bool.{Bool, true, false, ◌&&◌, ◌||◌, true≢false}
use mathlib.Core.List.{List, ◌++◌}
use Prim.Native.Nat.{ℕ, ◌+◌, ◌-◌, ◌%◌, ◌≤◌}
use native.Mathlib.Omega.{arith}
use lib.Dec.{leb, eqb}
use lib.ListN.{length, drop, get_or}
use borrow.Author.Tests.{leb-true, le-leb, eq-eqb, eqb-true}
use Rattle.refusal.specs.declared.Refusal.TheVariants.{OutOfRange, Malformed, FormatError, PacketTooLong}
use Rattle.refusal.specs.Positions.{Checked, check_at}
use Rattle.refusal.proofs.Checks.{both_true, at-passed}
use Rattle.frame_fields.specs.Rows.{AreBytes}
use Rattle.frame_fields.specs.Layouts.{fields, has_lv, within, header, free_values}
use Rattle.frame_fields.proofs.Headers.{free_back}
use Rattle.frame_fields.proofs.Tags.{header-opens}
use Rattle.frame_form.specs.declared.Form.{Form}
use Rattle.frame_form.specs.Forms.{seg_of, most_of, form_valid}
use Rattle.frame_form.specs.Segments.{last_used, frame_length, whole_segments}
use Rattle.frame_form.specs.Frames.{framed}
use Rattle.frame_form.proofs.Forms.{segment-some, segment-few, segment-seven}
use Rattle.frame_form.proofs.Segments.{used-range, frame-whole, whole-some, whole-none-over}
use Rattle.frame_form.proofs.Frames.{framed-length, user-of}
use Rattle.frame_kinds.specs.declared.Kind.{Kind}
use Rattle.frame_kinds.specs.declared.Found.{Found}
use Rattle.frame_kinds.specs.declared.Found.TheVariants.{Known, Route, Unknown}
use Rattle.frame_kinds.specs.Kinds.{size_of, layout_of, kinds}
use Rattle.frame_kinds.proofs.Every.{in_table}
use Rattle.frame_kinds.proofs.Table.{sound, found}
use Rattle.frame_kinds.proofs.Stored.{header-few}
use Rattle.frame_reader.specs.Faults.{packet_length, first_fault}
use Rattle.frame_reader.specs.Reading.{found_in, fault_of, length_in, read_checks}
use Rattle.frame_reader.proofs.Cases.{no-fault}
use Rattle.frame_writer.specs.Writing.{values_fit, frame_by, output_by}
use Rattle.frame.specs.declared.Packet.{Packet}
use Rattle.frame.specs.declared.UserData.{UserData}
use Rattle.frame.specs.Packets.{kind_of, values_of, packet_of}
use Rattle.frame.specs.Writing.{length_of, fits, frame_of, frame_verdict, written_by, write_output}
use Rattle.frame.specs.Reading.{read_by, read_of, part_of, place_of}
use Rattle.frame.proofs.KindLaws.{kind-made, values-made, packet-made}
use Rattle.frame.proofs.OneLayout.{header-length, frame_as, values-back, content-good, free_in, free-in-range, inside, frame-fills, header-only, frame-again}
use Rattle.refusal.specs.Numbers.{Verdict}
use Rattle.frame.specs.declared.Contents.TheVariants.{Packet as PacketIn}
use Rattle.std.specs.Prelude.{Ok, Err}

-- ---- what holds if a writer answers done

pub written-done : (v : Verdict) (len n : ℕ) → written_by v len ≡ Ok n → (v ≡ Ok tt) × (len ≡ n)
written-done (Ok tt) len n e = (refl, cc)
written-done (Err why) len n e = let z : ◌≡◌ {A = ℕ} 0 1 = cc in absurd (omega arith)

-- a packet that fits has its values within their fields, and without LV it has no user data
pub fit_parts : (form : Form) (p : Packet) (user : ℕ) → fits form p user ≡ true
    → (within (fields (layout_of form (kind_of p))) (values_of p) ≡ true) × (has_lv (fields (layout_of form (kind_of p))) ≡ false → user ≡ 0)
unfolding values_fit
fit_parts form p user e =
    let a = both_true (within (fields (layout_of form (kind_of p))) (values_of p)) (has_lv (fields (layout_of form (kind_of p))) || eqb user 0) e in
    (a.0, λ h. eqb-true user 0 (sym (ap (λ (b : Bool). b || eqb user 0) h) ∙ a.1))

-- ---- written, then read

-- a frame of the kind k, with these values of its free fields
module _ (form : Form) (k : Kind) (vs user : List ℕ) (fit : within (fields (layout_of form k)) vs ≡ true) where
  frame-size : length (frame_as (seg_of form) (layout_of form k) vs user) ≡ frame_length (seg_of form) ((layout_of form k).size + length user)
  frame-size =
      let u = last_used (seg_of form) ((layout_of form k).size + length user) in
      framed-length (seg_of form) (layout_of form k).size (header (layout_of form k) u vs) user (header-length (layout_of form k) u vs)

  names-kind : found_in (frame_as (seg_of form) (layout_of form k) vs user) ≡ Known k
  unfolding framed
  names-kind =
      let u = last_used (seg_of form) ((layout_of form k).size + length user) in
      let few : u ≤ 15 = omega (arith, segment-few form, (used-range (seg_of form) ((layout_of form k).size + length user) (segment-some form)).1) in
      found kinds k (get_or (frame_as (seg_of form) (layout_of form k) vs user) 0 0) (in_table k) (header-opens 15 u (layout_of form k) vs _ (sound form k) few fit)

  free-is : free_in (layout_of form k) (frame_as (seg_of form) (layout_of form k) vs user) ≡ vs
  free-is =
      ap (free_values (fields (layout_of form k))) (values-back (seg_of form) (layout_of form k) (sound form k) (segment-some form) (segment-few form) vs user fit)
      ∙ free_back (last_used (seg_of form) ((layout_of form k).size + length user)) (fields (layout_of form k)) vs fit

  is_whole : whole_segments (seg_of form) (length (frame_as (seg_of form) (layout_of form k) vs user)) ≡ true
  unfolding whole_segments
  is_whole =
      let n = (layout_of form k).size + length user in
      let len = length (frame_as (seg_of form) (layout_of form k) vs user) in
      let multiple : len % seg_of form ≡ 0 = ap (λ (x : ℕ). x % seg_of form) frame-size ∙ frame-whole (seg_of form) n (segment-some form) in
      rw (le-leb 1 len (omega (arith, frame-size, (sound form k).bytes)), eq-eqb (len % seg_of form) 0 multiple)

  kind-reads : form_valid form ≡ true → (has_lv (fields (layout_of form k)) ≡ false → length user ≡ 0) → (layout_of form k).size + length user ≤ most_of form
      → read_of form (frame_as (seg_of form) (layout_of form k) vs user) ≡ Ok (PacketIn (packet_of k vs) (record { at = (layout_of form k).size; len = length user }))
  unfolding read_of
  kind-reads good no-data most =
      let l = layout_of form k in
      let n = l.size + length user in
      let frame = frame_as (seg_of form) l vs user in
      let content = content-good (seg_of form) l (sound form k) (segment-some form) (segment-few form) vs user fit (λ es e. no-data e) (λ es. absurd (true≢false (sym es))) in
      let checks : read_checks form frame ≡ Ok tt =
      no-fault form frame good is_whole n (ap (λ (f : Found). fault_of f form frame) names-kind ∙ content.0) (ap (λ (f : Found). length_in f form frame) names-kind ∙ content.1)
      ∙ ap (λ (b : Bool). check_at b PacketTooLong (most_of form) (Ok tt)) (le-leb n (most_of form) most) in
      let back : packet_length (seg_of form) l frame - l.size ≡ length user = omega (arith, content.1) in
      ap₂ (λ (c : Checked) (f : Found). read_by c f form frame) checks names-kind
      ∙ ap₂ (λ (v : List ℕ) (m : ℕ). Ok (PacketIn (packet_of k v) (record { at = l.size; len = m }))) free-is back

-- ---- read, then written

-- What is known of a frame that reads.
pub record IsFrame (form : Form) (frame : List ℕ) (p : Packet) (place : UserData) : Type 0 where
  pub good : form_valid form ≡ true
  pub fit : fits form p place.len ≡ true
  pub header-first : place.at ≡ (layout_of form (kind_of p)).size
  pub within-frame : place.at + place.len ≤ length frame
  pub most : length_of p place.len ≤ most_of form
  pub fills : frame_length (seg_of form) (length_of p place.len) ≡ length frame
  pub again : AreBytes frame → frame_of form p (part_of frame place) ≡ frame

-- a packet of the kind k with these values fits
fits-as : (form : Form) (k : Kind) (vs : List ℕ) (user : ℕ) → within (fields (layout_of form k)) vs ≡ true → (has_lv (fields (layout_of form k)) ≡ false → user ≡ 0) → fits form (packet_of k vs) user ≡ true
unfolding values_fit
fits-as form k vs user fit no-data =
    ap₂ (λ (j : Kind) (xs : List ℕ). within (fields (layout_of form j)) xs && (has_lv (fields (layout_of form j)) || eqb user 0)) (kind-made k vs) (values-made form k vs fit)
    ∙ rw fit (go (has_lv (fields (layout_of form k))) refl)
  where
    go : (b : Bool) → has_lv (fields (layout_of form k)) ≡ b → (has_lv (fields (layout_of form k)) || eqb user 0) ≡ true
    go true e = rw e
    go false e = rw e (eq-eqb user 0 (no-data e))

frame-as : (form : Form) (k : Kind) (vs user : List ℕ) → within (fields (layout_of form k)) vs ≡ true → frame_of form (packet_of k vs) user ≡ frame_as (seg_of form) (layout_of form k) vs user
unfolding frame_by
frame-as form k vs user fit = ap₂ (λ (j : Kind) (xs : List ℕ). frame_as (seg_of form) (layout_of form j) xs user) (kind-made k vs) (values-made form k vs fit)

-- What is known of a frame that passes.
pub record Passed (form : Form) (frame : List ℕ) : Type 0 where
  pub valid : form_valid form ≡ true
  pub whole : whole_segments (seg_of form) (length frame) ≡ true
  pub none : fault_of (found_in frame) form frame ≡ length frame
  pub most : length_in (found_in frame) form frame ≤ most_of form

pub checks-passed : (form : Form) (frame : List ℕ) → read_checks form frame ≡ Ok tt → Passed form frame
unfolding read_checks
checks-passed form frame e =
    let at = fault_of (found_in frame) form frame in
    let n = length_in (found_in frame) form frame in
    let d = check_at (leb n (most_of form)) PacketTooLong (most_of form) (Ok tt) in
    let c = check_at (eqb at (length frame)) FormatError at d in
    let b = check_at (whole_segments (seg_of form) (length frame)) Malformed (length frame) c in
    let p = at-passed (form_valid form) OutOfRange 0 b e in
    let q = at-passed (whole_segments (seg_of form) (length frame)) Malformed (length frame) c p.1 in
    let r = at-passed (eqb at (length frame)) FormatError at d q.1 in
    let s = at-passed (leb n (most_of form)) PacketTooLong (most_of form) (Ok tt) r.1 in
    record { valid = p.0; whole = q.0; none = eqb-true at (length frame) r.0; most = leb-true n (most_of form) s.0 }

-- a frame of no known kind does not
pub never-unknown : (form : Form) (frame : List ℕ) → read_checks form frame ≡ Ok tt → found_in frame ≡ Unknown → ⊥
never-unknown form frame e ef =
    let q = checks-passed form frame e in
    let none : 0 ≡ length frame = sym (ap (λ (x : Found). fault_of x form frame) ef) ∙ q.none in
    omega (arith, none, segment-some form, whole-some (seg_of form) (length frame) (segment-some form) q.whole)

module _ (form : Form) (frame : List ℕ) (k : Kind) (valid : form_valid form ≡ true) (whole : whole_segments (seg_of form) (length frame) ≡ true)
    (none : first_fault (seg_of form) (layout_of form k) frame ≡ length frame) (most : packet_length (seg_of form) (layout_of form k) frame ≤ most_of form) where
  kind-frame : IsFrame form frame (packet_of k (free_in (layout_of form k) frame)) (record { at = (layout_of form k).size; len = packet_length (seg_of form) (layout_of form k) frame - (layout_of form k).size })
  kind-frame =
      let l = layout_of form k in
      let seg = seg_of form in
      let vs = free_in l frame in
      let n = packet_length seg l frame in
      let some = whole-some seg (length frame) (segment-some form) whole in
      let multiple = whole-none-over seg (length frame) whole in
      let small : l.size ≤ seg = omega (arith, (header-few k).1, segment-seven form) in
      let plain : l.strings ≡ true → has_lv (fields l) ≡ false = λ e. absurd (true≢false (sym e)) in
      let in-it = inside seg l (sound form k) (segment-some form) small frame some multiple plain none in
      let fit = free-in-range l frame in
      let same : size_of (kind_of (packet_of k vs)) ≡ l.size = ap size_of (kind-made k vs) in
      let sum : length_of (packet_of k vs) (n - l.size) ≡ n = omega (arith, same, in-it.0) in
      record {
        good = valid;
        fit = fits-as form k vs (n - l.size) fit (λ e. omega (arith, header-only seg l (sound form k) (segment-some form) small frame some multiple plain none refl e));
        header-first = sym same;
        within-frame = omega (arith, in-it.0, in-it.1);
        most = omega (arith, sum, most);
        fills = ap (frame_length seg) sum ∙ frame-fills seg l (sound form k) (segment-some form) small frame some multiple plain none;
        again = λ bytes. frame-as form k vs (part_of frame (record { at = l.size; len = n - l.size })) fit ∙ frame-again seg l (sound form k) (segment-some form) small frame some multiple plain none bytes;
      }

-- if the answer is a packet, all checks passed
by-found : (form : Form) (frame : List ℕ) (p : Packet) (place : UserData) (c : Checked) (f : Found) → read_checks form frame ≡ c → found_in frame ≡ f
    → read_by c f form frame ≡ Ok (PacketIn p place) → IsFrame form frame p place
by-found form frame p place (Err fault) f ec ef e = let z : ◌≡◌ {A = ℕ} 0 1 = cc in absurd (omega arith)
by-found form frame p place (Ok tt) Route ec ef e = let z : ◌≡◌ {A = ℕ} 0 1 = cc in absurd (omega arith)
by-found form frame p place (Ok tt) Unknown ec ef e = let z : ◌≡◌ {A = ℕ} 0 1 = cc in absurd (omega arith)
by-found form frame p place (Ok tt) (Known k) ec ef e =
    let l = layout_of form k in
    let q = checks-passed form frame ec in
    let none = sym (ap (λ (x : Found). fault_of x form frame) ef) ∙ q.none in
    let most : packet_length (seg_of form) l frame ≤ most_of form = subst (λ (x : Found). length_in x form frame ≤ most_of form) ef q.most in
    let packet : packet_of k (free_in l frame) ≡ p = cc in
    let at : record { at = l.size; len = packet_length (seg_of form) l frame - l.size } ≡ place = cc in
    subst (λ (x : Packet). IsFrame form frame x place) packet
    (subst (IsFrame form frame (packet_of k (free_in l frame))) at (kind-frame form frame k q.valid q.whole none most))

-- every frame that reads is `IsFrame`
pub reads-frame : (form : Form) (frame : List ℕ) (p : Packet) (place : UserData) → read_of form frame ≡ Ok (PacketIn p place) → IsFrame form frame p place
unfolding read_of
reads-frame form frame p place e = by-found form frame p place (read_checks form frame) (found_in frame) refl refl e

-- ---- the same, for `write_of`, `write_output` and `read_of`

-- the length of the frame that is written, and the lent output afterwards
pub frame-length : (form : Form) (p : Packet) (user : List ℕ) → length (frame_of form p user) ≡ frame_length (seg_of form) (length_of p (length user))
unfolding frame_by
frame-length form p user =
    let u = last_used (seg_of form) (length_of p (length user)) in
    let l = layout_of form (kind_of p) in
    framed-length (seg_of form) l.size (header l u (values_of p)) user (header-length l u (values_of p))

pub output-is : (form : Form) (p : Packet) (user out : List ℕ) → frame_verdict form p (length user) (length out) ≡ Ok tt
    → write_output form p user out ≡ frame_of form p user ++ drop (length (frame_of form p user)) out
unfolding write_output
output-is form p user out e = ap (λ (v : Verdict). output_by v (frame_of form p user) out) e

pub frame-reads : (form : Form) (p : Packet) (user : List ℕ) → form_valid form ≡ true → fits form p (length user) ≡ true → length_of p (length user) ≤ most_of form
    → read_of form (frame_of form p user) ≡ Ok (PacketIn p (place_of p (length user)))
unfolding frame_by
frame-reads form p user good fit most =
    let f = fit_parts form p (length user) fit in
    kind-reads form (kind_of p) (values_of p) user f.0 good f.1 most
    ∙ ap (λ (q : Packet). Ok (PacketIn q (place_of p (length user)))) (packet-made p)

pub frame-user : (form : Form) (p : Packet) (user : List ℕ) → part_of (frame_of form p user) (place_of p (length user)) ≡ user
unfolding frame_by
frame-user form p user =
    let u = last_used (seg_of form) (length_of p (length user)) in
    let l = layout_of form (kind_of p) in
    user-of (seg_of form) l.size (header l u (values_of p)) user (header-length l u (values_of p))
