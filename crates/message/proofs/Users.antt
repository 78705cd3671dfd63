-- Where the user data of a DATA frame lies: after the header, up to the end that LV gives; the
-- checks that the frame passed leave no other place.
-- Assumes nothing.
use mathlib.Core.Path.{◌≡◌, refl, sym, ap, ◌∙◌, subst}
use mathlib.Core.Bool.{Bool, true, true≢false}
use mathlib.Core.List.{List, [], ◌∷◌}
use Prim.Native.Nat.{ℕ, ◌+◌, ◌-◌, ◌%◌, ◌≤◌}
use native.Mathlib.Nat.{div-one}
use native.Mathlib.Omega.{arith}
use lib.ListN.{length, take, drop, get_or, length-drop}
use lib.Seq.{length-take-le}
use Rattle.refusal.specs.Positions.{Checked, from}
use Rattle.refusal.proofs.Checks.{both_true, both-passed, from-passed, all-passed}
use Rattle.lists.specs.Frames.{is_none}
use Rattle.frame_fields.specs.Rows.{number_in}
use Rattle.frame_form.specs.declared.Form.{Form}
use Rattle.frame_form.specs.Forms.{seg_of}
use Rattle.frame_form.proofs.Forms.{segment-some, segment-seven}
use Rattle.frame_form.proofs.Segments.{whole-some, whole-none-over}
use Rattle.frame_kinds.specs.declared.Kind.{Kind}
use Rattle.frame_kinds.specs.declared.Kind.TheVariants.{Data as DataKind}
use Rattle.frame_kinds.specs.declared.Found.{Found}
use Rattle.frame_kinds.specs.declared.Found.TheVariants.{Known, Route, Unknown}
use Rattle.frame_kinds.specs.Kinds.{layout_of}
use Rattle.frame_kinds.proofs.Table.{sound}
use Rattle.frame_reader.specs.Faults.{packet_length, first_fault}
use Rattle.frame_reader.specs.Reading.{found_in, fault_of, values_as, read_checks}
use Rattle.frame.specs.Packets.{packet_of, as_data, Read}
use Rattle.frame.specs.Reading.{read_by, read_of, data_in}
use Rattle.frame.proofs.KindLaws.{data-kind}
use Rattle.frame.proofs.OneLayout.{inside}
use Rattle.frame.proofs.Frames.{checks-passed}
use Rattle.message.specs.Joining.{packet_verdict, turn_checks, user_of, frames_checks}
use Rattle.message.specs.JoiningParts.{some_data, is_data, all_data}
use Rattle.frame.specs.declared.Contents.TheVariants.{Packet as PacketIn, Route as RouteIn}
use Rattle.std.specs.Prelude.{Ok, Err, Option, Some, None}
use Rattle.frame.specs.declared.Data.{Data as DataFields}

-- ---- frames that passed the checks are DATA

some-passed : (before : Option DataFields) (last : Bool) (x : Option DataFields) → packet_verdict before last x ≡ Ok tt → some_data x ≡ true
some-passed before last None e = let z : ◌≡◌ {A = ℕ} 0 1 = cc in absurd (omega arith)
some-passed before last (Some d) e = refl

turn-data : (before : Option DataFields) (last : Bool) (r : Read) → turn_checks before last r ≡ Ok tt → is_data r ≡ true
turn-data before last (Ok (PacketIn p place)) e = some-passed before last (as_data p) (all-passed 0 (packet_verdict before last (as_data p)) e)
turn-data before last (Ok (RouteIn r)) e = let z : ◌≡◌ {A = ℕ} 0 1 = cc in absurd (omega arith)
turn-data before last (Err fault) e = let z : ◌≡◌ {A = ℕ} 0 1 = cc in absurd (omega arith)

pub all-data : (form : Form) (before : Option DataFields) (start : ℕ) (fs : List (List ℕ)) → frames_checks form before start fs ≡ Ok tt → all_data form fs ≡ true
unfolding frames_checks all_data
all-data form before start [] e = refl
all-data form before start (f ∷ fs) e =
    let r = read_of form f in
    let turn = turn_checks before (is_none fs) r in
    let d = both-passed (from start turn) (frames_checks form (data_in r) (start + length f) fs) e in
    rw (turn-data before (is_none fs) r (from-passed start turn d.0), all-data form (data_in r) (start + length f) fs d.1)

-- the first frame, and the others
pub data-parts : (form : Form) (f : List ℕ) (fs : List (List ℕ)) → all_data form (f ∷ fs) ≡ true → (is_data (read_of form f) ≡ true) × (all_data form fs ≡ true)
unfolding all_data
data-parts form f fs e = both_true (is_data (read_of form f)) (all_data form fs) e

-- ---- LV

-- a header's number ends in its last byte
third_last : (frame : List ℕ) → number_in 3 frame % 16 ≡ get_or frame 2 0 % 16
third_last [] = refl
third_last (a ∷ []) = omega arith
third_last (a ∷ b ∷ []) = omega arith
third_last (a ∷ b ∷ c ∷ frame) = omega arith

-- so a DATA packet's length is this
long-is : (form : Form) (seg : ℕ) (frame : List ℕ) → packet_length seg (layout_of form DataKind) frame ≡ length frame - seg + get_or frame 2 0 % 16
unfolding packet_length
long-is form seg frame = ap (λ (x : ℕ). length frame - seg + x) (ap (λ (x : ℕ). x % 16) (div-one (number_in 3 frame)) ∙ third_last frame)

-- ---- the place

-- what is known of a DATA frame from which r is read
pub record DataFrame (form : Form) (frame : List ℕ) (r : Read) : Type 0 where
  pub segment : seg_of form ≤ length frame
  pub header : 3 ≤ length frame - seg_of form + get_or frame 2 0 % 16
  pub inside : length frame - seg_of form + get_or frame 2 0 % 16 ≤ length frame
  pub user : user_of r frame ≡ take (length frame - seg_of form + get_or frame 2 0 % 16 - 3) (drop 3 frame)

-- a frame of kind DATA passed the checks, and its user data comes after the header
data-found : (form : Form) (frame : List ℕ) → read_checks form frame ≡ Ok tt → found_in frame ≡ Known DataKind
    → DataFrame form frame (read_by (Ok tt) (Known DataKind) form frame)
data-found form frame ec ef =
    let seg = seg_of form in
    let q = checks-passed form frame ec in
    let none : first_fault seg (layout_of form DataKind) frame ≡ length frame = sym (ap (λ (f : Found). fault_of f form frame) ef) ∙ q.none in
    let some = whole-some seg (length frame) (segment-some form) q.whole in
    let small : 3 ≤ seg = omega (arith, segment-seven form) in
    let n = inside seg (layout_of form DataKind) (sound form DataKind) (segment-some form) small frame some (whole-none-over seg (length frame) q.whole) (λ e. absurd (true≢false (sym e))) none in
    let long = long-is form seg frame in
    record {
      segment = some;
      header = omega (arith, n.0, long);
      inside = omega (arith, n.1, long);
      user = ap (λ (x : ℕ). take (x - 3) (drop 3 frame)) long;
    }

-- a frame that reads as DATA was taken as that kind
some-kind : (k : Kind) (vs : List ℕ) (x : Option DataFields) → as_data (packet_of k vs) ≡ x → some_data x ≡ true → k ≡ DataKind
some-kind k vs None e some = let z : ◌≡◌ {A = ℕ} 0 1 = cc in absurd (omega arith)
some-kind k vs (Some d) e some = data-kind k vs d e

by-found : (form : Form) (frame : List ℕ) (c : Checked) (f : Found) → read_checks form frame ≡ c → found_in frame ≡ f
    → is_data (read_by c f form frame) ≡ true → DataFrame form frame (read_by c f form frame)
by-found form frame (Err fault) f ec ef e = let z : ◌≡◌ {A = ℕ} 0 1 = cc in absurd (omega arith)
by-found form frame (Ok tt) Route ec ef e = let z : ◌≡◌ {A = ℕ} 0 1 = cc in absurd (omega arith)
by-found form frame (Ok tt) Unknown ec ef e = let z : ◌≡◌ {A = ℕ} 0 1 = cc in absurd (omega arith)
by-found form frame (Ok tt) (Known k) ec ef e =
    let is = some-kind k (values_as (Known k) form frame) _ refl e in
    subst (λ (j : Kind). found_in frame ≡ Known j → DataFrame form frame (read_by (Ok tt) (Known j) form frame)) (sym is) (data-found form frame ec) ef

pub data_frame : (form : Form) (frame : List ℕ) → is_data (read_of form frame) ≡ true → DataFrame form frame (read_of form frame)
unfolding read_of
data_frame form frame e = by-found form frame (read_checks form frame) (found_in frame) refl refl e

-- how long it is
pub user_long : (form : Form) (frame : List ℕ) (r : Read) → DataFrame form frame r → length (user_of r frame) ≡ length frame - seg_of form + get_or frame 2 0 % 16 - 3
user_long form frame r d =
    let n = length frame - seg_of form + get_or frame 2 0 % 16 in
    let rest : n - 3 ≤ length (drop 3 frame) = omega (arith, length-drop 3 frame, d.inside) in
    ap length d.user ∙ length-take-le (n - 3) (drop 3 frame) rest
