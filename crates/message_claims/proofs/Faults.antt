-- Where joining is refused: the checks of all frames, one after the other, give the position of the
-- first bad one, and no check gives one past the end.
-- Assumes nothing.
use mathlib.Core.Path.{◌≡◌, refl, sym, ap, ◌∙◌, subst}
use mathlib.Core.Bool.{Bool, true, false, not}
use mathlib.Core.List.{List, [], ◌∷◌, ◌++◌}
use mathlib.Core.Logic.{◌⊎◌, inl, inr}
use Prim.Native.Nat.{ℕ, ◌+◌, ◌≤◌}
use native.Mathlib.Omega.{arith}
use lib.Dec.{eqb}
use lib.ListN.{length, length-append}
use borrow.Author.Tests.{eqb-true}
use Rattle.refusal.specs.declared.Refusal.{Refusal}
use Rattle.refusal.specs.declared.Refusal.TheVariants.{OutOfRange, Malformed, FormatError}
use Rattle.refusal.specs.Positions.{Checked, refused_at, check_at, and_then_at, all_at, from, fault_position}
use Rattle.lists.specs.Frames.{bytes_in, parts_of, sum, is_none}
use Rattle.lists.proofs.Frames.{bytes_back}
use Rattle.frame_form.specs.declared.Form.{Form}
use Rattle.frame_form.specs.Forms.{form_valid}
use Rattle.frame.specs.declared.Packet.{Packet}
use Rattle.frame.specs.declared.UserData.{UserData}
use Rattle.frame.specs.declared.Route.{Route}
use Rattle.frame.specs.Packets.{as_data, Read}
use Rattle.frame.specs.Reading.{read_of, data_in}
use Rattle.message.specs.Joining.{packet_verdict, turn_checks, frames_checks, message_in, size_verdict, join_checks, join_of}
use Rattle.message.proofs.Positions.{check-near, turn-position}
use Rattle.message.proofs.Answers.{by-refused}
use Rattle.message_claims.specs.Faults.{AllPass, run_after, FirstBad, JoinFaults}
use Rattle.refusal.specs.Numbers.{Verdict}
use Rattle.refusal.specs.declared.Fault.{Fault}
use Rattle.frame.specs.declared.Contents.TheVariants.{Packet as PacketIn, Route as RouteIn}
use Rattle.std.specs.Prelude.{Ok, Err, Option, None}
use Rattle.frame.specs.declared.Data.{Data as DataFields}

-- ---- no position is past the end

then-near : (c d : Checked) (n : ℕ) → fault_position c ≤ n → fault_position d ≤ n → fault_position (and_then_at c d) ≤ n
then-near (Ok tt) d n first later = later
then-near (Err fault) d n first later = first

from-near : (start : ℕ) (c : Checked) (n : ℕ) → fault_position c ≤ n → fault_position (from start c) ≤ start + n
from-near start (Ok tt) n h = omega arith
from-near start (Err fault) n h = omega (arith, h)

all_near : (at : ℕ) (v : Verdict) → fault_position (all_at at v) ≤ at
all_near at (Ok tt) = omega arith
all_near at (Err why) = omega arith

frames-near : (form : Form) (before : Option DataFields) (start : ℕ) (fs : List (List ℕ)) → fault_position (frames_checks form before start fs) ≤ start + length (bytes_in fs)
unfolding frames_checks
frames-near form before start [] = omega arith
frames-near form before start (f ∷ fs) =
    let turn = turn_checks before (is_none fs) (read_of form f) in
    let rest = frames_checks form (data_in (read_of form f)) (start + length f) fs in
    let long = length-append f (bytes_in fs) in
    let here = from-near start turn (length f) (turn-position before (is_none fs) form f) in
    let later = frames-near form (data_in (read_of form f)) (start + length f) fs in
    then-near (from start turn) rest (start + length (bytes_in (f ∷ fs))) (omega (arith, here, long)) (omega (arith, later, long))

checks-near : (form : Form) (lengths bytes : List ℕ) (room : ℕ) → fault_position (join_checks form lengths bytes room) ≤ length bytes
unfolding join_checks
checks-near form lengths bytes room =
    let fs = parts_of lengths bytes in
    let all = length bytes in
    let run = frames_checks form None 0 fs in
    let size = all_at all (size_verdict (length (message_in form fs)) room) in
    let r3 = and_then_at run size in
    let r2 = check_at (not (is_none lengths)) Malformed all r3 in
    let r1 = check_at (eqb (sum lengths) all) Malformed all r2 in
    check-near (form_valid form) OutOfRange 0 all r1 (λ e. omega arith)
    (λ valid. check-near (eqb (sum lengths) all) Malformed all all r2 (λ e. omega arith)
    (λ sums. check-near (not (is_none lengths)) Malformed all all r3 (λ e. omega arith)
    (λ some. then-near run size all
    (omega (arith, frames-near form None 0 fs, ap length (bytes_back lengths bytes (eqb-true (sum lengths) all sums))))
    (all_near all (size_verdict (length (message_in form fs)) room)))))

within : (form : Form) (lengths bytes : List ℕ) (room : ℕ) (why : Refusal) (at : ℕ) → join_of form lengths bytes room ≡ refused_at why at → at ≤ length bytes
unfolding join_of
within form lengths bytes room why at e =
    let is : fault_position (join_checks form lengths bytes room) ≡ at =
    ap fault_position (by-refused (join_checks form lengths bytes room) (length (message_in form (parts_of lengths bytes))) why at e) in
    omega (arith, is, checks-near form lengths bytes room)

-- ---- the first bad frame

refusal-same : (why y : Refusal) (at q : ℕ) → ◌≡◌ {A = Checked} (refused_at y q) (refused_at why at) → (y ≡ why) × (q ≡ at)
refusal-same why y at q e =
    let same : ◌≡◌ {A = Fault} (record { why = y; at = q }) (record { why = why; at = at }) = cc in
    (ap (λ (x : Fault). x.why) same, ap (λ (x : Fault). x.at) same)

all-at : (k : ℕ) (v : Verdict) (why : Refusal) (at : ℕ) → all_at k v ≡ refused_at why at → (v ≡ Err why) × (at ≡ k)
all-at k (Ok tt) why at e = let z : ◌≡◌ {A = ℕ} 0 1 = cc in absurd (omega arith)
all-at k (Err y) why at e = (ap Err (refusal-same why y at k e).0, sym (refusal-same why y at k e).1)

-- frames with a bad one among them are some
some-frames : (before : List (List ℕ)) (bad : List ℕ) (after : List (List ℕ)) → is_none (before ++ (bad ∷ after)) ≡ false
some-frames [] bad after = refl
some-frames (f ∷ fs) bad after = refl

-- the bad frame, by what reading it answered
bad-frame : (form : Form) (run : Option DataFields) (f : List ℕ) (fs : List (List ℕ)) (why : Refusal) (at : ℕ) (r : Read) → read_of form f ≡ r
    → turn_checks run (is_none fs) r ≡ refused_at why at → FirstBad form run (f ∷ fs) why at
bad-frame form run f fs why at (Ok (PacketIn p user)) er e =
    let refused = all-at 0 (packet_verdict run (is_none fs) (as_data p)) why at e in
    record {
      before = [];
      bad = f;
      after = fs;
      split = refl;
      before-pass = AllPass.none;
      place = inr (inl (p, user, er, refused.0, refused.1));
    }
bad-frame form run f fs why at (Ok (RouteIn route)) er e =
    let same = refusal-same why FormatError at 0 e in
    record {
      before = [];
      bad = f;
      after = fs;
      split = refl;
      before-pass = AllPass.none;
      place = inr (inr (route, er, sym same.0, sym same.1));
    }
bad-frame form run f fs why at (Err fault) er e =
    let same : ◌≡◌ {A = Fault} fault (record { why = why; at = at }) = cc in
    record {
      before = [];
      bad = f;
      after = fs;
      split = refl;
      before-pass = AllPass.none;
      place = inl (at, er ∙ ap Err same, omega arith);
    }

-- one good frame more before it
good-before : (form : Form) (run : Option DataFields) (f : List ℕ) (fs : List (List ℕ)) (why : Refusal) (at : ℕ) → turn_checks run (is_none fs) (read_of form f) ≡ Ok tt
    → FirstBad form (data_in (read_of form f)) fs why at → FirstBad form run (f ∷ fs) why (length f + at)
good-before form run f fs why at good b = record {
  before = f ∷ b.before;
  bad = b.bad;
  after = b.after;
  split = ap (λ (x : List (List ℕ)). f ∷ x) b.split;
  before-pass = AllPass.more (ap (λ (l : Bool). turn_checks run l (read_of form f)) (sym not_last) ∙ good) b.before-pass;
  place = go b.place;
}
  where
    not_last : is_none fs ≡ false
    not_last = ap is_none b.split ∙ some-frames b.before b.bad b.after

    long : length (bytes_in (f ∷ b.before)) ≡ length f + length (bytes_in b.before)
    long = length-append f (bytes_in b.before)

    packet-refused : Packet → Type 0
    packet-refused p = packet_verdict (run_after form (data_in (read_of form f)) b.before) (is_none b.after) (as_data p) ≡ Err why

    go : ((q : ℕ) × (read_of form b.bad ≡ refused_at why q) × (at ≡ length (bytes_in b.before) + q))
        ⊎ (((p : Packet) × (user : UserData) × (read_of form b.bad ≡ Ok (PacketIn p user)) × packet-refused p × (at ≡ length (bytes_in b.before)))
        ⊎ ((route : Route) × (read_of form b.bad ≡ Ok (RouteIn route)) × (why ≡ FormatError) × (at ≡ length (bytes_in b.before))))
        → ((q : ℕ) × (read_of form b.bad ≡ refused_at why q) × (length f + at ≡ length (bytes_in (f ∷ b.before)) + q))
        ⊎ (((p : Packet) × (user : UserData) × (read_of form b.bad ≡ Ok (PacketIn p user)) × packet-refused p × (length f + at ≡ length (bytes_in (f ∷ b.before))))
        ⊎ ((route : Route) × (read_of form b.bad ≡ Ok (RouteIn route)) × (why ≡ FormatError) × (length f + at ≡ length (bytes_in (f ∷ b.before)))))
    go (inl x) = inl (x.0, x.1, omega (arith, x.2, long))
    go (inr (inl x)) = inr (inl (x.0, x.1, x.2, x.3, omega (arith, x.4, long)))
    go (inr (inr x)) = inr (inr (x.0, x.1, x.2, omega (arith, x.3, long)))

-- the position is counted from `start`
first-bad : (form : Form) (run : Option DataFields) (start : ℕ) (fs : List (List ℕ)) (why : Refusal) (at : ℕ) → frames_checks form run start fs ≡ refused_at why at
    → (q : ℕ) × FirstBad form run fs why q × (at ≡ start + q)
unfolding frames_checks
first-bad form run start [] why at e = let z : ◌≡◌ {A = ℕ} 0 1 = cc in absurd (omega arith)
first-bad form run start (f ∷ fs) why at e =
    go (turn_checks run (is_none fs) (read_of form f)) refl e (first-bad form (data_in (read_of form f)) (start + length f) fs why at)
  where
    go : (c : Checked) → turn_checks run (is_none fs) (read_of form f) ≡ c
        → and_then_at (from start c) (frames_checks form (data_in (read_of form f)) (start + length f) fs) ≡ refused_at why at
        → (frames_checks form (data_in (read_of form f)) (start + length f) fs ≡ refused_at why at
        → (q : ℕ) × FirstBad form (data_in (read_of form f)) fs why q × (at ≡ start + length f + q))
        → (q : ℕ) × FirstBad form run (f ∷ fs) why q × (at ≡ start + q)
    go (Ok tt) ec e later =
        let b = later e in
        (length f + b.0, good-before form run f fs why b.0 ec b.1, omega (arith, b.2))
    go (Err fault) ec e later =
        let same = refusal-same why fault.why at (start + fault.at) e in (
          fault.at,
          bad-frame form run f fs why fault.at (read_of form f) refl (ec ∙ ap (λ (x : Refusal). refused_at x fault.at) same.0),
          sym same.1,
        )

first-bad-frame : (form : Form) (lengths bytes : List ℕ) (why : Refusal) (at : ℕ) → frames_checks form None 0 (parts_of lengths bytes) ≡ refused_at why at
    → FirstBad form None (parts_of lengths bytes) why at
first-bad-frame form lengths bytes why at e =
    let b = first-bad form None 0 (parts_of lengths bytes) why at e in
    let same : b.0 ≡ at = omega (arith, b.2) in
    subst (FirstBad form None (parts_of lengths bytes) why) same b.1

-- ---- frames with a first bad one are refused

after-good : (form : Form) (run : Option DataFields) (start : ℕ) (before : List (List ℕ)) (bad : List ℕ) (after : List (List ℕ)) (why : Refusal) (q : ℕ) → AllPass form run before
    → turn_checks (run_after form run before) (is_none after) (read_of form bad) ≡ refused_at why q
    → frames_checks form run start (before ++ (bad ∷ after)) ≡ refused_at why (start + (length (bytes_in before) + q))
unfolding frames_checks
after-good form run start [] bad after why q pass e =
    let same : start + q ≡ start + (0 + q) = omega arith in
    ap (λ (c : Checked). and_then_at (from start c) (frames_checks form (data_in (read_of form bad)) (start + length bad) after)) e ∙ ap (refused_at why) same
after-good form run start (f ∷ fs) bad after why q (AllPass.more good rest) e =
    let tail = fs ++ (bad ∷ after) in
    let later = after-good form (data_in (read_of form f)) (start + length f) fs bad after why q rest e in
    let here : turn_checks run (is_none tail) (read_of form f) ≡ Ok tt = ap (λ (l : Bool). turn_checks run l (read_of form f)) (some-frames fs bad after) ∙ good in
    let same : start + length f + (length (bytes_in fs) + q) ≡ start + (length (bytes_in (f ∷ fs)) + q) = omega (arith, length-append f (bytes_in fs)) in
    ap (λ (c : Checked). and_then_at (from start c) (frames_checks form (data_in (read_of form f)) (start + length f) tail)) here ∙ later
    ∙ ap (refused_at why) same

bad-is-refused : (form : Form) (frames : List (List ℕ)) (why : Refusal) (at : ℕ) → FirstBad form None frames why at
    → frames_checks form None 0 frames ≡ refused_at why at
bad-is-refused form frames why at b = ap (frames_checks form None 0) b.split ∙ go b.place
  where
    run : Option DataFields
    run = run_after form None b.before

    go : ((q : ℕ) × (read_of form b.bad ≡ refused_at why q) × (at ≡ length (bytes_in b.before) + q))
        ⊎ (((p : Packet) × (user : UserData) × (read_of form b.bad ≡ Ok (PacketIn p user)) × (packet_verdict run (is_none b.after) (as_data p) ≡ Err why)
        × (at ≡ length (bytes_in b.before)))
        ⊎ ((route : Route) × (read_of form b.bad ≡ Ok (RouteIn route)) × (why ≡ FormatError) × (at ≡ length (bytes_in b.before)))) → frames_checks form None 0 (b.before ++ (b.bad ∷ b.after)) ≡ refused_at why at
    go (inl x) =
        let same : 0 + (length (bytes_in b.before) + x.0) ≡ at = omega (arith, x.2) in
        after-good form None 0 b.before b.bad b.after why x.0 b.before-pass (ap (turn_checks run (is_none b.after)) x.1) ∙ ap (refused_at why) same
    go (inr (inl x)) =
        let same : 0 + (length (bytes_in b.before) + 0) ≡ at = omega (arith, x.4) in
        after-good form None 0 b.before b.bad b.after why 0 b.before-pass (ap (turn_checks run (is_none b.after)) x.2 ∙ ap (all_at 0) x.3)
        ∙ ap (refused_at why) same
    go (inr (inr x)) =
        let same : 0 + (length (bytes_in b.before) + 0) ≡ at = omega (arith, x.3) in
        after-good form None 0 b.before b.bad b.after why 0 b.before-pass
        (ap (turn_checks run (is_none b.after)) x.1 ∙ ap (λ (y : Refusal). refused_at y 0) (sym x.2))
        ∙ ap (refused_at why) same

-- ---- every refusal

check-placed : (A : Type 0) (b : Bool) (y why : Refusal) (k at : ℕ) (rest : Checked) → check_at b y k rest ≡ refused_at why at
    → ((y ≡ why) × (k ≡ at) → A) → (rest ≡ refused_at why at → A) → A
check-placed A true y why k at rest e here later = later e
check-placed A false y why k at rest e here later = here (refusal-same why y at k e)

then-placed : (A : Type 0) (c d : Checked) (why : Refusal) (at : ℕ) → and_then_at c d ≡ refused_at why at → (c ≡ refused_at why at → A) → (d ≡ refused_at why at → A) → A
then-placed A (Ok tt) d why at e here later = later e
then-placed A (Err fault) d why at e here later = here e

checks-placed : (form : Form) (lengths bytes : List ℕ) (room : ℕ) (why : Refusal) (at : ℕ) → join_checks form lengths bytes room ≡ refused_at why at
    → ((why ≡ OutOfRange) × (at ≡ 0)) ⊎ ((at ≡ length bytes) ⊎ FirstBad form None (parts_of lengths bytes) why at)
unfolding join_checks
checks-placed form lengths bytes room why at e =
    let fs = parts_of lengths bytes in
    let all = length bytes in
    let run = frames_checks form None 0 fs in
    let size = all_at all (size_verdict (length (message_in form fs)) room) in
    let r3 = and_then_at run size in
    let r2 = check_at (not (is_none lengths)) Malformed all r3 in
    let r1 = check_at (eqb (sum lengths) all) Malformed all r2 in
    check-placed _ (form_valid form) OutOfRange why 0 at r1 e (λ s. inl (sym s.0, sym s.1))
    (λ e1. check-placed _ (eqb (sum lengths) all) Malformed why all at r2 e1 (λ s. inr (inl (sym s.1)))
    (λ e2. check-placed _ (not (is_none lengths)) Malformed why all at r3 e2 (λ s. inr (inl (sym s.1)))
    (λ e3. then-placed _ run size why at e3 (λ e4. inr (inr (first-bad-frame form lengths bytes why at e4)))
    (λ e5. inr (inl (all-at all (size_verdict (length (message_in form fs)) room) why at e5).1)))))

placed : (form : Form) (lengths bytes : List ℕ) (room : ℕ) (why : Refusal) (at : ℕ) → join_of form lengths bytes room ≡ refused_at why at
    → ((why ≡ OutOfRange) × (at ≡ 0)) ⊎ ((at ≡ length bytes) ⊎ FirstBad form None (parts_of lengths bytes) why at)
unfolding join_of
placed form lengths bytes room why at e =
    checks-placed form lengths bytes room why at (by-refused (join_checks form lengths bytes room) (length (message_in form (parts_of lengths bytes))) why at e)

pub join-faults : JoinFaults
join-faults = record {
  joined-at-zero = λ form lengths bytes room n e. ap fault_position e;
  within = within;
  first-bad-frame = λ form lengths bytes why at sums e. first-bad-frame form lengths bytes why at e;
  bad-is-refused = bad-is-refused;
  placed = placed;
}
