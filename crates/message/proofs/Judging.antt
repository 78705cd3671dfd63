-- What the loop over all frames keeps: the checks of the frames from here on are those of all
-- frames, and the user data counted so far and that from here on are as long as the message.
-- Assumes nothing.
use mathlib.Core.Path.{◌≡◌, refl, sym, ap, ap₂, ◌∙◌}
use mathlib.Core.Bool.{Bool}
use mathlib.Core.List.{List}
use Prim.Native.Nat.{ℕ, ◌+◌, ◌-◌, ◌≤◌, ◌<◌}
use native.Mathlib.Omega.{arith}
use lib.Dec.{eqb}
use lib.ListN.{length, take, drop, get_or, length-append, length-take, length-drop}
use lib.Seq.{length-take-le}
use Rattle.refusal.specs.Positions.{Checked, refused_at, and_then_at, all_at, from as shifted}
use Rattle.lists.specs.Frames.{parts_of, sum, is_none}
use Rattle.frame_form.specs.declared.Form.{Form}
use Rattle.frame.specs.declared.Data.{Data}
use Rattle.frame.specs.declared.Packet.{Packet}
use Rattle.frame.specs.declared.UserData.{UserData}
use Rattle.frame.specs.Packets.{as_data, Read}
use Rattle.frame.specs.Reading.{read_of, data_in, data_read_by, data_read_of, part_of}
use Rattle.frame.proofs.Frames.{reads-frame}
use Rattle.message.specs.Joining.{data_verdict, packet_verdict, turn_checks, user_of, frames_checks, message_in, join_by, user_in}
use Rattle.message.specs.JoiningParts.{Turn, turn_by, turn_of}
use Rattle.message.proofs.Positions.{turn_near}
use Rattle.message.proofs.Places.{from, At, last-is, none-parts, from-here, from_end, at-start, frame_in, at_next, part-is}
use Rattle.frame.specs.declared.Contents.TheVariants.{Packet as PacketIn, Route as RouteIn}
use Rattle.std.specs.Prelude.{Ok, Err, Option, Some, None}
use Rattle.refusal.specs.Numbers.{Verdict}
use Rattle.refusal.specs.declared.Fault.{Fault}

-- ---- one frame

module _ (form : Form) (frame : List ℕ) (before : Option Data) (last : Bool) where
  -- the turn of a packet, by its DATA and the length of its user data
  abbrev by-data : Option Data → ℕ → Turn
  by-data m n = turn_by (all_at 0 (packet_verdict before last m)) m n

  -- a frame that reads as DATA, and whose packet passes
  pub data_turn : (d : Data) (place : UserData) → Ok (Some (d, place)) ≡ data_read_of (read_of form frame) → data_verdict before last d ≡ Ok tt
      → Ok (Some d, place.len) ≡ turn_of before last (read_of form frame) frame
  data_turn d place e passed =
      let turn : by-data (Some d) place.len ≡ Ok (Some d, place.len) = ap (λ (v : Verdict). turn_by (all_at 0 v) (Some d) place.len) passed in
      sym turn ∙ go (read_of form frame) refl e
    where
      packet : (p : Packet) (q : UserData) → read_of form frame ≡ Ok (PacketIn p q) → (m : Option Data) → as_data p ≡ m → Ok (Some (d, place)) ≡ data_read_by m q
          → by-data (Some d) place.len ≡ by-data (as_data p) (length (part_of frame q))
      packet p q er None em h = let z : ◌≡◌ {A = ℕ} 0 1 = cc in absurd (omega arith)
      packet p q er (Some x) em h =
          let both : ◌≡◌ {A = Data × UserData} (d, place) (x, q) = cc in
          let same : Some d ≡ as_data p = ap (λ (b : Data × UserData). Some b.0) both ∙ sym em in
          let at : place ≡ q = ap (λ (b : Data × UserData). b.1) both in
          let len : length (part_of frame q) ≡ q.len = length-take-le q.len (drop q.at frame) (simp length-drop (omega (arith, (reads-frame form frame p q er).within-frame))) in
          ap₂ by-data same (ap (λ (u : UserData). u.len) at ∙ sym len)

      go : (r : Read) → read_of form frame ≡ r → Ok (Some (d, place)) ≡ data_read_of r → by-data (Some d) place.len ≡ turn_of before last r frame
      go (Ok (PacketIn p q)) er h = packet p q er (as_data p) refl h
      go (Ok (RouteIn r)) er h = let z : ◌≡◌ {A = ℕ} 0 1 = cc in absurd (omega arith)
      go (Err fault) er h = let z : ◌≡◌ {A = ℕ} 0 1 = cc in absurd (omega arith)

turn-refused : (c : Checked) (next : Option Data) (user : ℕ) (fault : Fault) → turn_by c next user ≡ Err fault → c ≡ Err fault
turn-refused (Ok tt) next user fault e = let z : ◌≡◌ {A = ℕ} 0 1 = cc in absurd (omega arith)
turn-refused (Err first) next user fault e = cc

turn-goes : (c : Checked) (next next1 : Option Data) (user user1 : ℕ) → turn_by c next user ≡ Ok (next1, user1) → (c ≡ Ok tt) × (next ≡ next1) × (user ≡ user1)
turn-goes (Ok tt) next next1 user user1 e =
    let both : (next, user) ≡ (next1, user1) = cc in
    (refl, ap (λ (b : Option Data × ℕ). b.0) both, ap (λ (b : Option Data × ℕ). b.1) both)
turn-goes (Err fault) next next1 user user1 e = let z : ◌≡◌ {A = ℕ} 0 1 = cc in absurd (omega arith)

-- a frame's user data is no longer than the frame
user-least : (r : Read) (frame : List ℕ) → length (user_of r frame) ≤ length frame
user-least (Ok (PacketIn p place)) frame = simp (length-take, length-drop) (omega arith)
user-least (Ok (RouteIn r)) frame = omega arith
user-least (Err fault) frame = omega arith

-- ---- the user data of all frames

module _ (form : Form) (ls bytes : List ℕ) (p i : ℕ) where
  message-here : i < length ls
      → length (message_in form (from ls bytes p i))
      ≡ length (user_in form (take (get_or ls i 0) (drop p bytes))) + length (message_in form (from ls bytes (p + get_or ls i 0) (i + 1)))
  unfolding message_in
  message-here h =
      let frame = take (get_or ls i 0) (drop p bytes) in
      ap (λ (fs : List (List ℕ)). length (message_in form fs)) (from-here ls bytes p i h)
      ∙ length-append (user_in form frame) (message_in form (from ls bytes (p + get_or ls i 0) (i + 1)))

  message-end : length ls ≤ i → length (message_in form (from ls bytes p i)) ≡ 0
  unfolding message_in
  message-end h = ap (λ (fs : List (List ℕ)). length (message_in form fs)) (from_end ls bytes p i h)

-- ---- the loop

pub record Judging (form : Form) (ls bytes : List ℕ) (before : Option Data) (total p i : ℕ) : Type 0 where
  pub at : At ls bytes p i
  pub checks : frames_checks form before p (from ls bytes p i) ≡ frames_checks form None 0 (parts_of ls bytes)
  pub counted : total + length (message_in form (from ls bytes p i)) ≡ length (message_in form (parts_of ls bytes))
  pub least : total ≤ p

pub starts : (form : Form) (ls bytes : List ℕ) → sum ls ≡ length bytes → Judging form ls bytes None 0 0 0
starts form ls bytes e = record { at = at-start ls bytes e; checks = refl; counted = omega arith; least = omega arith }

module _ (form : Form) (ls bytes : List ℕ) (before : Option Data) (total p i : ℕ) (v : Judging form ls bytes before total p i) (h : i < length ls) where
  checks-here : frames_checks form None 0 (parts_of ls bytes)
      ≡ and_then_at (shifted p (turn_checks before (eqb (i + 1) (length ls)) (read_of form (take (get_or ls i 0) (drop p bytes)))))
      (frames_checks form (data_in (read_of form (take (get_or ls i 0) (drop p bytes)))) (p + get_or ls i 0) (from ls bytes (p + get_or ls i 0) (i + 1)))
  unfolding frames_checks
  checks-here =
      let r = read_of form (take (get_or ls i 0) (drop p bytes)) in
      let rest = from ls bytes (p + get_or ls i 0) (i + 1) in
      let last : is_none rest ≡ eqb (i + 1) (length ls) = none-parts (drop (i + 1) ls) (drop (p + get_or ls i 0) bytes) ∙ last-is ls (i + 1) (omega arith) in
      sym v.checks ∙ ap (frames_checks form before p) (from-here ls bytes p i h)
      ∙ ap₂ (λ (b : Bool) (l : ℕ). and_then_at (shifted p (turn_checks before b r)) (frames_checks form (data_in r) (p + l) rest)) last (frame_in ls bytes p i v.at h).1

  module _ (turn : Turn) (e : turn ≡ turn_of before (eqb (i + 1) (length ls)) (read_of form (take (p + get_or ls i 0 - p) (drop p bytes))) (take (p + get_or ls i 0 - p) (drop p bytes))) where
    turn-here : turn ≡ turn_of before (eqb (i + 1) (length ls)) (read_of form (take (get_or ls i 0) (drop p bytes))) (take (get_or ls i 0) (drop p bytes))
    turn-here = e ∙ ap (λ (f : List ℕ). turn_of before (eqb (i + 1) (length ls)) (read_of form f) f) (part-is bytes p (get_or ls i 0))

    -- the frame is refused
    refused : (fault : Fault) → turn ≡ Err fault
        → turn_checks before (eqb (i + 1) (length ls)) (read_of form (take (get_or ls i 0) (drop p bytes))) ≡ Err fault
    refused fault w =
        let frame = take (get_or ls i 0) (drop p bytes) in
        let r = read_of form frame in
        turn-refused (turn_checks before (eqb (i + 1) (length ls)) r) (data_in r) (length (user_of r frame)) fault (sym turn-here ∙ w)

    -- at a place inside the frame or at its end
    pub stops_inside : (fault : Fault) → turn ≡ Err fault → p + fault.at ≤ length bytes
    stops_inside fault w =
        let f = frame_in ls bytes p i v.at h in
        let near = turn_near before (eqb (i + 1) (length ls)) form (take (get_or ls i 0) (drop p bytes)) fault (refused fault w) in
        omega (arith, near, f.0, f.1)

    pub stops : (fault : Fault) → turn ≡ Err fault
        → refused_at fault.why (p + fault.at) ≡ join_by (frames_checks form None 0 (parts_of ls bytes)) (length (message_in form (parts_of ls bytes)))
    stops fault w =
        let r = read_of form (take (get_or ls i 0) (drop p bytes)) in
        let rest = frames_checks form (data_in r) (p + get_or ls i 0) (from ls bytes (p + get_or ls i 0) (i + 1)) in
        sym
        (ap (λ (x : Checked). join_by x (length (message_in form (parts_of ls bytes)))) (checks-here ∙ ap (λ (x : Checked). and_then_at (shifted p x) rest) (refused fault w)))

    pub turns : (next : Option Data) (user : ℕ) → turn ≡ Ok (next, user) → Judging form ls bytes next (total + user) (p + get_or ls i 0) (i + 1)
    turns next user w =
        let frame = take (get_or ls i 0) (drop p bytes) in
        let r = read_of form frame in
        let rest = from ls bytes (p + get_or ls i 0) (i + 1) in
        let yes = turn-goes (turn_checks before (eqb (i + 1) (length ls)) r) (data_in r) next (length (user_of r frame)) user (sym turn-here ∙ w) in
        record {
          at = at_next ls bytes p i v.at h;
          checks = sym (checks-here ∙ ap₂ (λ (x : Checked) (y : Option Data). and_then_at (shifted p x) (frames_checks form y (p + get_or ls i 0) rest)) yes.0 yes.1);
          counted = omega (arith, v.counted, message-here form ls bytes p i h, yes.2);
          least = omega (arith, v.least, user-least r frame, (frame_in ls bytes p i v.at h).1, yes.2);
        }

pub ends : (form : Form) (ls bytes : List ℕ) (before : Option Data) (total p i : ℕ) → Judging form ls bytes before total p i → length ls ≤ i
    → Ok total ≡ join_by (frames_checks form None 0 (parts_of ls bytes)) (length (message_in form (parts_of ls bytes)))
unfolding frames_checks
ends form ls bytes before total p i v h =
    let all : total ≡ length (message_in form (parts_of ls bytes)) = omega (arith, v.counted, message-end form ls bytes p i h) in
    ap Ok all
    ∙ sym (ap (λ (x : Checked). join_by x (length (message_in form (parts_of ls bytes)))) (sym v.checks ∙ ap (frames_checks form before p) (from_end ls bytes p i h)))
