-- What is known of frames that join: each is a DATA frame that goes on from the one before, and
-- carries at most a share.
-- Assumes nothing.
use mathlib.Core.Path.{◌≡◌, refl, ap, ◌∙◌}
use mathlib.Core.Bool.{Bool, true, false, not, ◌&&◌, ◌||◌}
use mathlib.Core.List.{List, [], ◌∷◌}
use Prim.Native.Nat.{ℕ, ◌+◌, ◌*◌, ◌≤◌}
use native.Mathlib.Nat.{suc-mul, zero-mul}
use native.Mathlib.Omega.{arith}
use lib.ListN.{length, drop, length-append, length-drop}
use lib.Seq.{length-take-le}
use borrow.Author.Tests.{not-true}
use Rattle.refusal.specs.declared.Refusal.TheVariants.{FormatError, RunBroken, Malformed}
use Rattle.refusal.specs.Numbers.{check}
use Rattle.refusal.specs.Positions.{from}
use Rattle.refusal.proofs.Checks.{check_done, both-passed, from-passed, all-passed}
use Rattle.frame_form.specs.declared.Form.{Form}
use Rattle.frame_form.specs.Forms.{form_valid}
use Rattle.frame.specs.declared.Data.{Data}
use Rattle.frame.specs.declared.Packet.{Packet}
use Rattle.frame.specs.declared.Packet.TheVariants.{Data as DataPacket}
use Rattle.frame.specs.declared.UserData.{UserData}
use Rattle.frame.specs.Reading.{read_of, part_of, data_in}
use Rattle.frame.proofs.Frames.{reads-frame}
use Rattle.frame.specs.Packets.{as_data, Read}
use Rattle.frame.proofs.KindLaws.{data_is}
use Rattle.lists.specs.Frames.{is_none}
use Rattle.message.specs.Cutting.{share_of}
use Rattle.message.specs.Joining.{follows, data_verdict, packet_verdict, turn_checks, user_of, frames_checks, message_in}
use Rattle.message.proofs.Sizes.{share_range}
use Rattle.frame.specs.declared.Contents.TheVariants.{Packet as PacketIn, Route as RouteIn}
use Rattle.std.specs.Prelude.{Ok, Err, Option, Some, None}

-- An accepted frame: it holds a DATA packet that follows the packet b before it, with M = 0 exactly
-- if it is the last frame.
pub record IsTurn (form : Form) (b : Option Data) (last : Bool) (frame : List ℕ) : Type 0 where
  pub packet : Data
  pub place : UserData
  pub reads : read_of form frame ≡ Ok (PacketIn (DataPacket packet) place)
  pub goes_on : follows b packet ≡ true
  pub m-says : packet.m ≡ not last

-- M is 1 before the last frame and 0 on it
m-is : (last m : Bool) → (last || m) ≡ true → not (last && m) ≡ true → m ≡ not last
m-is true m a b = not-true m b
m-is false m a b = a

data-turn : (b : Option Data) (last : Bool) (d : Data) → data_verdict b last d ≡ Ok tt → (follows b d ≡ true) × (d.m ≡ not last)
unfolding data_verdict
data-turn b last d e =
    let p = check_done (last || d.m) FormatError (check (follows b d) RunBroken (check (not (last && d.m)) Malformed (Ok tt))) e in
    let q = check_done (follows b d) RunBroken (check (not (last && d.m)) Malformed (Ok tt)) p.1 in
    (q.0, m-is last d.m p.0 (check_done (not (last && d.m)) Malformed (Ok tt) q.1).0)

packet-turn : (form : Form) (b : Option Data) (last : Bool) (frame : List ℕ) (p : Packet) (place : UserData) (x : Option Data) → as_data p ≡ x
    → read_of form frame ≡ Ok (PacketIn p place) → packet_verdict b last x ≡ Ok tt → IsTurn form b last frame
packet-turn form b last frame p place None ex er e = let z : ◌≡◌ {A = ℕ} 0 1 = cc in absurd (omega arith)
packet-turn form b last frame p place (Some d) ex er e =
    let t = data-turn b last d e in
    record { packet = d; place = place; reads = er ∙ ap (λ (q : Packet). Ok (PacketIn q place)) (data_is p d ex); goes_on = t.0; m-says = t.1 }

turn-of : (form : Form) (b : Option Data) (last : Bool) (frame : List ℕ) (r : Read) → read_of form frame ≡ r → turn_checks b last r ≡ Ok tt → IsTurn form b last frame
turn-of form b last frame (Ok (PacketIn p place)) er e = packet-turn form b last frame p place (as_data p) refl er (all-passed 0 (packet_verdict b last (as_data p)) e)
turn-of form b last frame (Ok (RouteIn r)) er e = let z : ◌≡◌ {A = ℕ} 0 1 = cc in absurd (omega arith)
turn-of form b last frame (Err fault) er e = let z : ◌≡◌ {A = ℕ} 0 1 = cc in absurd (omega arith)

-- the first frame of several, and the rest
pub first-turn : (form : Form) (b : Option Data) (start : ℕ) (f : List ℕ) (fs : List (List ℕ)) → frames_checks form b start (f ∷ fs) ≡ Ok tt
    → IsTurn form b (is_none fs) f × (frames_checks form (data_in (read_of form f)) (start + length f) fs ≡ Ok tt)
unfolding frames_checks
first-turn form b start f fs e =
    let turn = turn_checks b (is_none fs) (read_of form f) in
    let p = both-passed (from start turn) (frames_checks form (data_in (read_of form f)) (start + length f) fs) e in
    (turn-of form b (is_none fs) f (read_of form f) refl (from-passed start turn p.0), p.1)

-- the user data of a frame: at most a share
module _ (form : Form) (good : form_valid form ≡ true) (frame : List ℕ) (d : Data) (place : UserData) (reads : read_of form frame ≡ Ok (PacketIn (DataPacket d) place)) where
  pub user-is : user_of (read_of form frame) frame ≡ part_of frame place
  user-is = ap (λ (r : Read). user_of r frame) reads

  pub user-length : length (user_of (read_of form frame) frame) ≡ place.len
  user-length =
      let f = reads-frame form frame (DataPacket d) place reads in
      ap length user-is ∙ length-take-le place.len (drop place.at frame) (simp length-drop (omega (arith, f.within-frame)))

  pub user-share : length (user_of (read_of form frame) frame) ≤ share_of form
  user-share =
      let f = reads-frame form frame (DataPacket d) place reads in
      omega (arith, user-length, f.most, (share_range form good).2)

pub message-shares : (form : Form) → form_valid form ≡ true → (b : Option Data) (start : ℕ) (fs : List (List ℕ)) → frames_checks form b start fs ≡ Ok tt → length (message_in form fs) ≤ length fs * share_of form
unfolding message_in
message-shares form good b start [] e = omega (arith, zero-mul (share_of form))
message-shares form good b start (f ∷ fs) e =
    let t = first-turn form b start f fs e in
    let one = user-share form good f t.0.packet t.0.place t.0.reads in
    let rest = message-shares form good (data_in (read_of form f)) (start + length f) fs t.1 in
    omega (arith, one, rest, length-append (user_of (read_of form f) f) (message_in form fs), suc-mul (length fs) (share_of form))
