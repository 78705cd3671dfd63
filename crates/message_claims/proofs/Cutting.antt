-- The frames of a message, read one after the other: they follow each other, and their user data is
-- the message.
-- Assumes nothing.
use mathlib.Core.Path.{◌≡◌, refl, ap, ap₂, ◌∙◌}
use mathlib.Core.Bool.{Bool, true, false, not}
use mathlib.Core.List.{List, ◌++◌, append-nil}
use Prim.Native.Nat.{ℕ, zero, suc, ◌+◌, ◌*◌, ◌≤◌}
use native.Mathlib.Nat.{suc-mul}
use native.Mathlib.Omega.{arith}
use lib.ListN.{length, take, drop, length-drop, length-take, take-append-drop}
use borrow.Author.Tests.{eq-eqb}
use Rattle.refusal.specs.Positions.{and_then_at, all_at, from}
use Rattle.frame_form.specs.declared.Form.{Form}
use Rattle.frame_form.specs.Forms.{form_valid}
use Rattle.frame.specs.declared.Data.{Data}
use Rattle.frame.specs.Writing.{fits, frame_of}
use Rattle.frame.specs.Reading.{read_of, data_in}
use Rattle.frame.specs.Reading.{place_of}
use Rattle.frame.proofs.Frames.{frame-reads, frame-user}
use Rattle.sequence.specs.Modular.{next}
use Rattle.message.specs.declared.cutting.Start.{Start}
use Rattle.lists.specs.Frames.{is_none}
use Rattle.message.specs.Cutting.{share_of, data_of, next_start, frames_from}
use Rattle.message.specs.Joining.{follows, data_verdict, turn_checks, user_of, frames_checks, message_in}
use Rattle.message_claims.proofs.Starts.{start_fits, next_fits}
use Rattle.message.proofs.Sizes.{share_range}
use Rattle.refusal.specs.Numbers.{Verdict}
use Rattle.frame.specs.Packets.{Read}
use Rattle.frame.specs.declared.Contents.TheVariants.{Packet as PacketIn}
use Rattle.std.specs.Prelude.{Ok, Option, Some, None}

-- the packet of a frame, without its kind
abbrev pub data_record : Start → Bool → Data
data_record s more = record { m = more; sn = s.sn; ps = s.ps; pr = s.pr; ch = s.ch }

-- a frame with the numbers s is the first one, or comes after one with the numbers before s
pub data Goes : Option Data → Start → Type 0 where
  first : {s : Start} → Goes None s
  after : {s : Start} {more : Bool} → Goes (Some (data_record s more)) (next_start s)

goes-follows : (b : Option Data) (s : Start) (more : Bool) → Goes b s → follows b (data_record s more) ≡ true
goes-follows b s more first = refl
goes-follows b s more (after {s = t}) = rw (eq-eqb (next 64 t.sn.0) (next 64 t.sn.0) refl, eq-eqb (next 16 t.ps.0) (next 16 t.ps.0) refl) (eq-eqb t.ch t.ch refl)

-- the frame of a share reads as its packet
module _ (form : Form) (good : form_valid form ≡ true) (s : Start) (fit : fits form (data_of s false) 0 ≡ true) (more : Bool) (user : List ℕ) (small : length user ≤ share_of form) where
  pub share-reads : read_of form (frame_of form (data_of s more) user) ≡ Ok (PacketIn (data_of s more) (place_of (data_of s more) (length user)))
  share-reads = frame-reads form (data_of s more) user good (start_fits form s more (length user) fit) (omega (arith, small, (share_range form good).2))

  share-user : user_of (read_of form (frame_of form (data_of s more) user)) (frame_of form (data_of s more) user) ≡ user
  share-user = ap (λ (r : Read). user_of r (frame_of form (data_of s more) user)) share-reads ∙ frame-user form (data_of s more) user

-- the last frame has M = 0, any other M = 1
turn-done : (b : Option Data) (s : Start) (more : Bool) → Goes b s → data_verdict b (not more) (data_record s more) ≡ Ok tt
unfolding data_verdict
turn-done b s true goes = rw (goes-follows b s true goes)
turn-done b s false goes = rw (goes-follows b s false goes)

more-frames : (form : Form) (k : ℕ) (s : Start) (message : List ℕ) → is_none (frames_from form k s message) ≡ false
unfolding frames_from
more-frames form zero s message = refl
more-frames form (suc k) s message = refl

-- what is left after a share
pub share-taken : (share : ℕ) (message : List ℕ) → length (take share message) ≤ share
share-taken share message = omega (arith, length-take share message)

pub share-left : (share k : ℕ) (message : List ℕ) → length message ≤ suc (suc k) * share → length (drop share message) ≤ suc k * share
share-left share k message h = omega (arith, h, length-drop share message, suc-mul (suc k) share)

pub one-share : (share : ℕ) (message : List ℕ) → length message ≤ 1 * share → length message ≤ share
one-share share message h = omega (arith, h)

pub frames-run : (form : Form) → form_valid form ≡ true → (k : ℕ) (s : Start) (message : List ℕ) (b : Option Data) (start : ℕ) → fits form (data_of s false) 0 ≡ true → Goes b s
    → length message ≤ suc k * share_of form → frames_checks form b start (frames_from form k s message) ≡ Ok tt
unfolding frames_from frames_checks
frames-run form good zero s message b start fit goes small =
    ap (λ (r : Read). and_then_at (from start (turn_checks b true r)) (Ok tt)) (share-reads form good s fit false message (one-share (share_of form) message small))
    ∙ ap (λ (v : Verdict). and_then_at (from start (all_at 0 v)) (Ok tt)) (turn-done b s false goes)
frames-run form good (suc k) s message b start fit goes small =
    let share = share_of form in
    let f = frame_of form (data_of s true) (take share message) in
    let rest = frames_from form k (next_start s) (drop share message) in
    ap₂ (λ (n : Bool) (r : Read). and_then_at (from start (turn_checks b n r)) (frames_checks form (data_in r) (start + length f) rest)) (more-frames form k (next_start s) (drop share message))
    (share-reads form good s fit true (take share message) (share-taken share message))
    ∙ ap (λ (v : Verdict). and_then_at (from start (all_at 0 v)) (frames_checks form (Some (data_record s true)) (start + length f) rest)) (turn-done b s true goes)
    ∙ frames-run form good k (next_start s) (drop share message) (Some (data_record s true)) (start + length f) (next_fits form s fit) after (share-left share k message small)

pub frames-message : (form : Form) → form_valid form ≡ true → (k : ℕ) (s : Start) (message : List ℕ) → fits form (data_of s false) 0 ≡ true
    → length message ≤ suc k * share_of form → message_in form (frames_from form k s message) ≡ message
unfolding frames_from message_in
frames-message form good zero s message fit small =
    append-nil (user_of (read_of form (frame_of form (data_of s false) message)) (frame_of form (data_of s false) message))
    ∙ share-user form good s fit false message (one-share (share_of form) message small)
frames-message form good (suc k) s message fit small =
    let share = share_of form in
    ap₂ (λ (x y : List ℕ). x ++ y) (share-user form good s fit true (take share message) (share-taken share message))
    (frames-message form good k (next_start s) (drop share message) (next_fits form s fit) (share-left share k message small))
    ∙ take-append-drop share message
