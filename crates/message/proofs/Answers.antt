-- What is known of frames that are joined: they passed every check, and what passes every check is
-- joined.
-- Assumes nothing.
use mathlib.Core.Path.{◌≡◌, refl, sym}
use mathlib.Core.Bool.{Bool, true, false, not}
use mathlib.Core.List.{List}
use Prim.Native.Nat.{ℕ, ◌≤◌}
use native.Mathlib.Omega.{arith}
use lib.Dec.{leb, eqb}
use lib.ListN.{length}
use borrow.Author.Tests.{leb-true, le-leb, eqb-true, eq-eqb}
use Rattle.refusal.specs.declared.Refusal.{Refusal}
use Rattle.refusal.specs.declared.Refusal.TheVariants.{OutOfRange, Malformed, MessageTooLong, OutputTooShort}
use Rattle.refusal.specs.Numbers.{check}
use Rattle.refusal.specs.Positions.{Checked, refused_at, check_at, and_then_at, all_at}
use Rattle.refusal.proofs.Checks.{check_done, at-passed, both-passed, all-passed}
use Rattle.lists.specs.Frames.{parts_of, sum, is_none}
use Rattle.frame_form.specs.declared.Form.{Form}
use Rattle.frame_form.specs.Forms.{form_valid}
use Rattle.message.specs.Joining.{frames_checks, message_in, size_verdict, join_checks, join_by, join_of}
use Rattle.message.specs.JoiningParts.{Joinable}
use Rattle.message.proofs.Users.{all-data}
use Rattle.std.specs.Prelude.{Ok, Err, None}

pub by_bytes : (c : Checked) (n m : ℕ) → join_by c n ≡ Ok m → c ≡ Ok tt
by_bytes (Ok tt) n m e = refl
by_bytes (Err fault) n m e = let z : ◌≡◌ {A = ℕ} 0 1 = cc in absurd (omega arith)

pub by-refused : (c : Checked) (n : ℕ) (why : Refusal) (at : ℕ) → join_by c n ≡ refused_at why at → c ≡ refused_at why at
by-refused (Ok tt) n why at e = let z : ◌≡◌ {A = ℕ} 0 1 = cc in absurd (omega arith)
by-refused (Err fault) n why at e = cc

pub record JoinDone (form : Form) (lengths bytes : List ℕ) (room : ℕ) : Type 0 where
  pub good : form_valid form ≡ true
  pub sums : sum lengths ≡ length bytes
  pub some : is_none lengths ≡ false
  pub run : frames_checks form None 0 (parts_of lengths bytes) ≡ Ok tt
  pub small : length (message_in form (parts_of lengths bytes)) ≤ 4096
  pub fits-room : length (message_in form (parts_of lengths bytes)) ≤ room

not-false-is : (b : Bool) → not b ≡ true → b ≡ false
not-false-is true e = sym e
not-false-is false e = refl

pub join-done : (form : Form) (lengths bytes : List ℕ) (room : ℕ) → join_checks form lengths bytes room ≡ Ok tt → JoinDone form lengths bytes room
unfolding join_checks
join-done form lengths bytes room e =
    let n = length (message_in form (parts_of lengths bytes)) in
    let all = length bytes in
    let run = frames_checks form None 0 (parts_of lengths bytes) in
    let v4 = and_then_at run (all_at all (size_verdict n room)) in
    let v3 = check_at (not (is_none lengths)) Malformed all v4 in
    let p1 = at-passed (form_valid form) OutOfRange 0 (check_at (eqb (sum lengths) all) Malformed all v3) e in
    let p2 = at-passed (eqb (sum lengths) all) Malformed all v3 p1.1 in
    let p3 = at-passed (not (is_none lengths)) Malformed all v4 p2.1 in
    let p4 = both-passed run (all_at all (size_verdict n room)) p3.1 in
    let size = all-passed all (size_verdict n room) p4.1 in
    let p5 = check_done (leb n 4096) MessageTooLong (check (leb n room) OutputTooShort (Ok tt)) size in
    let p6 = check_done (leb n room) OutputTooShort (Ok tt) p5.1 in
    record {
      good = p1.0;
      sums = eqb-true (sum lengths) (length bytes) p2.0;
      some = not-false-is (is_none lengths) p3.0;
      run = p4.0;
      small = leb-true n 4096 p5.0;
      fits-room = leb-true n room p6.0;
    }

pub join-accepts : (form : Form) (lengths bytes : List ℕ) (room : ℕ) → JoinDone form lengths bytes room → join_checks form lengths bytes room ≡ Ok tt
unfolding join_checks
join-accepts form lengths bytes room d =
    let n = length (message_in form (parts_of lengths bytes)) in
    rw (d.good, eq-eqb (sum lengths) (length bytes) d.sums, d.some, d.run, le-leb n 4096 d.small, le-leb n room d.fits-room)

-- what copying requires
pub joinable : (form : Form) (lengths bytes : List ℕ) (room n : ℕ) → join_of form lengths bytes room ≡ Ok n → Joinable form lengths bytes room
unfolding join_of
joinable form lengths bytes room n e =
    let all = length (message_in form (parts_of lengths bytes)) in
    let d = join-done form lengths bytes room (by_bytes (join_checks form lengths bytes room) all n e) in
    record { sums = d.sums; all-data = all-data form None 0 (parts_of lengths bytes) d.run; fits-room = d.fits-room }
