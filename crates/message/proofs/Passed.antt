-- What is known of a message that is cut: it passed every check, and what passes every check is
-- cut.
-- Assumes nothing.
use mathlib.Core.Path.{◌≡◌, refl, ap}
use mathlib.Core.Bool.{false}
use mathlib.Core.List.{List}
use Prim.Native.Nat.{ℕ}
use native.Mathlib.Omega.{arith}
use lib.Dec.{leb}
use lib.ListN.{length}
use borrow.Author.Tests.{leb-true, le-leb}
use Rattle.refusal.specs.declared.Refusal.TheVariants.{OutOfRange, MessageTooLong, OutputTooShort, ShortForm}
use Rattle.refusal.specs.Numbers.{check, Verdict}
use Rattle.refusal.proofs.Checks.{check_done}
use Rattle.lists.specs.Frames.{bytes_in}
use Rattle.frame_form.specs.declared.Form.{Form}
use Rattle.frame_form.specs.Forms.{form_valid, is_long}
use Rattle.frame.specs.Writing.{fits}
use Rattle.message.specs.declared.cutting.Start.{Start}
use Rattle.message.specs.declared.cutting.Cut.{Cut}
use Rattle.message.specs.Cutting.{data_of, frames_of, cut_verdict, cut_by, cut_into}
use Rattle.message.specs.CuttingParts.{Room}
use Rattle.std.specs.Prelude.{Ok, Err}

-- an answer of frames: nothing was refused, and these are the frames
pub by_frames : (v : Verdict) (fs : List (List ℕ)) (count bytes : ℕ) → cut_by v fs ≡ cut_into count bytes → (v ≡ Ok tt) × (length fs ≡ count) × (length (bytes_in fs) ≡ bytes)
by_frames (Ok tt) fs count bytes e =
    let cut : Cut = record { frames = length fs; bytes = length (bytes_in fs) } in
    let same : cut ≡ record { frames = count; bytes = bytes } = cc in
    (refl, ap (λ (x : Cut). x.frames) same, ap (λ (x : Cut). x.bytes) same)
by_frames (Err why) fs count bytes e = let z : ◌≡◌ {A = ℕ} 0 1 = cc in absurd (omega arith)

pub passed : (form : Form) (s : Start) (m : List ℕ) (room places : ℕ) → cut_verdict form s m room places ≡ Ok tt → Room form s m room places
unfolding cut_verdict
passed form s m room places e =
    let frames = frames_of form s m in
    let r4 = check (leb (length frames) places) OutputTooShort (Ok tt) in
    let r3 = check (leb (length (bytes_in frames)) room) OutputTooShort r4 in
    let r2 = check (leb (length m) 4096) MessageTooLong r3 in
    let r1 = check (is_long form) ShortForm r2 in
    let a = check_done (form_valid form) OutOfRange (check (fits form (data_of s false) 0) OutOfRange r1) e in
    let b = check_done (fits form (data_of s false) 0) OutOfRange r1 a.1 in
    let l = check_done (is_long form) ShortForm r2 b.1 in
    let c = check_done (leb (length m) 4096) MessageTooLong r3 l.1 in
    let d = check_done (leb (length (bytes_in frames)) room) OutputTooShort r4 c.1 in
    let f = check_done (leb (length frames) places) OutputTooShort (Ok tt) d.1 in
    record {
      good = a.0;
      fit = b.0;
      long = l.0;
      small = leb-true (length m) 4096 c.0;
      bytes = leb-true (length (bytes_in frames)) room d.0;
      frames = leb-true (length frames) places f.0;
    }

pub accepts : (form : Form) (s : Start) (m : List ℕ) (room places : ℕ) → Room form s m room places → cut_verdict form s m room places ≡ Ok tt
unfolding cut_verdict
accepts form s m room places d =
    rw (
      d.good,
      d.fit,
      d.long,
      le-leb (length m) 4096 d.small,
      le-leb (length (bytes_in (frames_of form s m))) room d.bytes,
      le-leb (length (frames_of form s m)) places d.frames,
    )
