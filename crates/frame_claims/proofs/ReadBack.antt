-- A frame written is read back, and a frame read is written back, in the long forms: what is
-- written is the frame by the layout, which reads as its packet, and no other does.
-- Assumes nothing.
use mathlib.Core.Path.{◌≡◌, sym, ap, ◌∙◌}
use mathlib.Core.Bool.{true}
use mathlib.Core.List.{List, ◌++◌}
use Prim.Native.Nat.{ℕ, ◌≤◌}
use native.Mathlib.Omega.{arith}
use lib.ListN.{length, take, drop}
use lib.Seq.{take_at}
use Rattle.frame_fields.specs.Rows.{AreBytes}
use Rattle.frame_form.specs.declared.Form.{Form}
use Rattle.frame_form.specs.Forms.{seg_of, is_long}
use Rattle.frame_form.specs.Segments.{frame_length}
use Rattle.frame_writer.proofs.Verdicts.{accepted, accepts}
use Rattle.frame.specs.declared.Packet.{Packet}
use Rattle.frame.specs.declared.UserData.{UserData}
use Rattle.frame.specs.Writing.{length_of, fits, frame_of, frame_verdict, written_by, write_of, write_output}
use Rattle.frame.specs.Reading.{read_of, part_of, place_of}
use Rattle.frame_claims.specs.ReadBack.{WrittenIsRead, ReadIsWritten, ReadBack}
use Rattle.frame.proofs.Frames.{written-done, frame-length, output-is}
use Rattle.frame_claims.proofs.ByLayout.{by_layout}
use Rattle.refusal.specs.Numbers.{Verdict}
use Rattle.frame.specs.declared.Contents.TheVariants.{Packet as PacketIn}
use Rattle.std.specs.Prelude.{Ok}

written-is-read : (form : Form) (p : Packet) (user out : List ℕ) (n : ℕ) → write_of form p (length user) (length out) ≡ Ok n → WrittenIsRead form p user out n
unfolding write_of
written-is-read form p user out n e =
    let w = written-done (frame_verdict form p (length user) (length out)) (frame_length (seg_of form) (length_of p (length user))) n e in
    let a = accepted form (fits form p (length user)) (length_of p (length user)) (length out) w.0 in
    let F = frame_of form p user in
    let front : take n (write_output form p user out) ≡ F =
    ap (take n) (output-is form p user out w.0) ∙ take_at F (drop (length F) out) n (frame-length form p user ∙ w.1) in
    let read = by_layout.frame-is-read form p user (record { good = a.good; fit = a.fit; most = a.most }) in
    record {
      fields = ap (read_of form) front ∙ read.fields;
      data-kept = ap (λ (f : List ℕ). part_of f (place_of p (length user))) front ∙ read.data-kept;
    }

read-is-written : (form : Form) (frame : List ℕ) (p : Packet) (place : UserData) (out : List ℕ)
    → is_long form ≡ true → AreBytes frame → read_of form frame ≡ Ok (PacketIn p place) → length frame ≤ length out → ReadIsWritten form frame p place out
unfolding write_of
read-is-written form frame p place out long bytes e room =
    let f = by_layout.read-is-frame form frame p place bytes e in
    let user = part_of frame place in
    let fills : frame_length (seg_of form) (length_of p (length user)) ≡ length frame = sym (frame-length form p user) ∙ ap length (sym f.same) in
    let v : frame_verdict form p (length user) (length out) ≡ Ok tt =
    accepts form (fits form p (length user)) (length_of p (length user)) (length out)
    (record { good = f.holds.good; fit = f.holds.fit; long = long; most = f.holds.most; room-enough = omega (arith, fills, room) }) in
    record {
      answer =
          ap (λ (q : UserData). write_of form p q.len (length out)) f.place_is
          ∙ ap (λ (x : Verdict). written_by x (frame_length (seg_of form) (length_of p (length user)))) v ∙ ap Ok fills;
      bytes = output-is form p user out v ∙ ap (λ (x : List ℕ). x ++ drop (length x) out) (sym f.same);
    }

pub read_back : ReadBack
read_back = record { written-is-read = written-is-read; read-is-written = read-is-written }
