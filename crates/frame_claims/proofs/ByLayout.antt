-- Frames by the layout: the laws of `frame`, stated about frames and readings alone.
-- Assumes nothing.
use mathlib.Core.Path.{◌≡◌, sym, ap, ◌∙◌}
use mathlib.Core.List.{List, ◌++◌}
use Prim.Native.Nat.{ℕ, ◌+◌}
use native.Mathlib.Omega.{arith}
use lib.ListN.{length, drop, replicate, length-drop}
use lib.Seq.{length-take-le}
use Rattle.frame_fields.specs.Rows.{AreBytes}
use Rattle.frame_fields.specs.Layouts.{header, header_number}
use Rattle.frame_fields.proofs.Rows.{bytes-are, zeros-are, both-are}
use Rattle.frame_form.specs.declared.Form.{Form}
use Rattle.frame_form.specs.Forms.{seg_of}
use Rattle.frame_form.specs.Segments.{padding, last_used}
use Rattle.frame_form.specs.Frames.{framed}
use Rattle.frame_kinds.specs.Kinds.{layout_of}
use Rattle.frame_writer.specs.Writing.{frame_by}
use Rattle.frame.specs.declared.Packet.{Packet}
use Rattle.frame.specs.declared.UserData.{UserData}
use Rattle.frame.specs.Packets.{kind_of, values_of}
use Rattle.frame.specs.Writing.{length_of, fits, frame_of}
use Rattle.frame.specs.Reading.{read_of, part_of}
use Rattle.frame.proofs.Frames.{reads-frame, frame-reads, frame-user}
use Rattle.frame_claims.specs.ByLayout.{CanHold, ReadIsFrame, FrameIsRead, ByLayout}
use Rattle.frame.specs.declared.Contents.TheVariants.{Packet as PacketIn}
use Rattle.std.specs.Prelude.{Ok}

-- the user data of a frame that reads is as long as its place says
pub part_length : (form : Form) (frame : List ℕ) (p : Packet) (place : UserData) → read_of form frame ≡ Ok (PacketIn p place) → length (part_of frame place) ≡ place.len
part_length form frame p place e =
    length-take-le place.len (drop place.at frame) (simp length-drop (omega (arith, (reads-frame form frame p place e).within-frame)))

read-is-frame : (form : Form) (frame : List ℕ) (p : Packet) (place : UserData) → AreBytes frame → read_of form frame ≡ Ok (PacketIn p place) → ReadIsFrame form frame p place
read-is-frame form frame p place bytes e =
    let f = reads-frame form frame p place e in
    let len = part_length form frame p place e in
    record {
      same = sym (f.again bytes);
      holds = record { good = f.good; fit = ap (fits form p) len ∙ f.fit; most = omega (arith, len, f.most) };
      place_is = λ i. record { at = f.header-first i; len = sym len i };
    }

-- a header is bytes, and so is padding
frame-bytes : (form : Form) (p : Packet) (user : List ℕ) → AreBytes user → AreBytes (frame_of form p user)
unfolding frame_by framed
frame-bytes form p user are =
    let l = layout_of form (kind_of p) in
    let u = last_used (seg_of form) (length_of p (length user)) in
    let pad = padding (seg_of form) (length (header l u (values_of p)) + length user) in
    both-are (header l u (values_of p)) (user ++ replicate pad 0) (bytes-are l.size (header_number l u (values_of p)))
    (both-are user (replicate pad 0) are (zeros-are pad))

frame-is-read : (form : Form) (p : Packet) (user : List ℕ) → CanHold form p (length user) → FrameIsRead form p user
frame-is-read form p user h = record {
  fields = frame-reads form p user h.good h.fit h.most;
  data-kept = frame-user form p user;
  are-bytes = frame-bytes form p user;
}

pub by_layout : ByLayout
by_layout = record { read-is-frame = read-is-frame; frame-is-read = frame-is-read }
