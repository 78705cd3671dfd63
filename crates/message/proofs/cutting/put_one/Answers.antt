-- `message::cutting::put_one` meets its contract: the lent part has just room for the frame, so
-- nothing of it is left over.
-- Assumes nothing.
use mathlib.Core.Path.{◌≡◌, sym, ap, ap₂, ◌∙◌}
use mathlib.Core.List.{List, [], ◌++◌, append-nil}
use Prim.Native.Nat.{ℕ, ◌+◌, ◌-◌}
use native.Mathlib.Omega.{arith}
use lib.ListN.{length, take, drop, set, length-drop, drop_of_length-le}
use lib.Seq.{drop-drop, length-take-le}
use Rattle.frame_form.specs.declared.Form.{Form}
use Rattle.frame_form.specs.Forms.{long_segment}
use Rattle.frame_form.specs.Segments.{frame_length}
use Rattle.frame_form.proofs.Forms.{long-segment}
use Rattle.frame_writer.proofs.Verdicts.{accepts}
use Rattle.frame.specs.declared.Packet.{Packet}
use Rattle.frame.specs.declared.Packet.TheVariants.{Data}
use Rattle.frame.specs.Writing.{length_of, fits, frame_of, frame_verdict, write_output}
use Rattle.frame.proofs.Frames.{frame-length, output-is}
use Rattle.message.specs.CuttingParts.{splice, Ready}
use Rattle.message.proofs.Sizes.{share_range}
use Rattle.refusal.proofs.Clauses.{three}
use Rattle.message.proofs.cutting.put_one.Goals as goal
use Rattle.std.specs.Prelude.{Ok}

module _ (form : Form) (q : Packet) (u o : List ℕ) (p i places : ℕ) (r : Ready form q (length u) p (length o) i places) where
  size : length (frame_of form q u) ≡ frame_length long_segment (3 + length u)
  size = frame-length form q u ∙ ap₂ (λ (seg x : ℕ). frame_length seg (x + length u)) (long-segment form r.long) r.header

  -- the frame fills the part of its length
  part_filled : (part : List ℕ) → length part ≡ frame_length long_segment (3 + length u) → write_output form q u part ≡ frame_of form q u
  part_filled part e =
      let verdict : frame_verdict form q (length u) (length part) ≡ Ok tt =
      accepts form (fits form q (length u)) (length_of q (length u)) (length part)
      (record {
        good = r.good;
        fit = r.fit;
        long = r.long;
        most = omega (arith, r.header, r.share, share_range form r.good);
        room-enough = omega (arith, frame-length form q u, size, e);
      }) in
      let none : drop (length (frame_of form q u)) part ≡ [] = drop_of_length-le part {i = length (frame_of form q u)} (omega (arith, size, e)) in
      output-is form q u part verdict ∙ ap (λ (x : List ℕ). frame_of form q u ++ x) none ∙ append-nil (frame_of form q u)

  put : (len : ℕ) (ys : List ℕ) → len ≡ frame_length long_segment (3 + length u) → ys ≡ write_output form q u (take (p + len - p) (drop p o))
      → take p o ++ (ys ++ drop (p + len - p) (drop p o)) ≡ splice p (frame_of form q u) o
  put len ys el ey =
      let part = take (p + len - p) (drop p o) in
      let long : length part ≡ frame_length long_segment (3 + length u) =
      length-take-le (p + len - p) (drop p o) (simp length-drop (omega (arith, r.inside, el))) ∙ omega (arith, el) in
      let rest : drop (p + len - p) (drop p o) ≡ drop (p + length (frame_of form q u)) o =
      (let e : p + len - p ≡ length (frame_of form q u) = omega (arith, el, size) in ap (λ (x : ℕ). drop x (drop p o)) e ∙ drop-drop (length (frame_of form q u)) p o) in
      ap₂ (λ (x y : List ℕ). take p o ++ (x ++ y)) (ey ∙ part_filled part long) rest

pub returns : goal.returns
returns c =
    three (λ p q r. record { value = p; written = q; listed = r })
    (let a = c.args in
    let r = c.requires in
    let l = c.frame_length-len in
    let e = l.ensures.value ∙ sym (size a.form (Data a.packet) a.user.now a.out.now a.at a.i (length a.lengths.now) r) in (
      ap (λ (x : ℕ). a.at + x) e,
      (
        put a.form (Data a.packet) a.user.now a.out.now a.at a.i (length a.lengths.now) r l.result _ l.ensures.value c.write_data.ensures.written,
        ap (set a.lengths.now a.i) e,
      ),
    ))
