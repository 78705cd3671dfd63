-- `frame_writer::put_frame` meets its contract: the last segment is cleared first, then the header
-- and the user data are written, each just after the part before it.
-- Assumes nothing.
use mathlib.Core.Path.{◌≡◌, ap, ◌∙◌}
use mathlib.Core.List.{List, ◌++◌}
use Prim.Native.Nat.{ℕ, ◌+◌, ◌-◌}
use native.Mathlib.Omega.{arith}
use lib.ListN.{length, drop}
use lib.Seq.{paste}
use borrow.Author.Rules.{rules}
use Rattle.frame_fields.specs.Rows.{bytes_of}
use Rattle.frame_fields.proofs.Rows.{bytes-length}
use Rattle.frame_fields.proofs.Bytes.{bytes_high}
use Rattle.frame_form.specs.Forms.{long_segment}
use Rattle.lists.proofs.Copying.{copied-part}
use Rattle.frame_writer.proofs.Writing.{cleared, three-parts}
use Rattle.frame_writer.proofs.put_frame.Goals as goal

pub returns : goal.returns
returns c =
    let a = c.args in
    let d : List ℕ = a.user.now in
    let h : List ℕ = bytes_of a.size a.number in
    let n = a.size + length d in
    let few : n - a.size ≡ length d = omega arith in
    let p = c.requires in
    let k : List ℕ = c.clear.new.out in
    copied-part c.put_eight.new.out d _ a.size (n - a.size) few (search rules) c.copy_in.ensures
    ∙ ap (λ (l : List ℕ). paste l a.size d (length d)) (c.put_eight.ensures ∙ ap (λ (l : List ℕ). l ++ drop 8 k) (bytes_high a.size a.number (omega arith)))
    ∙ three-parts h d a.out.now k a.size a.pad (bytes-length a.size a.number) (omega arith) (search rules) (omega arith)
    (ap (drop n) c.clear.ensures ∙ cleared a.out.now n long_segment a.pad p.pad_le_long_segment.0 p.pad_le_long_segment.1 p.pad_le_long_segment.2)
