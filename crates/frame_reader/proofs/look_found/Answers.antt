-- `frame_reader::look_found` meets its contract: the header is seen, then one of the two is asked.
-- Assumes nothing.
use native.Mathlib.Omega.{arith}
use lib.ListN.{length}
use Rattle.frame_form.specs.Forms.{seg_of, form_at}
use Rattle.frame_form.proofs.Forms.{segment-some}
use Rattle.frame_form.proofs.Segments.{whole-some}
use Rattle.frame_reader.proofs.Cases.{header-inside}
use Rattle.frame_reader.proofs.look_found.Goals as goal

pub head_for-head-requires : goal.head_for-head-requires
head_for-head-requires c =
    let a = c.args in
    let h = header-inside (form_at a.form) a.frame.now a.found c.requires.0 in
    let some = whole-some (seg_of (form_at a.form)) (length a.frame.now) (segment-some (form_at a.form)) c.requires.0.whole in
    (h.2, omega (arith, some, c.requires.1))
