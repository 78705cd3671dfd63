-- `transfer_demo::carry` meets its contract: the frames that were made lie within the lists.
-- Assumes nothing.
use mathlib.Core.Path.{◌≡◌, sym, ◌∙◌}
use mathlib.Core.List.{List}
use Prim.Native.Nat.{ℕ, ◌≤◌}
use native.Mathlib.Omega.{arith}
use lib.ListN.{length, take, length-take}
use lib.Seq.{length-take-le}
use Rattle.frame_form.specs.declared.Form.{Form}
use Rattle.message.specs.declared.cutting.Start.{Start}
use Rattle.message.specs.Cutting.{frames_of, cut_verdict, cut_of, cut_into}
use Rattle.message.proofs.Passed.{by_frames, passed}
use Rattle.transfer_demo.proofs.carry.Goals as goal
use Rattle.message.specs.declared.cutting.Cut.{Cut}
use Rattle.std.specs.Prelude.{Result}
use Rattle.refusal.specs.declared.Refusal.{Refusal}

cut_fits : (form : Form) (s : Start) (message : List ℕ) (room places : ℕ) {r : (Result Cut Refusal)} {count bytes : ℕ} → r ≡ cut_of form s message room places → r ≡ cut_into count bytes
    → (count ≤ places) × (bytes ≤ room)
unfolding cut_of
cut_fits form s message room places {r} {count} {bytes} e q =
    let f = by_frames (cut_verdict form s message room places) (frames_of form s message) count bytes (sym e ∙ q) in
    let p = passed form s message room places f.0 in
    (omega (arith, f.1, p.frames), omega (arith, f.2, p.bytes))

module _ (n long : ℕ) (xs : List ℕ) (e : length xs ≡ long) where
  -- a list that keeps its length
  in_list : n ≤ long → n ≤ length xs
  in_list h = omega arith

  part-counted : n ≤ long → n ≡ length (take n xs)
  part-counted h = sym (length-take-le n xs (in_list h))

  part-few : (most : ℕ) → long ≤ most → length (take n xs) ≤ most
  part-few most h = omega (arith, length-take n xs)

pub slice_bounds-cross-end : goal.slice_bounds-cross-end
slice_bounds-cross-end c =
    let w = c.cut_message-cut in
    in_list _ _ w.new.lengths w.auto.lengths (cut_fits _ _ _ _ _ w.ensures.value c.in-Ok.is).0

pub slice_bounds-cross-end-in-Ok : goal.slice_bounds-cross-end-in-Ok
slice_bounds-cross-end-in-Ok c =
    let w = c.cut_message-cut in
    part-counted _ _ w.new.lengths w.auto.lengths (cut_fits _ _ _ _ _ w.ensures.value c.in-Ok.is).0

pub slice_bounds-cross-end-in-Ok-2 : goal.slice_bounds-cross-end-in-Ok-2
slice_bounds-cross-end-in-Ok-2 c =
    let w = c.cut_message-cut in
    in_list _ _ w.new.out w.auto.out (cut_fits _ _ _ _ _ w.ensures.value c.in-Ok.is).1

pub slice_bounds-cross-end-in-Ok-3 : goal.slice_bounds-cross-end-in-Ok-3
slice_bounds-cross-end-in-Ok-3 c =
    let w = c.cut_message-cut in
    part-counted _ _ w.new.out w.auto.out (cut_fits _ _ _ _ _ w.ensures.value c.in-Ok.is).1

pub cross-requires : goal.cross-requires
cross-requires c =
    let w = c.cut_message-cut in
    part-few c.in-Ok.made.frames _ w.new.lengths w.auto.lengths 164 c.requires
