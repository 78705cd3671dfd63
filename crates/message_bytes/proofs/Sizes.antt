-- A message is so small that its counts fit one 64-bit number.
-- Assumes nothing.
use mathlib.Core.Path.{◌≡◌, refl}
use mathlib.Core.Bool.{true}
use mathlib.Core.List.{List}
use Prim.Native.Nat.{ℕ, ◌+◌, ◌-◌, ◌*◌, ◌≤◌}
use native.Mathlib.Nat.{mul-le-mul_left}
use native.Mathlib.Omega.{arith}
use lib.ListN.{length}
use Rattle.refusal.specs.Positions.{Checked}
use Rattle.lists.specs.Frames.{parts_of}
use Rattle.frame_form.specs.declared.Form.{Form}
use Rattle.frame_form.specs.Forms.{seg_of, form_valid}
use Rattle.frame_form.specs.Segments.{frame_length}
use Rattle.frame_form.proofs.Forms.{segment-some, segment-few}
use Rattle.frame_form.proofs.Segments.{padding-below}
use Rattle.message.specs.declared.cutting.Start.{Start}
use Rattle.message.specs.declared.cutting.Cut.{Cut}
use Rattle.message.specs.Cutting.{share_of, full_frames, frames_of, cut_verdict, cut_of}
use Rattle.message.specs.CuttingParts.{room_for}
use Rattle.message.proofs.Passed.{by_frames, passed}
use Rattle.message.proofs.Sizes.{share_range, full_least, room_product, message_room, message_count}
use Rattle.message.specs.Joining.{message_in, join_checks, join_by, join_of}
use Rattle.message.proofs.Answers.{join-done}
use Rattle.std.specs.Prelude.{Ok, Err}

-- ---- cutting

-- no frame has more than 175 bytes, and there are at most as many full ones as the message has
-- bytes
room-few : (form : Form) (n : ℕ) → form_valid form ≡ true → n ≤ 4096 → room_for form (full_frames (share_of form) n) n ≤ 800000
room-few form n good small =
    let c = share_of form in
    let k = full_frames c n in
    let w = frame_length (seg_of form) (3 + c) in
    let range = share_range form good in
    let wide : w ≤ 175 = omega (arith, range, padding-below (seg_of form) (3 + c) (segment-some form), segment-few form) in
    let last = padding-below (seg_of form) (3 + (n - k * c)) (segment-some form) in
    let full : k * w ≤ k * 175 = mul-le-mul_left k wide in
    omega (arith, room_product form k n, (full_least c n).0, full, last, segment-few form, small)

pub cut_few : (form : Form) (s : Start) (m : List ℕ) (room places : ℕ) (cut : Cut) → cut_of form s m room places ≡ Ok cut → (cut.frames ≤ 4097) × (cut.bytes ≤ 800000)
unfolding cut_of
cut_few form s m room places cut e =
    let d = by_frames (cut_verdict form s m room places) (frames_of form s m) cut.frames cut.bytes e in
    let r = passed form s m room places d.0 in (
      omega (arith, d.1, message_count form s m, (full_least (share_of form) (length m)).0, r.small),
      omega (arith, d.2, message_room form s m r.good, room-few form (length m) r.good r.small),
    )

-- ---- joining

by_bytes : (c : Checked) (n m : ℕ) → join_by c n ≡ Ok m → (c ≡ Ok tt) × (n ≡ m)
by_bytes (Ok tt) n m e = (refl, cc)
by_bytes (Err fault) n m e = let z : ◌≡◌ {A = ℕ} 0 1 = cc in absurd (omega arith)

pub join_few : (form : Form) (lengths bytes : List ℕ) (room n : ℕ) → join_of form lengths bytes room ≡ Ok n → n ≤ 4096
unfolding join_of
join_few form lengths bytes room n e =
    let d = by_bytes (join_checks form lengths bytes room) (length (message_in form (parts_of lengths bytes))) n e in
    omega (arith, d.1, (join-done form lengths bytes room d.0).small)
