-- How many frames a message makes, how long they are, and that the numbers of each fit.
-- Assumes nothing.
use mathlib.Core.Path.{◌≡◌, refl, sym, ap, ap₂, ◌∙◌}
use mathlib.Core.Bool.{Bool, true, false, ◌&&◌}
use mathlib.Core.List.{List, []}
use Prim.Native.Nat.{ℕ, zero, suc, ◌+◌, ◌-◌, ◌*◌, ◌/◌, ◌<◌, ◌≤◌}
use native.Mathlib.Nat.{div-eq_of_lt, div-eq-sub-div, div-le_self, div-mul-le_self, mod-lt, suc-mul, zero-mul}
use native.Mathlib.Omega.{arith}
use lib.Dec.{leb, ltb}
use lib.ListN.{length, take, drop, length-append, length-drop}
use lib.Seq.{length-take-le}
use borrow.Author.Tests.{leb-true, leb-false, ltb-true, lt-ltb}
use Rattle.refusal.proofs.Checks.{both_true}
use Rattle.lists.specs.Frames.{bytes_in}
use Rattle.little.specs.Little.{flag}
use Rattle.frame_form.specs.declared.Form.{Form}
use Rattle.frame_form.specs.Forms.{seg_of, most_of, form_valid}
use Rattle.frame_form.specs.Segments.{frame_length}
use Rattle.frame_form.proofs.Forms.{most-range}
use Rattle.frame_writer.specs.Writing.{values_fit}
use Rattle.frame.specs.Writing.{fits, frame_of}
use Rattle.frame.proofs.Frames.{frame-length}
use Rattle.message.specs.declared.cutting.Start.{Start}
use Rattle.message.specs.Cutting.{share_of, full_frames, data_of, next_start, frames_from, frames_of}
use Rattle.message.specs.CuttingParts.{room_for}

-- ---- how many

-- the user data of a full frame, of a valid form
pub share_range : (form : Form) → form_valid form ≡ true → (7 ≤ share_of form) × (share_of form ≤ 157) × (share_of form + 3 ≡ most_of form)
share_range form good = let m = most-range form good in (omega (arith, m), omega (arith, m), omega (arith, m))

-- a message of more bytes than a share: without the first share, one full frame less
more-frames : (share n : ℕ) → 1 ≤ share → share < n → full_frames share n ≡ suc (full_frames share (n - share))
unfolding full_frames
more-frames share n some h =
    let le : share ≤ n - 1 = omega arith in
    let one : (n - 1) / share ≡ (n - 1 - share) / share + 1 = div-eq-sub-div some le in
    let same : n - 1 - share ≡ n - share - 1 = omega arith in
    one ∙ ap (λ (x : ℕ). x / share + 1) same ∙ omega arith

-- a message that fits one frame has no full frame before it
pub one_frame : (share n : ℕ) → 1 ≤ share → n ≤ share → full_frames share n ≡ 0
unfolding full_frames
one_frame share n some h = let lt : n - 1 < share = omega arith in div-eq_of_lt lt

-- before a full frame: more than a share is left, and the rest has one full frame less
pub full-split : (share n k : ℕ) → 1 ≤ share → suc k ≡ full_frames share n → (share < n) × (k ≡ full_frames share (n - share))
full-split share n k some e = go (leb n share) refl
  where
    go : (b : Bool) → leb n share ≡ b → (share < n) × (k ≡ full_frames share (n - share))
    go true t = absurd (omega (arith, e, one_frame share n some (leb-true n share t)))
    go false t = let h : share < n = leb-false n share t in (h, omega (arith, e, more-frames share n some h))

-- before the last frame: the rest fits it
pub full-none : (share n : ℕ) → 1 ≤ share → 0 ≡ full_frames share n → n ≤ share
full-none share n some e = go (leb n share) refl
  where
    go : (b : Bool) → leb n share ≡ b → n ≤ share
    go true t = leb-true n share t
    go false t = absurd (omega (arith, e, more-frames share n some (leb-false n share t)))

-- the full frames' bytes are among the message's
pub full_least : (share n : ℕ) → (full_frames share n ≤ n) × (full_frames share n * share ≤ n)
unfolding full_frames
full_least share n =
    let a : (n - 1) / share ≤ n - 1 = div-le_self (n - 1) share in
    let b : (n - 1) / share * share ≤ n - 1 = div-mul-le_self (n - 1) share in
    (omega (arith, a), omega (arith, b))

-- the full ones and the last
pub frames-count : (form : Form) (k : ℕ) (s : Start) (m : List ℕ) → length (frames_from form k s m) ≡ suc k
unfolding frames_from
frames-count form zero s m = refl
frames-count form (suc k) s m = ap suc (frames-count form k (next_start s) (drop (share_of form) m))

-- ---- how long

-- all full frames are of one length
pub room_product : (form : Form) (k n : ℕ)
    → k * frame_length (seg_of form) (3 + share_of form) + frame_length (seg_of form) (3 + (n - k * share_of form)) ≡ room_for form k n
unfolding room_for
room_product form zero n =
    let w = frame_length (seg_of form) (3 + share_of form) in
    let none : 0 * w ≡ 0 = zero-mul w in
    let all : n - 0 * share_of form ≡ n = omega (arith, zero-mul (share_of form)) in
    ap₂ (λ (x y : ℕ). x + frame_length (seg_of form) (3 + y)) none all ∙ omega arith
room_product form (suc k) n =
    let c = share_of form in
    let w = frame_length (seg_of form) (3 + c) in
    let rest : n - suc k * c ≡ n - c - k * c = omega (arith, suc-mul k c) in
    let last = frame_length (seg_of form) (3 + (n - c - k * c)) in
    let sum : suc k * w + last ≡ w + (k * w + last) = omega (arith, suc-mul k w) in
    ap (λ (x : ℕ). suc k * w + frame_length (seg_of form) (3 + x)) rest ∙ sum ∙ ap (λ (x : ℕ). w + x) (room_product form k (n - c))

-- the sum of the frames' bytes follows from the message's length
frames-room : (form : Form) (k : ℕ) (s : Start) (m : List ℕ) → 1 ≤ share_of form → k ≡ full_frames (share_of form) (length m)
    → length (bytes_in (frames_from form k s m)) ≡ room_for form k (length m)
unfolding frames_from room_for
frames-room form zero s m some e =
    length-append (frame_of form (data_of s false) m) [] ∙ omega (arith, frame-length form (data_of s false) m)
frames-room form (suc k) s m some e =
    let c = share_of form in
    let d = full-split c (length m) k some e in
    let full : length (take c m) ≡ c = length-take-le c m (omega (arith, d.0)) in
    let rest : length (drop c m) ≡ length m - c = length-drop c m in
    length-append (frame_of form (data_of s true) (take c m)) (bytes_in (frames_from form k (next_start s) (drop c m)))
    ∙ ap₂ (λ (x y : ℕ). x + y)
    (frame-length form (data_of s true) (take c m) ∙ ap (λ (x : ℕ). frame_length (seg_of form) (3 + x)) full)
    (frames-room form k (next_start s) (drop c m) some (d.1 ∙ ap (full_frames c) (sym rest)) ∙ ap (room_for form k) rest)

-- ---- the numbers fit

-- each is within its field
pub record InRange (s : Start) : Type 0 where
  pub link : s.sn.0 < 64
  pub packet : s.ps.0 < 16
  pub back : s.pr.0 < 16
  pub channel : s.ch < 16

-- they are, if the first frame's packet may be written
pub in-range : (form : Form) (s : Start) → fits form (data_of s false) 0 ≡ true → InRange s
unfolding values_fit
in-range form s e =
    let a = both_true (ltb s.sn.0 64 && (ltb s.ps.0 16 && (ltb s.pr.0 16 && (ltb s.ch 16 && true)))) true e in
    let b = both_true (ltb s.sn.0 64) (ltb s.ps.0 16 && (ltb s.pr.0 16 && (ltb s.ch 16 && true))) a.0 in
    let c = both_true (ltb s.ps.0 16) (ltb s.pr.0 16 && (ltb s.ch 16 && true)) b.1 in
    let d = both_true (ltb s.pr.0 16) (ltb s.ch 16 && true) c.1 in
    let f = both_true (ltb s.ch 16) true d.1 in
    record {
      link = ltb-true s.sn.0 64 b.0;
      packet = ltb-true s.ps.0 16 c.0;
      back = ltb-true s.pr.0 16 d.0;
      channel = ltb-true s.ch 16 f.0;
    }

-- a flag fits its bit
flag-fits : (b : Bool) → ltb (flag b) 2 ≡ true
flag-fits true = refl
flag-fits false = refl

-- with M, and with user data, as well
pub fits_all : (form : Form) (s : Start) (more : Bool) (user : ℕ) → InRange s → fits form (data_of s more) user ≡ true
unfolding values_fit
fits_all form s more user r =
    rw (flag-fits more, lt-ltb s.sn.0 64 r.link, lt-ltb s.ps.0 16 r.packet, lt-ltb s.pr.0 16 r.back, lt-ltb s.ch 16 r.channel)

-- so do those of the next frame
pub next-in-range : (s : Start) → InRange s → InRange (next_start s)
next-in-range s r = record { link = mod-lt (s.sn.0 + 1) (omega arith); packet = mod-lt (s.ps.0 + 1) (omega arith); back = r.back; channel = r.channel }

-- ---- a message's frames, by its length

-- the sum of their bytes
pub message_room : (form : Form) (s : Start) (m : List ℕ) → form_valid form ≡ true
    → length (bytes_in (frames_of form s m)) ≡ room_for form (full_frames (share_of form) (length m)) (length m)
unfolding frames_of
message_room form s m good = frames-room form (full_frames (share_of form) (length m)) s m (omega (arith, share_range form good)) refl

-- and they are one more than the full ones
pub message_count : (form : Form) (s : Start) (m : List ℕ) → length (frames_of form s m) ≡ suc (full_frames (share_of form) (length m))
unfolding frames_of
message_count form s m = frames-count form (full_frames (share_of form) (length m)) s m
