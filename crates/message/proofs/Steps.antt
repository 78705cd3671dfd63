-- The loop that writes the frames: its invariant, how it starts, what writing a frame requires, how
-- it goes on and ends.
-- Assumes nothing.
use mathlib.Core.Path.{◌≡◌, refl, sym, ap, ap₂, ◌∙◌, subst}
use mathlib.Core.Bool.{Bool, true, false}
use mathlib.Core.List.{List, [], ◌∷◌, ◌++◌, append_assoc}
use Prim.Native.Nat.{ℕ, zero, suc, ◌+◌, ◌-◌, ◌<◌, ◌≤◌, min}
use native.Mathlib.Omega.{arith}
use lib.Dec.{ltb}
use lib.ListN.{length, take, drop, set, length-drop}
use lib.Seq.{drop-drop, take_all, length-take-le}
use borrow.Author.Tests.{ltb-true, ltb-false}
use Rattle.lists.specs.Frames.{bytes_in, lengths_of}
use Rattle.lists.specs.Lists.{over}
use Rattle.frame_form.specs.declared.Form.{Form}
use Rattle.frame_form.specs.Forms.{form_valid, is_long}
use Rattle.frame_form.specs.Segments.{frame_length}
use Rattle.frame_form.proofs.Forms.{long-segment}
use Rattle.frame_kinds.specs.Kinds.{size_of}
use Rattle.frame.specs.declared.Packet.{Packet}
use Rattle.frame.specs.Packets.{kind_of}
use Rattle.frame.specs.Writing.{fits, frame_of}
use Rattle.frame.proofs.Frames.{frame-length}
use Rattle.message.specs.declared.cutting.Start.{Start}
use Rattle.message.specs.Cutting.{share_of, full_frames, data_of, next_start, frames_from, frames_of, cut_by, cut_into}
use Rattle.message.specs.CuttingParts.{splice, Room, Ready}
use Rattle.message.proofs.Sizes.{share_range, full-split, full-none, InRange, in-range, fits_all, next-in-range}
use Rattle.message.proofs.Written.{Written, none_written, room-left, one_written}
use Rattle.std.specs.Prelude.{Ok}

-- the frames fs are written; `left` full ones and the last come, from s on, for the message from
-- index `from` on
pub record Cutting (form : Form) (s₀ : Start) (k₀ : ℕ) (m o₀ l₀ o l : List ℕ) (s : Start) (from p i : ℕ) : Type 0 where
  pub fs : List (List ℕ)
  pub left : ℕ
  pub text : Written fs o₀ l₀ o l p i
  pub numbers : InRange s
  pub inside : from ≤ length m
  pub count : left ≡ full_frames (share_of form) (length m - from)
  pub places : i + left ≡ k₀
  pub rest : fs ++ frames_from form left s (drop from m) ≡ frames_of form s₀ m

pub starts : (form : Form) (s : Start) (k₀ : ℕ) (m o₀ l₀ : List ℕ) → Room form s m (length o₀) (length l₀) → k₀ ≡ full_frames (share_of form) (length m)
    → Cutting form s k₀ m o₀ l₀ o₀ l₀ s 0 0 0
unfolding frames_of
starts form s k₀ m o₀ l₀ room e =
    let all : length m ≡ length m - 0 = omega arith in
    record {
      fs = [];
      left = k₀;
      text = none_written o₀ l₀;
      numbers = in-range form s room.fit;
      inside = omega arith;
      count = e ∙ ap (full_frames (share_of form)) all;
      places = omega arith;
      rest = ap (λ (k : ℕ). frames_from form k s m) e;
    }

-- a DATA packet may be written
ready : (form : Form) (s : Start) (more : Bool) (q : Packet) (n : ℕ) (u : List ℕ) (p room i places : ℕ) → q ≡ data_of s more → length u ≡ n → form_valid form ≡ true
    → is_long form ≡ true → InRange s → n ≤ share_of form → p + length (frame_of form (data_of s more) u) ≤ room → i < places → Ready form q n p room i places
ready form s more q n u p room i places e en good long numbers share inside place = record {
  good = good;
  long = long;
  fit = ap (λ (x : Packet). fits form x n) e ∙ fits_all form s more n numbers;
  header = ap (λ (x : Packet). size_of (kind_of x)) e;
  share = share;
  inside = subst (λ (x : ℕ). p + x ≤ room) (frame-length form (data_of s more) u ∙ ap₂ (λ (seg x : ℕ). frame_length seg (3 + x)) (long-segment form long) en) inside;
  place = place;
}

module _ (form : Form) (s₀ : Start) (k₀ : ℕ) (m o₀ l₀ : List ℕ) (room : Room form s₀ m (length o₀) (length l₀)) where
  some : 1 ≤ share_of form
  some = omega (arith, share_range form room.good)

  -- a full frame comes: the next one, and those after it
  record Full (o l : List ℕ) (s : Start) (from p i : ℕ) (v : Cutting form s₀ k₀ m o₀ l₀ o l s from p i) : Type 0 where
    left : ℕ
    enough : share_of form < length m - from
    count : left ≡ full_frames (share_of form) (length m - from - share_of form)
    places : i + suc left ≡ k₀
    rest : v.fs ++ (frame_of form (data_of s true) (take (share_of form) (drop from m)) ∷ frames_from form left (next_start s) (drop (share_of form) (drop from m))) ≡ frames_of form s₀ m

  full : (o l : List ℕ) (s : Start) (from p i : ℕ) (v : Cutting form s₀ k₀ m o₀ l₀ o l s from p i) → i < k₀ → Full o l s from p i v
  unfolding frames_from
  full o l s from p i v h = go v.left refl
    where
      go : (j : ℕ) → v.left ≡ j → Full o l s from p i v
      go zero e = absurd (omega (arith, e, v.places))
      go (suc j) e =
          let d = full-split (share_of form) (length m - from) j some (sym e ∙ v.count) in
          record {
            left = j;
            enough = d.0;
            count = d.1;
            places = omega (arith, e, v.places);
            rest = ap (λ (x : ℕ). v.fs ++ frames_from form x s (drop from m)) (sym e) ∙ v.rest;
          }

  share-length : (from : ℕ) → share_of form < length m - from → length (take (share_of form) (drop from m)) ≡ share_of form
  share-length from h = length-take-le (share_of form) (drop from m) (simp length-drop (omega (arith, h)))

  -- what writing a full frame requires
  turn_inside : (o l : List ℕ) (s : Start) (from p i share : ℕ) → share ≡ share_of form → Cutting form s₀ k₀ m o₀ l₀ o l s from p i → i < k₀ → from + share ≤ length m
  turn_inside o l s from p i share es v h = omega (arith, es, (full o l s from p i v h).enough)

  part-is : (from share : ℕ) → share ≡ share_of form → take (from + share - from) (drop from m) ≡ take (share_of form) (drop from m)
  part-is from share es = let e : from + share - from ≡ share_of form = omega (arith, es) in ap (λ (x : ℕ). take x (drop from m)) e

  turn-ready : (o l : List ℕ) (s : Start) (from p i share : ℕ) (q : Packet) → share ≡ share_of form → Cutting form s₀ k₀ m o₀ l₀ o l s from p i → i < k₀
      → q ≡ data_of s true → Ready form q (length (take (from + share - from) (drop from m))) p (length o) i (length l)
  turn-ready o l s from p i share q es v h eq =
      let f = full o l s from p i v h in
      let u = take (share_of form) (drop from m) in
      let r = room-left v.fs _ _ _ o₀ l₀ o l p i v.text f.rest room.bytes room.frames in
      let len = share-length from f.enough in
      subst (λ (x : List ℕ). Ready form q (length x) p (length o) i (length l)) (sym (part-is from share es))
      (ready form s true q (length u) u p (length o) i (length l) eq refl room.good room.long v.numbers (omega (arith, len)) r.0 r.1)

  -- a full frame was written
  turns : (o l o1 l1 u : List ℕ) (s s1 : Start) (from p i share p1 : ℕ) (q : Packet) → share ≡ share_of form → Cutting form s₀ k₀ m o₀ l₀ o l s from p i → i < k₀
      → u ≡ take (from + share - from) (drop from m) → q ≡ data_of s true → s1 ≡ next_start s → o1 ≡ splice p (frame_of form q u) o → l1 ≡ set l i (length (frame_of form q u))
      → p1 ≡ p + length (frame_of form q u) → Cutting form s₀ k₀ m o₀ l₀ o1 l1 s1 (from + share) p1 (i + 1)
  turns o l o1 l1 u s s1 from p i share p1 q es v h eu eq en eo el ep =
      let f = full o l s from p i v h in
      let c = share_of form in
      let fr = frame_of form (data_of s true) (take c (drop from m)) in
      let ea : from + c ≡ from + share = omega (arith, es) in
      let to : length m - from - c ≡ length m - (from + share) = omega (arith, es) in
      let rest : drop c (drop from m) ≡ drop (from + share) m = drop-drop c from m ∙ ap (λ (x : ℕ). drop x m) ea in
      let t : Cutting form s₀ k₀ m o₀ l₀ o1 l1 (next_start s) (from + share) p1 (i + 1) = record {
        fs = v.fs ++ (fr ∷ []);
        left = f.left;
        text = one_written v.fs fr _ _ o₀ l₀ o l o1 l1 _ p i p1 v.text f.rest room.frames (ap₂ (frame_of form) eq (eu ∙ part-is from share es)) eo el ep;
        numbers = next-in-range s v.numbers;
        inside = omega (arith, es, f.enough);
        count = f.count ∙ ap (full_frames c) to;
        places = omega (arith, f.places);
        rest =
            append_assoc v.fs (fr ∷ []) (frames_from form f.left (next_start s) (drop (from + share) m))
            ∙ ap (λ (x : List ℕ). v.fs ++ (fr ∷ frames_from form f.left (next_start s) x)) (sym rest) ∙ f.rest;
      } in
      subst (λ (x : Start). Cutting form s₀ k₀ m o₀ l₀ o1 l1 x (from + share) p1 (i + 1)) (sym en) t

  -- the last frame comes
  last : (o l : List ℕ) (s : Start) (from p i : ℕ) (v : Cutting form s₀ k₀ m o₀ l₀ o l s from p i) → k₀ ≤ i
      → (length m - from ≤ share_of form) × (v.fs ++ (frame_of form (data_of s false) (drop from m) ∷ []) ≡ frames_of form s₀ m)
  unfolding frames_from
  last o l s from p i v h =
      let none : 0 ≡ v.left = omega (arith, v.places) in
      (full-none (share_of form) (length m - from) some (none ∙ v.count), ap (λ (x : ℕ). v.fs ++ frames_from form x s (drop from m)) none ∙ v.rest)

  -- the lent lists are as long as they were
  pub lengths_kept : (o l : List ℕ) (s : Start) (from p i : ℕ) → Cutting form s₀ k₀ m o₀ l₀ o l s from p i → k₀ ≤ i → (length o ≡ length o₀) × (length l ≡ length l₀)
  lengths_kept o l s from p i v h =
      let r = room-left v.fs _ _ _ o₀ l₀ o l p i v.text (last o l s from p i v h).1 room.bytes room.frames in
      (r.2, r.3)

  -- what writing it requires
  last-ready : (o l u : List ℕ) (s : Start) (from p i : ℕ) (q : Packet) → Cutting form s₀ k₀ m o₀ l₀ o l s from p i → k₀ ≤ i → u ≡ drop from m → q ≡ data_of s false
      → Ready form q (length u) p (length o) i (length l)
  last-ready o l u s from p i q v h eu eq =
      let e = last o l s from p i v h in
      let r = room-left v.fs _ _ _ o₀ l₀ o l p i v.text e.1 room.bytes room.frames in
      ready form s false q (length u) (drop from m) p (length o) i (length l) eq (sym (ap length eu)) room.good room.long v.numbers
      (omega (arith, ap length eu, length-drop from m, e.0)) r.0 r.1

  -- it was written, and so all frames are
  ends : (o l o1 l1 u : List ℕ) (s : Start) (from p i p1 : ℕ) (q : Packet) → Cutting form s₀ k₀ m o₀ l₀ o l s from p i → k₀ ≤ i → u ≡ drop from m → q ≡ data_of s false
      → o1 ≡ splice p (frame_of form q u) o → l1 ≡ set l i (length (frame_of form q u)) → p1 ≡ p + length (frame_of form q u)
      → (cut_into (i + 1) p1 ≡ cut_by (Ok tt) (frames_of form s₀ m)) × (o1 ≡ over (bytes_in (frames_of form s₀ m)) o₀) × (l1 ≡ over (lengths_of (frames_of form s₀ m)) l₀)
  ends o l o1 l1 u s from p i p1 q v h eu eq eo el ep =
      let e = last o l s from p i v h in
      let w = subst (λ (x : List (List ℕ)). Written x o₀ l₀ o1 l1 p1 (i + 1)) e.1
      (one_written v.fs _ _ _ o₀ l₀ o l o1 l1 _ p i p1 v.text e.1 room.frames (ap₂ (frame_of form) eq eu) eo el ep) in
      (ap₂ cut_into (sym w.lens-at) (sym w.out_at), w.out, w.lens)

  -- ---- a frame, full or the last: `more` is whether it is a full one; `to` is where its part of
  -- the message ends

  -- after a share, if it is a full one
  to-full : (o l : List ℕ) (s : Start) (from p i share to : ℕ) → share ≡ share_of form → Cutting form s₀ k₀ m o₀ l₀ o l s from p i → i < k₀
      → to ≡ min (from + share) (length m) → to ≡ from + share
  to-full o l s from p i share to es v h et = omega (arith, et, turn_inside o l s from p i share es v h)

  -- and with the message, if it is the last
  part-rest : (o l : List ℕ) (s : Start) (from p i share to : ℕ) → share ≡ share_of form → Cutting form s₀ k₀ m o₀ l₀ o l s from p i → k₀ ≤ i
      → to ≡ min (from + share) (length m) → take (to - from) (drop from m) ≡ drop from m
  part-rest o l s from p i share to es v h et =
      take_all (to - from) (drop from m) (omega (arith, et, es, v.inside, (last o l s from p i v h).0, length-drop from m))

  -- what writing it requires
  pub asked : (o l : List ℕ) (s : Start) (from p i share to : ℕ) (q : Packet) (more : Bool) → share ≡ share_of form → Cutting form s₀ k₀ m o₀ l₀ o l s from p i
      → ltb i k₀ ≡ more → to ≡ min (from + share) (length m) → q ≡ data_of s more → Ready form q (length (take (to - from) (drop from m))) p (length o) i (length l)
  asked o l s from p i share to q true es v em et eq =
      let h = ltb-true i k₀ em in
      subst (λ (x : ℕ). Ready form q (length (take (x - from) (drop from m))) p (length o) i (length l)) (sym (to-full o l s from p i share to es v h et)) (turn-ready o l s from p i share q es v h eq)
  asked o l s from p i share to q false es v em et eq =
      let h = ltb-false i k₀ em in
      last-ready o l _ s from p i q v h (part-rest o l s from p i share to es v h et) eq

  -- it was written: the loop goes on
  pub goes_on : (o l o1 l1 u : List ℕ) (s s1 : Start) (from p i share to p1 : ℕ) (q : Packet) (more : Bool) → share ≡ share_of form
      → Cutting form s₀ k₀ m o₀ l₀ o l s from p i → ltb i k₀ ≡ more → more ≡ true → to ≡ min (from + share) (length m) → q ≡ data_of s more
      → u ≡ take (to - from) (drop from m) → s1 ≡ next_start s → o1 ≡ splice p (frame_of form q u) o → l1 ≡ set l i (length (frame_of form q u))
      → p1 ≡ p + length (frame_of form q u) → Cutting form s₀ k₀ m o₀ l₀ o1 l1 s1 to p1 (i + 1)
  goes_on o l o1 l1 u s s1 from p i share to p1 q true es v em t et eq eu en eo el ep =
      let h = ltb-true i k₀ em in
      let is = to-full o l s from p i share to es v h et in
      subst (λ (x : ℕ). Cutting form s₀ k₀ m o₀ l₀ o1 l1 s1 x p1 (i + 1)) (sym is)
      (turns o l o1 l1 u s s1 from p i share p1 q es v h (eu ∙ ap (λ (x : ℕ). take (x - from) (drop from m)) is) eq en eo el ep)
  goes_on o l o1 l1 u s s1 from p i share to p1 q false es v em t et eq eu en eo el ep = let z : ◌≡◌ {A = ℕ} 0 1 = cc in absurd (omega arith)

  -- or ends: all frames are written
  pub finished : (o l o1 l1 u : List ℕ) (s : Start) (from p i share to p1 : ℕ) (q : Packet) (more : Bool) → share ≡ share_of form
      → Cutting form s₀ k₀ m o₀ l₀ o l s from p i → ltb i k₀ ≡ more → more ≡ false → to ≡ min (from + share) (length m) → q ≡ data_of s more
      → u ≡ take (to - from) (drop from m) → o1 ≡ splice p (frame_of form q u) o → l1 ≡ set l i (length (frame_of form q u)) → p1 ≡ p + length (frame_of form q u)
      → (cut_into (i + 1) p1 ≡ cut_by (Ok tt) (frames_of form s₀ m)) × (o1 ≡ over (bytes_in (frames_of form s₀ m)) o₀) × (l1 ≡ over (lengths_of (frames_of form s₀ m)) l₀)
  finished o l o1 l1 u s from p i share to p1 q true es v em t et eq eu eo el ep = let z : ◌≡◌ {A = ℕ} 0 1 = cc in absurd (omega arith)
  finished o l o1 l1 u s from p i share to p1 q false es v em t et eq eu eo el ep =
      let h = ltb-false i k₀ em in
      ends o l o1 l1 u s from p i p1 q v h (eu ∙ part-rest o l s from p i share to es v h et) eq eo el ep
