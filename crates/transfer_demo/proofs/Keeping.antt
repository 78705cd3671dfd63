-- Frames kept in lent memory, one after the other.
-- Assumes nothing.
use mathlib.Core.Path.{◌≡◌, refl, sym, ap, ap₂, ◌∙◌, subst}
use mathlib.Core.Bool.{Bool, cond, ◌&&◌}
use mathlib.Core.List.{List, [], ◌∷◌, ◌++◌, append-nil, map, map-append}
use Prim.Native.Nat.{ℕ, ◌+◌, ◌-◌, ◌≤◌, ◌<◌}
use native.Mathlib.Numerals.{add-one}
use native.Mathlib.Omega.{arith}
use lib.Dec.{ltb}
use lib.ListN.{length, take, drop, get_or, set, length-append, length-set, take-append-drop}
use lib.Seq.{take-suc, take-suc-set, take-append_seam, paste, length-paste, take-paste, take-length}
use borrow.Author.Tests.{lt-ltb, le-ltb, le-leb, lt-leb}
use Rattle.lists.specs.Frames.{bytes_in}
use Rattle.lists.proofs.Frames.{bytes-append, lengths-append}
use Rattle.resequencer.specs.declared.Answer.{Answer}
use Rattle.resequencer.specs.Events.{handed}
use Rattle.transfer_claims.specs.Circuit.{frame_at}
use Rattle.transfer_demo.specs.declared.Handed.{Handed}
use Rattle.transfer_demo.specs.Kept.{keep_one, keep_all, Holds}

-- ---- the definitions

module _ (room places : ℕ) where
  pub all_append : (ks fs gs : List (List ℕ)) → keep_all room places ks (fs ++ gs) ≡ keep_all room places (keep_all room places ks fs) gs
  unfolding keep_all
  all_append ks [] gs = refl
  all_append ks (f ∷ fs) gs = all_append (keep_one room places ks f) fs gs

  pub all_none : (ks : List (List ℕ)) → keep_all room places ks [] ≡ ks
  unfolding keep_all
  all_none ks = refl

  pub all-last : (ks fs : List (List ℕ)) (f : List ℕ) → keep_all room places ks (fs ++ (f ∷ [])) ≡ keep_one room places (keep_all room places ks fs) f
  unfolding keep_all
  all-last ks fs f = all_append ks fs (f ∷ [])

  module _ (ks : List (List ℕ)) (f : List ℕ) where
    one-fits : length (bytes_in ks) + length f ≤ room → length ks < places → keep_one room places ks f ≡ ks ++ (f ∷ [])
    unfolding keep_one
    one-fits h k = ap₂ (λ (x y : Bool). cond (x && y) (ks ++ (f ∷ [])) ks) (le-leb (length (bytes_in ks) + length f) room h) (lt-ltb (length ks) places k)

    one-too-long : room < length (bytes_in ks) + length f → keep_one room places ks f ≡ ks
    unfolding keep_one
    one-too-long h = ap (λ (x : Bool). cond (x && ltb (length ks) places) (ks ++ (f ∷ [])) ks) (lt-leb (length (bytes_in ks) + length f) room h)

    one-too-many : length (bytes_in ks) + length f ≤ room → places ≤ length ks → keep_one room places ks f ≡ ks
    unfolding keep_one
    one-too-many h k = ap₂ (λ (x y : Bool). cond (x && y) (ks ++ (f ∷ [])) ks) (le-leb (length (bytes_in ks) + length f) room h) (le-ltb (length ks) places k)

-- ---- one frame more

module _ (received sizes f : List ℕ) (kept : Handed) (ks : List (List ℕ)) (h : Holds received sizes kept ks) where
  bytes-last : bytes_in (ks ++ (f ∷ [])) ≡ bytes_in ks ++ f
  bytes-last = bytes-append ks (f ∷ []) ∙ ap (λ (x : List ℕ). bytes_in ks ++ x) (append-nil f)

  put_last : length f ≤ length received - kept.bytes → kept.frames < length sizes
      → Holds (paste received kept.bytes f (length f)) (set sizes kept.frames (length f)) (record { frames = kept.frames + 1; bytes = kept.bytes + length f }) (ks ++ (f ∷ []))
  put_last fit place =
      let long : length (paste received kept.bytes f (length f)) ≡ length received = length-paste received kept.bytes f (length f) (omega (arith, h.total-fits)) (omega arith) in
      record {
        count = omega (arith, h.count, length-append ks (f ∷ []));
        total = omega (arith, h.total, ap length bytes-last, length-append (bytes_in ks) f);
        count_fits = omega (arith, length-set sizes kept.frames (length f));
        total-fits = omega (arith, long, h.total-fits);
        lengths =
            ap (λ (n : ℕ). take n (set sizes kept.frames (length f))) (add-one kept.frames) ∙ take-suc-set sizes kept.frames (length f) place
            ∙ ap (λ (x : List ℕ). x ++ (length f ∷ [])) h.lengths ∙ sym (lengths-append ks (f ∷ []));
        bytes =
            take-paste received kept.bytes f (length f) h.total-fits (omega arith)
            ∙ ap₂ (λ (x y : List ℕ). x ++ y) h.bytes (take-length f) ∙ sym bytes-last;
      }

  pub put : {out : List ℕ} → out ≡ paste received kept.bytes f (length f) → length f ≤ length received - kept.bytes → kept.frames < length sizes
      → Holds out (set sizes kept.frames (length f)) (record { frames = kept.frames + 1; bytes = kept.bytes + length f }) (keep_one (length received) (length sizes) ks f)
  put e fit place =
      subst (λ (x : List ℕ). Holds x (set sizes kept.frames (length f)) (record { frames = kept.frames + 1; bytes = kept.bytes + length f }) (keep_one (length received) (length sizes) ks f)) (sym e)
      (subst (Holds (paste received kept.bytes f (length f)) (set sizes kept.frames (length f)) (record { frames = kept.frames + 1; bytes = kept.bytes + length f }))
      (sym (one-fits (length received) (length sizes) ks f (omega (arith, h.total, h.total-fits)) (omega (arith, h.count))))
      (put_last fit place))

  -- no room for its bytes, or no place for its length
  pub too_long : length received - kept.bytes < length f → Holds received sizes kept (keep_one (length received) (length sizes) ks f)
  too_long k = subst (Holds received sizes kept) (sym (one-too-long (length received) (length sizes) ks f (omega (arith, h.total, h.total-fits)))) h

  pub too_many : length f ≤ length received - kept.bytes → length sizes ≤ kept.frames → Holds received sizes kept (keep_one (length received) (length sizes) ks f)
  too_many j k =
      subst (Holds received sizes kept)
      (sym (one-too-many (length received) (length sizes) ks f (omega (arith, h.total, h.total-fits)) (omega (arith, h.count)))) h

-- ---- several frames, one after the other

pub record Taken (received₀ sizes₀ : List ℕ) (before : Handed) (fs : List (List ℕ)) (received sizes : List ℕ) (kept : Handed) : Type 0 where
  pub room : length received ≡ length received₀
  pub places : length sizes ≡ length sizes₀
  pub count_fits : kept.frames ≤ length sizes
  pub total-fits : kept.bytes ≤ length received
  pub holds : (ks : List (List ℕ)) → Holds received₀ sizes₀ before ks → Holds received sizes kept (keep_all (length received₀) (length sizes₀) ks fs)

pub taken_none : (received sizes : List ℕ) (before : Handed) → before.frames ≤ length sizes → before.bytes ≤ length received → Taken received sizes before [] received sizes before
taken_none received sizes before h k =
    record { room = refl; places = refl; count_fits = h; total-fits = k; holds = λ ks x. subst (Holds received sizes before) (sym (all_none (length received) (length sizes) ks)) x }

pub same-frames : (received₀ sizes₀ : List ℕ) (before : Handed) (received sizes : List ℕ) (kept : Handed) {fs gs : List (List ℕ)} → fs ≡ gs
    → Taken received₀ sizes₀ before fs received sizes kept → Taken received₀ sizes₀ before gs received sizes kept
same-frames received₀ sizes₀ before received sizes kept e v = subst (λ (fs : List (List ℕ)). Taken received₀ sizes₀ before fs received sizes kept) e v

pub taken_more : (received₀ sizes₀ : List ℕ) (before : Handed) (fs : List (List ℕ)) (received sizes : List ℕ) (kept : Handed) (f : List ℕ) (received1 sizes1 : List ℕ) (kept1 : Handed)
    → Taken received₀ sizes₀ before fs received sizes kept → length received1 ≡ length received → length sizes1 ≡ length sizes
    → (kept1.frames ≤ length sizes1) × (kept1.bytes ≤ length received1)
    → ((ks : List (List ℕ)) → Holds received sizes kept ks → Holds received1 sizes1 kept1 (keep_one (length received) (length sizes) ks f))
    → Taken received₀ sizes₀ before (fs ++ (f ∷ [])) received1 sizes1 kept1
taken_more received₀ sizes₀ before fs received sizes kept f received1 sizes1 kept1 v er es fit more =
    record {
      room = er ∙ v.room;
      places = es ∙ v.places;
      count_fits = fit.0;
      total-fits = fit.1;
      holds = λ ks x.
          subst (Holds received1 sizes1 kept1)
          (ap₂ (λ (a b : ℕ). keep_one a b (keep_all (length received₀) (length sizes₀) ks fs) f) v.room v.places ∙ sym (all-last (length received₀) (length sizes₀) ks fs f))
          (more (keep_all (length received₀) (length sizes₀) ks fs) (v.holds ks x));
    }

-- ---- the frames of tickets

pub tickets-more : (parts : List (List ℕ)) (tickets : List ℕ) (i : ℕ) {f : List ℕ} → i < length tickets → f ≡ frame_at parts (get_or tickets i 0)
    → map (frame_at parts) (take i tickets) ++ (f ∷ []) ≡ map (frame_at parts) (take (i + 1) tickets)
tickets-more parts tickets i h e =
    ap (λ (x : List ℕ). map (frame_at parts) (take i tickets) ++ (x ∷ [])) e ∙ sym (map-append (frame_at parts) (take i tickets) (get_or tickets i 0 ∷ []))
    ∙ ap (map (frame_at parts)) (sym (take-suc tickets i 0 h) ∙ ap (λ (n : ℕ). take n tickets) (sym (add-one i)))

pub tickets-all : (a : Answer) (i : ℕ) → i ≡ length (handed a) → take i a.tickets ≡ handed a
unfolding handed
tickets-all a i e =
    let first = take a.count a.tickets in
    ap (λ (n : ℕ). take n a.tickets) e ∙ ap (take (length first)) (sym (take-append-drop a.count a.tickets)) ∙ take-append_seam first (drop a.count a.tickets)
