-- What the loop over all events keeps: what is kept now, and the frames that the calls from here on
-- hand on, make what is kept in the end.
-- Assumes nothing.
use mathlib.Core.Path.{◌≡◌, refl, sym, ap, ap₂, ◌∙◌, subst}
use mathlib.Core.Bool.{Bool, true, false, cond}
use mathlib.Core.List.{List, [], ◌∷◌, ◌++◌, map, map-append}
use Prim.Native.Nat.{ℕ, suc, ◌+◌, ◌-◌, ◌≤◌, ◌<◌}
use native.Mathlib.Numerals.{add-one}
use native.Mathlib.Omega.{arith}
use lib.ListN.{length}
use Rattle.resequencer_claims.specs.Events.{Event}
use Rattle.resequencer.specs.declared.Resequencer.{Resequencer}
use Rattle.resequencer.specs.declared.Answer.{Answer}
use Rattle.resequencer.specs.State.{fresh_state}
use Rattle.resequencer.specs.Events.{handed}
use Rattle.transfer_claims.specs.Rule.{demo_form}
use Rattle.transfer_claims.specs.Circuit.{frame_at, frame_answer, places_handed_on, frames_handed_on}
use Rattle.transfer_claims.specs.Rule.{call_at, takes_place, calls_from}
use Rattle.transfer_demo.specs.declared.Handed.{Handed}
use Rattle.transfer_demo.specs.Kept.{keep_all, Holds}
use Rattle.transfer_demo.proofs.Keeping.{all_append, all_none}

-- ---- the calls from a step on

calls-here : (count steps i : ℕ) (e : Event) (b : Bool) → i < steps → e ≡ call_at i → takes_place count e ≡ b
    → calls_from count i (steps - i) ≡ cond b (e ∷ calls_from count (i + 1) (steps - (i + 1))) (calls_from count (i + 1) (steps - (i + 1)))
unfolding calls_from
calls-here count steps i e b h q t =
    let m = steps - (i + 1) in
    let z : steps - i ≡ suc m = omega arith in
    ap (calls_from count i) z
    ∙ ap₂ (λ (n : ℕ) (x : Event). cond (takes_place count x) (x ∷ calls_from count n m) (calls_from count n m)) (sym (add-one i)) (sym q)
    ∙ ap (λ (x : Bool). cond x (e ∷ calls_from count (i + 1) m) (calls_from count (i + 1) m)) t

-- ---- what they hand on

-- the frames that these calls hand on
abbrev pub frames_from : List (List ℕ) → Resequencer → List Event → List (List ℕ)
frames_from parts s es = map (frame_at parts) (places_handed_on demo_form parts s es)

first-frames : (parts : List (List ℕ)) (s : Resequencer) (e : Event) (es : List Event) (a : Answer) → a ≡ frame_answer demo_form parts s e
    → frames_from parts s (e ∷ es) ≡ map (frame_at parts) (handed a) ++ frames_from parts a.next es
unfolding places_handed_on
first-frames parts s e es a q =
    map-append (frame_at parts) (handed (frame_answer demo_form parts s e)) (places_handed_on demo_form parts (frame_answer demo_form parts s e).next es)
    ∙ sym (ap (λ (x : Answer). map (frame_at parts) (handed x) ++ frames_from parts x.next es) q)

no_frames : (parts : List (List ℕ)) (s : Resequencer) (count i : ℕ) → frames_from parts s (calls_from count i 0) ≡ []
unfolding places_handed_on calls_from
no_frames parts s count i = refl

-- ---- the loop

pub record Going (parts : List (List ℕ)) (count steps : ℕ) (received₀ sizes₀ received sizes : List ℕ) (state : Resequencer) (tally : Handed) (i : ℕ) : Type 0 where
  pub index : i ≤ steps
  pub room : length received ≡ length received₀
  pub places : length sizes ≡ length sizes₀
  pub kept : List (List ℕ)
  pub holds : Holds received sizes tally kept
  pub rest : keep_all (length received₀) (length sizes₀) kept (frames_from parts state (calls_from count i (steps - i)))
      ≡ keep_all (length received₀) (length sizes₀) [] (frames_handed_on demo_form parts (calls_from count 0 steps))

pub starts : (parts : List (List ℕ)) (count steps : ℕ) (received sizes : List ℕ) {s : Resequencer} → s ≡ fresh_state
    → Going parts count steps received sizes received sizes s (record { frames = 0; bytes = 0 }) 0
starts parts count steps received sizes {s} e =
    let z : steps - 0 ≡ steps = omega arith in
    record {
      index = omega arith;
      room = refl;
      places = refl;
      kept = [];
      holds = record { count = refl; total = refl; count_fits = omega arith; total-fits = omega arith; lengths = refl; bytes = refl };
      rest =
          ap (λ (x : Resequencer). keep_all (length received) (length sizes) [] (frames_from parts x (calls_from count 0 (steps - 0)))) e
          ∙ ap (λ (n : ℕ). keep_all (length received) (length sizes) [] (frames_from parts fresh_state (calls_from count 0 n))) z;
    }

module _ (parts : List (List ℕ)) (count steps : ℕ) (received₀ sizes₀ received sizes : List ℕ) (state : Resequencer) (tally : Handed) (i : ℕ)
    (v : Going parts count steps received₀ sizes₀ received sizes state tally i) (h : i < steps) (e : Event) (q : e ≡ call_at i) where
  pub turn-made : (a : Answer) (received1 sizes1 : List ℕ) (next : Handed) → takes_place count e ≡ true → a ≡ frame_answer demo_form parts state e
      → length received1 ≡ length received → length sizes1 ≡ length sizes
      → ((ks : List (List ℕ)) → Holds received sizes tally ks → Holds received1 sizes1 next (keep_all (length received) (length sizes) ks (map (frame_at parts) (handed a))))
      → Going parts count steps received₀ sizes₀ received1 sizes1 a.next next (i + 1)
  turn-made a received1 sizes1 next t ea er es more =
      let room = length received₀ in
      let places = length sizes₀ in
      let fs = map (frame_at parts) (handed a) in
      let left = calls_from count (i + 1) (steps - (i + 1)) in
      record {
        index = omega arith;
        room = er ∙ v.room;
        places = es ∙ v.places;
        kept = keep_all (length received) (length sizes) v.kept fs;
        holds = more v.kept v.holds;
        rest =
            ap₂ (λ (m n : ℕ). keep_all room places (keep_all m n v.kept fs) (frames_from parts a.next left)) v.room v.places
            ∙ sym (all_append room places v.kept fs (frames_from parts a.next left))
            ∙ sym (ap (keep_all room places v.kept) (first-frames parts state e left a ea))
            ∙ sym (ap (λ (es : List Event). keep_all room places v.kept (frames_from parts state es)) (calls-here count steps i e true h q t))
            ∙ v.rest;
      }

  pub turn-left-out : takes_place count e ≡ false → Going parts count steps received₀ sizes₀ received sizes state tally (i + 1)
  turn-left-out t =
      record {
        index = omega arith;
        room = v.room;
        places = v.places;
        kept = v.kept;
        holds = v.holds;
        rest = sym (ap (λ (es : List Event). keep_all (length received₀) (length sizes₀) v.kept (frames_from parts state es)) (calls-here count steps i e false h q t)) ∙ v.rest;
      }

pub ends : (parts : List (List ℕ)) (count steps : ℕ) (received₀ sizes₀ received sizes : List ℕ) (state : Resequencer) (tally : Handed) (i : ℕ)
    → Going parts count steps received₀ sizes₀ received sizes state tally i → steps ≤ i
    → Holds received sizes tally (keep_all (length received₀) (length sizes₀) [] (frames_handed_on demo_form parts (calls_from count 0 steps)))
ends parts count steps received₀ sizes₀ received sizes state tally i v h =
    let z : steps - i ≡ 0 = omega arith in
    let all : v.kept ≡ keep_all (length received₀) (length sizes₀) [] (frames_handed_on demo_form parts (calls_from count 0 steps)) =
    sym (all_none (length received₀) (length sizes₀) v.kept)
    ∙ sym (ap (keep_all (length received₀) (length sizes₀) v.kept) (ap (λ (n : ℕ). frames_from parts state (calls_from count i n)) z ∙ no_frames parts state count i))
    ∙ v.rest in
    subst (Holds received sizes tally) all v.holds
