-- The frame at a place, found by going through the lengths from the front.
-- Assumes nothing.
use mathlib.Core.Path.{◌≡◌, sym, ap, ◌∙◌, subst}
use mathlib.Core.List.{List, [], ◌∷◌}
use Prim.Native.Nat.{ℕ, suc, ◌+◌, ◌-◌, ◌≤◌, ◌<◌, min}
use native.Mathlib.Decide.{dec_le}
use native.Mathlib.Omega.{arith}
use lib.ListN.{length, take, drop, get_or, length-drop, drop_of_length-le, get_or-eq_default}
use lib.Seq.{take_all}
use Rattle.lists.specs.Frames.{parts_of}
use Rattle.lists.proofs.Frames.{count-parts}
use Rattle.message.proofs.Places.{from, from-here}
use Rattle.transfer_claims.specs.Circuit.{frame_at}

-- ---- a part that ends with the bytes at the latest

module _ (bytes : List ℕ) (at l : ℕ) (h : at ≤ length bytes) where
  ends : Dec (at + l ≤ length bytes) → (take (min (at + l) (length bytes) - at) (drop at bytes) ≡ take l (drop at bytes)) × (drop (min (at + l) (length bytes)) bytes ≡ drop (at + l) bytes)
  ends (yes k) =
      let e : min (at + l) (length bytes) ≡ at + l = omega arith in
      let n : min (at + l) (length bytes) - at ≡ l = omega arith in
      (ap (λ (x : ℕ). take x (drop at bytes)) n, ap (λ (x : ℕ). drop x bytes) e)
  ends (no k) =
      let e : length bytes ≤ min (at + l) (length bytes) = omega arith in
      let n : length (drop at bytes) ≤ min (at + l) (length bytes) - at = omega (arith, length-drop at bytes) in
      let m : length (drop at bytes) ≤ l = omega (arith, length-drop at bytes) in
      let q : length bytes ≤ at + l = omega arith in
      (take_all _ (drop at bytes) n ∙ sym (take_all l (drop at bytes) m), drop_of_length-le bytes e ∙ sym (drop_of_length-le bytes q))

  pub part-is : take (min (at + l) (length bytes) - at) (drop at bytes) ≡ take l (drop at bytes)
  part-is = (ends (dec_le (at + l) (length bytes))).0

  pub rest-is : drop (min (at + l) (length bytes)) bytes ≡ drop (at + l) bytes
  rest-is = (ends (dec_le (at + l) (length bytes))).1

-- ---- the frames from place i on, which begin at byte p

pub record Before (ls bytes : List ℕ) (place p i : ℕ) : Type 0 where
  pub index : i ≤ length ls
  pub inside : p ≤ length bytes
  pub early : i ≤ place
  pub same : frame_at (from ls bytes p i) (place - i) ≡ frame_at (parts_of ls bytes) place

pub starts : (ls bytes : List ℕ) (place : ℕ) → Before ls bytes place 0 0
starts ls bytes place = record { index = omega arith; inside = omega arith; early = omega arith; same = ap (frame_at (parts_of ls bytes)) (omega arith) }

module _ (ls bytes : List ℕ) (place p i end : ℕ) (v : Before ls bytes place p i) (h : i < length ls) (e : end ≡ min (p + get_or ls i 0) (length bytes)) where
  here : from ls bytes p i ≡ take (end - p) (drop p bytes) ∷ from ls bytes end (i + 1)
  here =
      from-here ls bytes p i h
      ∙ ap (λ (x : List ℕ). x ∷ from ls bytes (p + get_or ls i 0) (i + 1)) (sym (part-is bytes p (get_or ls i 0) v.inside) ∙ ap (λ (x : ℕ). take (x - p) (drop p bytes)) (sym e))
      ∙ ap (λ (x : List ℕ). take (end - p) (drop p bytes) ∷ parts_of (drop (i + 1) ls) x) (sym (rest-is bytes p (get_or ls i 0) v.inside) ∙ ap (λ (x : ℕ). drop x bytes) (sym e))

  pub found : i ≡ place → take (end - p) (drop p bytes) ≡ frame_at (parts_of ls bytes) place
  found q =
      let z : 0 ≡ place - i = omega arith in
      ap (λ (fs : List (List ℕ)). frame_at fs 0) (sym here) ∙ ap (frame_at (from ls bytes p i)) z ∙ v.same

  pub turns : (i ≡ place → ⊥) → Before ls bytes place end (i + 1)
  turns q =
      let z : suc (place - (i + 1)) ≡ place - i = omega (arith, v.early, q) in
      record {
        index = omega arith;
        inside = omega (arith, e);
        early = omega (arith, v.early, q);
        same = ap (λ (fs : List (List ℕ)). frame_at fs (suc (place - (i + 1)))) (sym here) ∙ ap (frame_at (from ls bytes p i)) z ∙ v.same;
      }

-- a place past the last has no bytes
pub past : (ls bytes : List ℕ) (place : ℕ) → length ls ≤ place → [] ≡ frame_at (parts_of ls bytes) place
past ls bytes place h = sym (get_or-eq_default (parts_of ls bytes) [] (subst (λ (n : ℕ). n ≤ place) (sym (count-parts ls bytes)) h))
