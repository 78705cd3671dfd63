-- The first fault after a packet: the zero bytes counted from the packet's end on are 0, and the
-- next one is not.
-- Assumes nothing.
use mathlib.Core.Path.{◌≡◌, refl, sym, ap, ◌∙◌}
use mathlib.Core.Bool.{Bool, true, false, cond}
use mathlib.Core.List.{List, [], ◌∷◌}
use Prim.Native.Nat.{ℕ, zero, suc, ◌+◌, ◌-◌, ◌<◌, ◌≤◌, min}
use native.Mathlib.Omega.{arith}
use lib.Dec.{eqb}
use lib.ListN.{length, drop, get_or, length-drop}
use lib.Seq.{get_or-drop}
use borrow.Author.Tests.{eqb-true, eqb-false}
use Rattle.frame_form.specs.Segments.{frame_length}
use Rattle.frame_reader.specs.Faults.{zeros_first, tail_fault}

-- the bytes that are counted are 0, and the next one is not
counted-zero : (s : List ℕ) (j : ℕ) → j < zeros_first s → get_or s j 0 ≡ 0
counted-zero [] j h = refl
counted-zero (b ∷ bs) j h = go (λ i l. counted-zero bs i l) (eqb b 0) refl j h
  where
    go : ((i : ℕ) → i < zeros_first bs → get_or bs i 0 ≡ 0) → (t : Bool) → eqb b 0 ≡ t → (i : ℕ) → i < cond t (suc (zeros_first bs)) 0 → get_or (b ∷ bs) i 0 ≡ 0
    go rest true e zero l = eqb-true b 0 e
    go rest true e (suc i) l = rest i (omega arith)
    go rest false e i l = absurd (omega arith)

next-not : (s : List ℕ) → zeros_first s < length s → get_or s (zeros_first s) 0 ≡ 0 → ⊥
next-not [] h z = omega arith
next-not (b ∷ bs) h z = go (λ l y. next-not bs l y) (eqb b 0) refl h z
  where
    go : (zeros_first bs < length bs → get_or bs (zeros_first bs) 0 ≡ 0 → ⊥) → (t : Bool) → eqb b 0 ≡ t
        → cond t (suc (zeros_first bs)) 0 < suc (length bs) → get_or (b ∷ bs) (cond t (suc (zeros_first bs)) 0) 0 ≡ 0 → ⊥
    go rest true e l y = rest (omega arith) y
    go rest false e l y = eqb-false b 0 e y

-- ---- after a packet of n bytes, in segments of seg bytes

module _ (seg n : ℕ) (frame : List ℕ) where
  tail-is : tail_fault seg n frame ≡ min (frame_length seg n) (n + zeros_first (drop n frame))
  unfolding tail_fault
  tail-is = refl

  -- the fault is not past the packet's segments
  pub tail_within : tail_fault seg n frame ≤ frame_length seg n
  tail_within = omega (arith, tail-is)

  -- a byte after the packet that is not 0 is not before the fault
  pub tail-least : (i : ℕ) → n ≤ i → (get_or frame i 0 ≡ 0 → ⊥) → tail_fault seg n frame ≤ i
  tail-least i from nonzero =
      let place : n + (i - n) ≡ i = omega arith in
      let zero-there : i - n < zeros_first (drop n frame) → ⊥ =
      λ h. nonzero (ap (λ (x : ℕ). get_or frame x 0) (sym place) ∙ sym (get_or-drop n frame (i - n) 0) ∙ counted-zero (drop n frame) (i - n) h) in
      omega (arith, tail-is, zero-there)

  -- a fault in the packet's segments, and so in the frame, is after the packet and not 0
  pub tail-nonzero : tail_fault seg n frame < frame_length seg n → tail_fault seg n frame < length frame
      → (n ≤ tail_fault seg n frame) × (get_or frame (tail_fault seg n frame) 0 ≡ 0 → ⊥)
  tail-nonzero below inside =
      let at : tail_fault seg n frame ≡ n + zeros_first (drop n frame) = omega (arith, tail-is) in
      let some : zeros_first (drop n frame) < length (drop n frame) = omega (arith, at, length-drop n frame) in
      (omega (arith, at), λ z. next-not (drop n frame) some (get_or-drop n frame (zeros_first (drop n frame)) 0 ∙ ap (λ (x : ℕ). get_or frame x 0) (sym at) ∙ z))
