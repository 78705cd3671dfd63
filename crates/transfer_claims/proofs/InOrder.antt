-- The frames may arrive once each and in order: each is the one then expected.
-- Assumes nothing.
use mathlib.Core.Path.{◌≡◌, sym, ap, ap₂, ◌∙◌}
use mathlib.Core.Bool.{Bool, ◌||◌}
use mathlib.Core.List.{List}
use Prim.Native.Nat.{ℕ, zero, suc, ◌+◌, ◌≤◌, ◌<◌}
use native.Mathlib.Nat.{add-zero}
use native.Mathlib.Decide.{dec_lt}
use native.Mathlib.Omega.{arith}
use lib.Dec.{ltb, eqb}
use lib.ListN.{length}
use borrow.Author.Tests.{lt-ltb, le-ltb, eq-eqb, ne_eqb}
use Rattle.frame_form.specs.declared.Form.{Form}
use Rattle.resequencer.specs.declared.Resequencer.{Resequencer}
use Rattle.resequencer.specs.State.{fresh_state}
use Rattle.resequencer_claims.specs.Events.{packet, nothing, more, arrived_after}
use Rattle.resequencer_claims.specs.Demand3.{Lowest}
use Rattle.resequencer_claims.proofs.Order.{never}
use Rattle.transfer_claims.specs.Circuit.{frame_answer}
use Rattle.transfer_claims.specs.Claims.{FramesAllowed, FramesAllowedList, Complete, one_by_one}

-- after the frames at the places below n, and no other, the frame at place n may arrive
next_fits : (has : ℕ → Bool) (n : ℕ) → ((i : ℕ) → has i ≡ ltb i n) → (expected : ℕ) → Lowest has expected → (expected ≤ n + 32) × (n ≤ expected + 31)
next_fits has n all expected low = (over-it (dec_lt n expected), under-it (dec_lt expected n))
  where
    over-it : Dec (n < expected) → expected ≤ n + 32
    over-it (no l) = omega arith
    over-it (yes l) = never (sym (low.below n l) ∙ all n ∙ le-ltb n n (omega arith))

    under-it : Dec (expected < n) → n ≤ expected + 31
    under-it (no l) = omega arith
    under-it (yes l) = never (sym (lt-ltb expected n l) ∙ sym (all expected) ∙ low.missing)

-- and then those up to place n have arrived
one_more : (has : ℕ → Bool) (n : ℕ) → ((i : ℕ) → has i ≡ ltb i n) → (i : ℕ) → more has (packet n) i ≡ ltb i (suc n)
unfolding more
one_more has n all i = ap (λ (b : Bool). b || eqb n i) (all i) ∙ below_suc (dec_lt i n) (dec_lt n i)
  where
    below_suc : Dec (i < n) → Dec (n < i) → (ltb i n || eqb n i) ≡ ltb i (suc n)
    below_suc (yes l) d = ap (λ (b : Bool). b || eqb n i) (lt-ltb i n l) ∙ sym (lt-ltb i (suc n) (omega arith))
    below_suc (no l) (yes g) = ap₂ ◌||◌ (le-ltb i n (omega arith)) (ne_eqb n i (λ q. omega arith)) ∙ sym (le-ltb i (suc n) (omega arith))
    below_suc (no l) (no g) = ap₂ ◌||◌ (le-ltb i n (omega arith)) (eq-eqb n i (omega arith)) ∙ sym (lt-ltb i (suc n) (omega arith))

in-order-allowed : (form : Form) (frames : List (List ℕ)) (s : Resequencer) (has : ℕ → Bool) (n m : ℕ) → ((i : ℕ) → has i ≡ ltb i n) → n + m ≤ length frames
    → FramesAllowed form frames s has (one_by_one n m)
unfolding FramesAllowed one_by_one
in-order-allowed form frames s has n zero all h = tt
in-order-allowed form frames s has n (suc m) all h =
    ((omega arith, next_fits has n all), in-order-allowed form frames (frame_answer form frames s (packet n)).next (more has (packet n)) (suc n) m (one_more has n all) (omega arith))

in-order-arrived : (has : ℕ → Bool) (n m : ℕ) → ((i : ℕ) → has i ≡ ltb i n) → (i : ℕ) → arrived_after has (one_by_one n m) i ≡ ltb i (n + m)
unfolding arrived_after one_by_one
in-order-arrived has n zero all i = all i ∙ ap (ltb i) (sym (add-zero n))
in-order-arrived has n (suc m) all i =
    let e : suc n + m ≡ n + suc m = omega arith in
    in-order-arrived (more has (packet n)) (suc n) m (one_more has n all) i ∙ ap (ltb i) e

pub possible : (form : Form) (frames : List (List ℕ)) → FramesAllowedList form frames (one_by_one 0 (length frames)) × Complete frames (one_by_one 0 (length frames))
possible form frames =
    let none : (i : ℕ) → nothing i ≡ ltb i 0 = λ i. sym (le-ltb i 0 (omega arith)) in (
      in-order-allowed form frames fresh_state nothing 0 (length frames) none (omega arith),
      λ n h. in-order-arrived nothing 0 (length frames) none n ∙ lt-ltb n (0 + length frames) (omega arith),
    )
