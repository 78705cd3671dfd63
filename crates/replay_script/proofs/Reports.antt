-- Writing the report of a line: the result, and the whole line.
-- Assumes nothing.
use mathlib.Core.Path.{◌≡◌, refl, sym, ap, ◌∙◌}
use mathlib.Core.List.{List, [], ◌∷◌}
use Prim.Native.Nat.{ℕ, ◌+◌, ◌≤◌, ◌<◌}
use native.Mathlib.Omega.{arith}
use lib.ListN.{length, take}
use lib.Seq.{length-take-le}
use Rattle.refusal.specs.declared.Refusal.{Refusal}
use Rattle.refusal.specs.Numbers.{number_of}
use Rattle.wordset.specs.Sets.{count}
use Rattle.resequencer.specs.declared.Answer.{Answer}
use Rattle.text.specs.Decimal.{decimal, spaced}
use Rattle.text.specs.Writing.{Wrote, Puts}
use Rattle.text.proofs.Writing.{then, meant, room_after, put_then}
use Rattle.replay_script.specs.Text.{all_spaced}
use Rattle.resequencer.specs.Events.{handed}
use Rattle.replay_script.specs.Lines.{tickets_text, result_text, answer_text}
use Rattle.replay_script.specs.Writing.{least}
use Rattle.replay_script.proofs.Writing.{take-least}
use Rattle.resequencer.specs.declared.Outcome.{Outcome}
use Rattle.resequencer.specs.declared.Outcome.TheVariants.{Held, HandedOn, Old, Duplicate}
use Rattle.std.specs.Prelude.{Result, Ok, Err}

-- ---- the tickets handed on, or a dash

pub dash-is : (count : ℕ) (ts : List ℕ) → count ≡ 0 → 32 ∷ 45 ∷ [] ≡ tickets_text (take count ts)
unfolding tickets_text
dash-is count ts e = rw e

some-are : (ts : List ℕ) → 0 < length ts → all_spaced ts ≡ tickets_text ts
unfolding tickets_text
some-are [] h = absurd (omega arith)
some-are (t ∷ ts) h = refl

pub tickets-are : (count : ℕ) (ts : List ℕ) → (count ≡ 0 → ⊥) → count ≤ length ts → all_spaced (take count ts) ≡ tickets_text (take count ts)
tickets-are count ts n h =
    let e : length (take count ts) ≡ count = length-take-le count ts h in
    let p : 0 < length (take count ts) = omega arith in
    some-are (take count ts) p

-- ---- the result

module _ {o o' : List ℕ} {from r : ℕ} {outcome : Result Outcome Refusal} (ts : List ℕ) where
  pub held-written : outcome ≡ Ok Held → from + 192 ≤ length o → Puts o o' from r 2 (32 ∷ 45 ∷ []) → Wrote o o' from r 192 (result_text outcome ts)
  unfolding result_text
  held-written e room w = meant (w.written (omega arith)) (sym (ap (λ x. result_text x ts) e)) (omega arith)

  pub handed-written : outcome ≡ Ok HandedOn → Wrote o o' from r 192 (tickets_text ts) → Wrote o o' from r 192 (result_text outcome ts)
  unfolding result_text
  handed-written e w = meant w (sym (ap (λ x. result_text x ts) e)) (omega arith)

  pub old-written : outcome ≡ Ok Old → from + 192 ≤ length o → Puts o o' from r 4 (32 ∷ 111 ∷ 108 ∷ 100 ∷ []) → Wrote o o' from r 192 (result_text outcome ts)
  unfolding result_text
  old-written e room w = meant (w.written (omega arith)) (sym (ap (λ x. result_text x ts) e)) (omega arith)

  pub dup-written : outcome ≡ Ok Duplicate → from + 192 ≤ length o → Puts o o' from r 4 (32 ∷ 100 ∷ 117 ∷ 112 ∷ []) → Wrote o o' from r 192 (result_text outcome ts)
  unfolding result_text
  dup-written e room w = meant (w.written (omega arith)) (sym (ap (λ x. result_text x ts) e)) (omega arith)

  pub refused-written : (why : Refusal) → outcome ≡ Err why → Wrote o o' from r 192 (32 ∷ 114 ∷ 101 ∷ 102 ∷ 117 ∷ 115 ∷ 101 ∷ 100 ∷ spaced (number_of why))
      → Wrote o o' from r 192 (result_text outcome ts)
  unfolding result_text
  refused-written why e w = meant w (sym (ap (λ x. result_text x ts) e)) (omega arith)

-- `refused` and its number
pub number-refused : {o o₁ o₂ : List ℕ} {from r₁ r₂ : ℕ} {n : ℕ} (why : Refusal) → n ≡ number_of why → from + 192 ≤ length o
    → Puts o o₁ from r₁ 8 (32 ∷ 114 ∷ 101 ∷ 102 ∷ 117 ∷ 115 ∷ 101 ∷ 100 ∷ []) → Puts o₁ o₂ r₁ r₂ 6 (spaced n)
    → Wrote o o₂ from r₂ 192 (32 ∷ 114 ∷ 101 ∷ 102 ∷ 117 ∷ 115 ∷ 101 ∷ 100 ∷ spaced (number_of why))
number-refused why e room a b =
    meant (put_then (a.written (omega arith)) b (omega arith)) (ap (λ k. 32 ∷ 114 ∷ 101 ∷ 102 ∷ 117 ∷ 115 ∷ 101 ∷ 100 ∷ spaced k) e) (omega arith)

-- ---- the line

module _ (a : Answer) (h c : ℕ) {o o₁ o₂ o₃ : List ℕ} {from r₁ r₂ r₃ : ℕ} (room : from + 210 ≤ length o)
    (pn : Puts o o₁ from r₁ 5 (decimal a.next.nesn.0)) (ph : Puts o₁ o₂ r₁ r₂ 6 (spaced h)) (pc : Puts o₂ o₃ r₂ r₃ 6 (spaced c)) where
  -- the three numbers, each in the room that those before it leave
  nesn-written : Wrote o o₁ from r₁ 5 (decimal a.next.nesn.0)
  nesn-written = pn.written (omega arith)

  held-count : Wrote o₁ o₂ r₁ r₂ 6 (spaced h)
  held-count = ph.written (room_after 6 nesn-written (omega arith))

  clocks-count : Wrote o₂ o₃ r₂ r₃ 6 (spaced c)
  clocks-count = pc.written (room_after 6 (then nesn-written held-count) (omega arith))

  -- and the room that they leave for the result and the line end
  rest-room : r₃ + 193 ≤ length o₃
  rest-room = room_after 193 (then nesn-written (then held-count clocks-count)) (omega arith)

  pub answer-written : {o₄ o₅ : List ℕ} {r₄ r₅ k : ℕ} → length a.tickets ≡ 32
      → h ≡ count 64 a.next.held → c ≡ count 64 a.next.clocks → k ≡ least a.count 32
      → Wrote o₃ o₄ r₃ r₄ 192 (result_text a.outcome (take k a.tickets)) → Puts o₄ o₅ r₄ r₅ 1 (10 ∷ []) → Wrote o o₅ from r₅ 210 (answer_text a)
  unfolding answer_text handed
  answer-written {o₄} {o₅} {r₄} {r₅} l eh ec ek wr pe =
      let vh : Wrote o₁ o₂ r₁ r₂ 6 (spaced (count 64 a.next.held)) = meant held-count (ap spaced eh) (omega arith) in
      let vc : Wrote o₂ o₃ r₂ r₃ 6 (spaced (count 64 a.next.clocks)) = meant clocks-count (ap spaced ec) (omega arith) in
      let vr : Wrote o₃ o₄ r₃ r₄ 192 (result_text a.outcome (take a.count a.tickets)) =
      meant wr (ap (result_text a.outcome) (ap (λ n. take n a.tickets) ek ∙ take-least a.count 32 a.tickets l)) (omega arith) in
      then nesn-written (then vh (then vc (put_then vr pe rest-room)))
