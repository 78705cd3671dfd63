-- The calls on a circuit are the calls of demand 3, where each true number is its own ticket: so
-- what is handed on is the frames in their order, up to the lowest that has not arrived.
-- Assumes nothing.
use mathlib.Core.Path.{◌≡◌, refl, sym, ap, ◌∙◌, subst}
use mathlib.Core.Bool.{Bool, true, false, ◌||◌}
use mathlib.Core.List.{List, [], ◌∷◌, ◌++◌, map}
use Prim.Native.Nat.{ℕ, zero, suc, ◌+◌, ◌%◌, ◌≤◌, ◌<◌}
use native.Mathlib.Decide.{dec_lt}
use native.Mathlib.Omega.{arith}
use borrow.Author.Tests.{eqb-true}
use lib.ListN.{length, take, drop}
use lib.Seq.{drop-cons}
use Rattle.frame_form.specs.declared.Form.{Form}
use Rattle.resequencer.specs.declared.Resequencer.{Resequencer}
use Rattle.resequencer.specs.declared.Answer.{Answer}
use Rattle.resequencer.specs.State.{fresh_state, in_order}
use Rattle.resequencer.specs.Events.{handed, arrive_of}
use Rattle.resequencer_claims.specs.Events.{Event, packet, stray, clock_end, call_of, answer as answer_by_number, handed_on, brings, nothing, more, arrived_after, arrived}
use Rattle.resequencer_claims.specs.Demand3.{Lowest, AllowedCall as AllowedCallByNumber, Allowed as AllowedByNumber, tickets_from}
use Rattle.resequencer_claims.specs.Rising.{own_number}
use Rattle.resequencer_claims.specs.Calls.{Call, answer_to, after_calls, state_after}
use Rattle.resequencer_claims.proofs.Order.{never}
use Rattle.resequencer_claims.proofs.Answers.{arrive-refuses}
use Rattle.resequencer_claims.proofs.Demand3.{demand3}
use Rattle.resequencer_claims.proofs.Wanted.{wanted}
use Rattle.transfer_claims.specs.Circuit.{frame_at, frame_answer, places_handed_on, frames_handed_on}
use Rattle.transfer_claims.specs.Claims.{AllowedEvent, FramesAllowed, FramesAllowedList, Complete}
use Rattle.transfer_claims.proofs.Sending.{Numbered, number_at}

-- ---- every state on the way is in good order

after_last : (s : Resequencer) (cs : List Call) (c : Call) → after_calls s (cs ++ (c ∷ [])) ≡ (answer_to (after_calls s cs) c).next
unfolding after_calls
after_last s [] c = refl
after_last s (d ∷ cs) c = after_last (answer_to s d).next cs c

-- a state that calls from a fresh one lead to
abbrev Reached : Resequencer → Type 0
Reached s = (cs : List Call) × (state_after cs ≡ s)

reached-next : (s : Resequencer) (e : Event) → Reached s → Reached (answer_by_number own_number s e).next
reached-next s e r = (
  r.0 ++ (call_of own_number e ∷ []),
  after_last fresh_state r.0 (call_of own_number e) ∙ ap (λ (x : Resequencer). (answer_to x (call_of own_number e)).next) r.1,
)

reached-good : (s : Resequencer) → Reached s → in_order s ≡ true
reached-good s r = subst (λ (x : Resequencer). in_order x ≡ true) r.1 (wanted r.0).in_order

-- ---- call by call

module _ (form : Form) (frames : List (List ℕ)) (numbered : Numbered form 0 frames) where
  pub same_answer : (s : Resequencer) (has : ℕ → Bool) (e : Event) → AllowedEvent frames s has e → frame_answer form frames s e ≡ answer_by_number own_number s e
  same_answer s has (packet n) ok =
      let z : 0 + n ≡ n = omega arith in
      ap (λ (sn : ℕ). arrive_of s sn n) (number_at form 0 frames n numbered ok.0 ∙ ap (λ (x : ℕ). x % 64) z)
  same_answer s has (stray sn ticket) ok = refl
  same_answer s has (clock_end sn) ok = refl

  -- a list that is allowed here is one of demand 3, and hands on the same
  by_number : (s : Resequencer) (has : ℕ → Bool) (es : List Event) → Reached s → FramesAllowed form frames s has es
      → AllowedByNumber own_number s has es × (places_handed_on form frames s es ≡ handed_on own_number s es)
  unfolding FramesAllowed AllowedByNumber places_handed_on handed_on
  by_number s has [] r ok = (tt, refl)
  by_number s has (e ∷ es) r ok =
      let q = same_answer s has e ok.0 in
      let ih = by_number (answer_by_number own_number s e).next (more has e) es (reached-next s e r) (subst (λ (a : Answer). FramesAllowed form frames a.next (more has e) es) q ok.1) in (
        (fits e ok.0, ih.0),
        ap (λ (a : Answer). handed a ++ places_handed_on form frames a.next es) q ∙ ap (λ (l : List ℕ). handed (answer_by_number own_number s e) ++ l) ih.1,
      )
    where
      fits : (x : Event) → AllowedEvent frames s has x → AllowedCallByNumber s has x
      fits (packet n) h = h.1
      fits (stray sn ticket) h = arrive-refuses s sn ticket (reached-good s r) h.0 h.1
      fits (clock_end sn) h = h

  -- only frames arrive
  only-frames : (s : Resequencer) (has : ℕ → Bool) (es : List Event) → ((n : ℕ) → has n ≡ true → n < length frames) → FramesAllowed form frames s has es
      → (n : ℕ) → arrived_after has es n ≡ true → n < length frames
  unfolding FramesAllowed arrived_after more
  only-frames s has [] known ok n h = known n h
  only-frames s has (e ∷ es) known ok n h = only-frames (frame_answer form frames s e).next (more has e) es (λ i q. either e ok.0 i (has i) refl q) ok.1 n h
    where
      either : (x : Event) → AllowedEvent frames s has x → (n : ℕ) (b : Bool) → has n ≡ b → (b || brings x n) ≡ true → n < length frames
      either x fit n true h q = known n h
      either (packet m) fit n false h q = subst (λ (x : ℕ). x < length frames) (eqb-true m n q) fit.0
      either (stray sn ticket) fit n false h q = never (sym q)
      either (clock_end sn) fit n false h q = never (sym q)

-- ---- tickets that count up are the frames from there on

frames-from : (frames : List (List ℕ)) (n m : ℕ) → n + m ≤ length frames → map (frame_at frames) (tickets_from own_number n m) ≡ take m (drop n frames)
unfolding tickets_from
frames-from frames n zero h = refl
frames-from frames n (suc m) h =
    ap (λ (l : List (List ℕ)). frame_at frames n ∷ l) (frames-from frames (suc n) m (omega arith))
    ∙ sym (ap (take (suc m)) (drop-cons frames n [] (omega arith)))

-- ---- the whole list

-- what is handed on is the first frames, all where all have arrived
pub handed-frames : (form : Form) (frames : List (List ℕ)) → Numbered form 0 frames → (es : List Event) → FramesAllowedList form frames es
    → (lowest : ℕ) × (frames_handed_on form frames es ≡ take lowest frames) × (Complete frames es → length frames ≤ lowest)
handed-frames form frames numbered es ok =
    let d = by_number form frames numbered fresh_state nothing es ([], unfold after_calls in refl) ok in
    let r = (demand3 own_number).in_order es d.0 in
    let most : r.0 ≤ length frames = at_most (dec_lt (length frames) r.0) r.1 in (
      r.0,
      ap (map (frame_at frames)) (d.1 ∙ r.2) ∙ frames-from frames 0 r.0 (omega (arith, most)),
      λ all. at_least all (dec_lt r.0 (length frames)) r.1,
    )
  where
    at_most : {L : ℕ} → Dec (length frames < L) → Lowest (arrived es) L → L ≤ length frames
    at_most (no l) low = omega arith
    at_most (yes l) low =
        let x = only-frames form frames numbered fresh_state nothing es (λ n h. never (sym h)) ok (length frames) (low.below (length frames) l) in
        absurd (omega (arith, x))

    at_least : {L : ℕ} → Complete frames es → Dec (L < length frames) → Lowest (arrived es) L → length frames ≤ L
    at_least all (no l) low = omega arith
    at_least {L} all (yes l) low = never (sym (all L l) ∙ low.missing)
