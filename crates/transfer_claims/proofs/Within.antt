-- The rule, block by block: while the eight frames from `first` on arrive, all before them have
-- arrived and none after them, so the one expected is among them or the next; and the clock that
-- ends is that of a number that was passed.
-- Assumes nothing.
use mathlib.Core.Path.{◌≡◌, refl, sym, ap, ap₂, ◌∙◌, subst}
use mathlib.Core.Bool.{Bool, true, false, cond, ◌||◌}
use mathlib.Core.Logic.{inl, inr}
use mathlib.Core.List.{List, [], ◌∷◌}
use Prim.Native.Nat.{ℕ, zero, suc, ◌+◌, ◌-◌, ◌*◌, ◌/◌, ◌%◌, ◌≤◌, ◌<◌}
use native.Mathlib.Nat.{mod-lt}
use native.Mathlib.Decide.{dec_lt}
use native.Mathlib.Omega.{arith}
use lib.Dec.{ltb, eqb, lit<}
use lib.ListN.{length, get_or}
use borrow.Author.Tests.{eqb-true, ltb-true, ltb-false, eq-eqb}
use Rattle.refusal.specs.declared.Refusal.TheVariants.{OutOfRange}
use Rattle.frame_form.specs.declared.Form.{Form}
use Rattle.message.specs.Cutting.{frames_of}
use Rattle.resequencer.specs.declared.Resequencer.{Resequencer}
use Rattle.resequencer.specs.declared.Answer.{Answer}
use Rattle.resequencer.specs.State.{fresh_state, has_clock, ahead, number_at}
use Rattle.resequencer.specs.Events.{plain}
use Rattle.resequencer.proofs.Order.{number-ahead}
use Rattle.resequencer_claims.specs.Events.{Event, packet, stray, clock_end, brings, nothing, more, arrived_after}
use Rattle.resequencer_claims.specs.Rising.{own_number, FirstMissing}
use Rattle.resequencer_claims.proofs.Places.{clock_at, ahead-lt}
use Rattle.resequencer_claims.proofs.Order.{good-order, never}
use Rattle.resequencer_claims.proofs.Standing.{Stands, expected}
use Rattle.resequencer_claims.proofs.Answers.{arrive-stray, ClockCases, clock-cases, clock-refused-says}
use Rattle.resequencer_claims.proofs.Steps.{Steps, stray-steps, refused-steps, still-missing, packet-steps, fresh-stands}
use Rattle.resequencer_claims.proofs.Demand3.{more-keeps}
use Rattle.transfer_claims.specs.Circuit.{frame_answer}
use Rattle.transfer_claims.specs.Claims.{AllowedEvent, FramesAllowed}
use Rattle.transfer_claims.proofs.Sending.{Numbered, numbered-one}
use Rattle.transfer_claims.proofs.Arriving.{same_answer}
use Rattle.transfer_claims.proofs.Claims.{transfer}
use Rattle.transfer_claims.specs.Rule.{demo_form, turns, call_at, takes_place, calls_from, all_calls}
use Rattle.transfer_claims.specs.Within.{WithinClaim}

-- past the first three of eight, no number up to the last of them has the SN of the third
over-three : (first E : ℕ) → first ≤ E → (E ≡ first → ⊥) → (E ≡ first + 1 → ⊥) → (E ≡ first + 2 → ⊥) → (d : ℕ) → 1 ≤ d → (E + d) % 64 ≡ (first + 2) % 64
    → E + d < first + 8 → ⊥
over-three first E from x y z d some same to = go (dec_lt first E) (dec_lt (first + 1) E) (dec_lt (first + 2) E)
  where
    go : Dec (first < E) → Dec (first + 1 < E) → Dec (first + 2 < E) → ⊥
    go (no g) v w = x (omega arith)
    go (yes g) (no v) w = y (omega arith)
    go (yes g) (yes v) (no w) = z (omega arith)
    go (yes g) (yes v) (yes w) = omega (arith, same)

-- what a step adds to the list
at_turn : (count step m : ℕ) (h : Event) → call_at step ≡ h
    → calls_from count step (suc m) ≡ cond (takes_place count h) (h ∷ calls_from count (suc step) m) (calls_from count (suc step) m)
unfolding calls_from
at_turn count step m h q = ap (λ (x : Event). cond (takes_place count x) (x ∷ calls_from count (suc step) m) (calls_from count (suc step) m)) q

-- a step among the twelve of its block
turn_at : (b j step : ℕ) → step ≡ b * 12 + j → j < 12 → call_at step ≡ get_or (turns (b * 8)) j (stray 64 0)
unfolding call_at
turn_at b j step e h =
    let block : step / 12 ≡ b = omega arith in
    let place : step % 12 ≡ j = omega arith in
    ap₂ (λ (x y : ℕ). get_or (turns (x * 8)) y (stray 64 0)) block place

module _ (form : Form) (frames : List (List ℕ)) (numbered : Numbered form 0 frames) where
  -- the frames at these places have arrived, where there are such frames
  unfoldable Came : (ℕ → Bool) → List ℕ → Type 0
  Came has [] = Unit {0}
  Came has (n ∷ ns) = (n < length frames → has n ≡ true) × Came has ns

  -- where the eight frames from `first` on are under way, and those of `got` have arrived
  record Along (first : ℕ) (got : List ℕ) (has : ℕ → Bool) (s : Resequencer) : Type 0 where
    pub lowest : ℕ
    pub stands : Stands own_number lowest has s
    pub below : (i : ℕ) → i < lowest → has i ≡ true
    pub early : (i : ℕ) → i < first → i < length frames → has i ≡ true
    pub late : (i : ℕ) → first + 8 ≤ i → has i ≡ false
    pub real : (i : ℕ) → has i ≡ true → i < length frames
    pub came : Came has got

  -- a list that is allowed from here, after which all frames have arrived
  abbrev Good : (ℕ → Bool) → Resequencer → List Event → Type 0
  Good has s es = FramesAllowed form frames s has es × ((n : ℕ) → n < length frames → arrived_after has es n ≡ true)

  good-cons : (has : ℕ → Bool) (s : Resequencer) (e : Event) (es : List Event) → AllowedEvent frames s has e → Good (more has e) (frame_answer form frames s e).next es → Good has s (e ∷ es)
  unfolding FramesAllowed arrived_after
  good-cons has s e es f g = ((f, g.0), g.1)

  came-more : (has : ℕ → Bool) (e : Event) (ns : List ℕ) → Came has ns → Came (more has e) ns
  unfolding Came
  came-more has e [] c = tt
  came-more has e (n ∷ ns) c = (λ h. more-keeps has e n (c.0 h), came-more has e ns c.1)

  came-one : (has : ℕ → Bool) (n : ℕ) (ns : List ℕ) → Came (more has (packet n)) ns → Came (more has (packet n)) (n ∷ ns)
  unfolding Came more
  came-one has n ns c = (λ h. brought (has n), c)
    where
      brought : (b : Bool) → (b || eqb n n) ≡ true
      brought true = refl
      brought false = eq-eqb n n refl

  came-none : (has : ℕ → Bool) (n : ℕ) (ns : List ℕ) → length frames ≤ n → Came has ns → Came has (n ∷ ns)
  unfolding Came
  came-none has n ns none c = (λ there. absurd (omega arith), c)

  -- ---- one call

  module _ {first : ℕ} {got : List ℕ} {has : ℕ → Bool} {s : Resequencer} (a : Along first got has s) where
    -- a frame of the eight is near whatever number is expected
    near : (n : ℕ) → first ≤ n → n < first + 8 → n < length frames → (x : ℕ) → ((i : ℕ) → i < x → has i ≡ true) → has x ≡ false → (x ≤ n + 32) × (n ≤ x + 31)
    near n l h there x under missing = (not-over (dec_lt (first + 8) x), not-under (dec_lt x first))
      where
        not-over : Dec (first + 8 < x) → x ≤ n + 32
        not-over (no g) = omega arith
        not-over (yes g) = never (sym (under (first + 8) g) ∙ a.late (first + 8) (omega arith))

        not-under : Dec (x < first) → n ≤ x + 31
        not-under (no g) = omega arith
        not-under (yes g) = never (sym (a.early x g (omega arith)) ∙ missing)

    -- the state after a call that brings nothing past the eight
    along-next : (e : Event) (ns : List ℕ) → AllowedEvent frames s has e → (w : Steps own_number a.lowest has s e) → FirstMissing (more has e) a.lowest w.next
        → ((i : ℕ) → brings e i ≡ true → (i < first + 8) × (i < length frames)) → Came (more has e) ns → Along first ns (more has e) (frame_answer form frames s e).next
    along-next e ns f w m some c = record {
      lowest = w.next;
      stands = subst (λ (x : Answer). Stands own_number w.next (more has e) x.next) (sym (same_answer form frames numbered s has e f)) w.stands;
      below = λ i h. under i h (dec_lt i a.lowest);
      early = λ i h there. more-keeps has e i (a.early i h there);
      late = λ i h. unfold more in ap₂ ◌||◌ (a.late i h) (not-brought i h (brings e i) refl);
      real = λ i h. unfold more in either i (has i) refl h;
      came = c;
    }
      where
        under : (i : ℕ) → i < w.next → Dec (i < a.lowest) → more has e i ≡ true
        under i h (yes g) = more-keeps has e i (a.below i g)
        under i h (no g) = m.between i (omega arith) h

        not-brought : (i : ℕ) → first + 8 ≤ i → (b : Bool) → brings e i ≡ b → b ≡ false
        not-brought i h true q = absurd (omega (arith, (some i q).0))
        not-brought i h false q = refl

        either : (i : ℕ) (b : Bool) → has i ≡ b → (b || brings e i) ≡ true → i < length frames
        either i true q h = a.real i q
        either i false q h = (some i h).1

    -- a frame of the eight arrives, or there is no such frame
    frame_then : (step m n : ℕ) → call_at step ≡ packet n → first ≤ n → n < first + 8
        → ((has2 : ℕ → Bool) (s2 : Resequencer) → Along first (n ∷ got) has2 s2 → Good has2 s2 (calls_from (length frames) (suc step) m))
        → Good has s (calls_from (length frames) step (suc m))
    frame_then step m n turn l h then = subst (Good has s) (sym (at_turn (length frames) step m (packet n) turn)) (go (ltb n (length frames)) refl)
      where
        es : List Event
        es = calls_from (length frames) (suc step) m

        brought : n < length frames → (i : ℕ) → eqb n i ≡ true → (i < first + 8) × (i < length frames)
        brought there i q = let e = eqb-true n i q in (omega arith, omega arith)

        go : (b : Bool) → ltb n (length frames) ≡ b → Good has s (cond b (packet n ∷ es) es)
        go true q =
            let there = ltb-true n (length frames) q in
            let f : AllowedEvent frames s has (packet n) = (there, λ x low. near n l h there x low.below low.missing) in
            let b = near n l h there a.lowest a.below a.stands.missing in
            let w = packet-steps a.stands n b.0 b.1 in
            good-cons has s (packet n) es f
            (then (more has (packet n)) (frame_answer form frames s (packet n)).next
            (along-next (packet n) (n ∷ got) f w.0 w.1 (brought there) (came-one has n got (came-more has (packet n) got a.came))))
        go false q =
            let none : length frames ≤ n = ltb-false n (length frames) q in
            then has s (record {
              lowest = a.lowest;
              stands = a.stands;
              below = a.below;
              early = a.early;
              late = a.late;
              real = a.real;
              came = came-none has n got none a.came;
            })

    -- something arrives whose SN exceeds its field
    stray-then : (step m : ℕ) → call_at step ≡ stray 64 0
        → ((has2 : ℕ → Bool) (s2 : Resequencer) → Along first got has2 s2 → Good has2 s2 (calls_from (length frames) (suc step) m))
        → Good has s (calls_from (length frames) step (suc m))
    stray-then step m turn then =
        let es = calls_from (length frames) (suc step) m in
        let q = arrive-stray s 64 0 (good-order s a.stands.order) (omega arith) in
        let f : AllowedEvent frames s has (stray 64 0) = (OutOfRange, ap (λ (x : Answer). x.outcome) q ∙ (unfold plain in refl)) in
        let w = stray-steps a.stands 64 0 (omega arith) in
        subst (Good has s) (sym (at_turn (length frames) step m (stray 64 0) turn))
        (good-cons has s (stray 64 0) es f
        (then (more has (stray 64 0)) (frame_answer form frames s (stray 64 0)).next
        (along-next (stray 64 0) got f w.0 (still-missing a.stands (stray 64 0) w.0 w.1) (λ i h. never (sym h)) (came-more has (stray 64 0) got a.came))))

    -- the number expected is neither before the eight nor one of them that has arrived
    not-arrived : (n : ℕ) → (n < length frames → has n ≡ true) → n < length frames → a.lowest ≡ n → ⊥
    not-arrived n c there q = never (sym (c there) ∙ ap has (sym q) ∙ a.stands.missing)

    -- no clock runs for the third of the eight, once the first three have arrived
    no-clock : first < length frames → Came has (first ∷ (first + 1) ∷ (first + 2) ∷ []) → has_clock s ((first + 2) % 64) ≡ true → ⊥
    unfolding Came
    no-clock some c on =
        let n = (first + 2) % 64 in
        let E = a.lowest in
        let d = ahead s n in
        let small : n < 64 = mod-lt (first + 2) (lit< tt) in
        let at : number_at s d ≡ n = number-ahead s n small in
        let d_small : d < 64 = ahead-lt s n in
        let clock : clock_at s d ≡ true = ap (has_clock s) at ∙ on in
        let held = a.stands.order.on-held d d_small clock in
        let inside = a.stands.order.window d d_small held in
        let arrived : has (E + d) ≡ true = sym (a.stands.held-is d inside.1) ∙ held in
        let there = a.real (E + d) arrived in
        let same : (E + d) % 64 ≡ (first + 2) % 64 = sym (expected a.stands d) ∙ at in
        let from : first ≤ E = not-before (dec_lt E first) in
        let to : E + d < first + 8 = not_after (dec_lt (E + d) (first + 8)) arrived in
        past E from (dec_lt (first + 2) (length frames)) d inside there same to refl
      where
        not-before : Dec (a.lowest < first) → first ≤ a.lowest
        not-before (no g) = omega arith
        not-before (yes g) = never (sym (a.early a.lowest g (omega arith)) ∙ a.stands.missing)

        not_after : {x : ℕ} → Dec (x < first + 8) → has x ≡ true → x < first + 8
        not_after (yes g) h = g
        not_after {x} (no g) h = never (sym h ∙ a.late x (omega arith))

        past : (E : ℕ) → first ≤ E → Dec (first + 2 < length frames) → (d : ℕ) → (1 ≤ d) × (d ≤ 31) → E + d < length frames → (E + d) % 64 ≡ (first + 2) % 64
            → E + d < first + 8 → a.lowest ≡ E → ⊥
        past E from (no g) d inside there same to q = omega (arith, inside.0, same)
        past E from (yes g) d inside there same to q =
            over-three first E from
            (λ e. not-arrived first c.0 (omega arith) (q ∙ e))
            (λ e. not-arrived (first + 1) c.1.0 (omega arith) (q ∙ e))
            (λ e. not-arrived (first + 2) c.1.1.0 (omega arith) (q ∙ e))
            d inside.0 same to

    -- the clock of the third, which has been passed, ends
    clock-then : (step m : ℕ) → call_at step ≡ clock_end ((first + 2) % 64) → first < length frames → Came has (first ∷ (first + 1) ∷ (first + 2) ∷ [])
        → ((has2 : ℕ → Bool) (s2 : Resequencer) → Along first got has2 s2 → Good has2 s2 (calls_from (length frames) (suc step) m))
        → Good has s (calls_from (length frames) step (suc m))
    clock-then step m turn some c then =
        subst (Good has s) (sym (at_turn (length frames) step m (clock_end ((first + 2) % 64)) turn)) (go (clock-cases s ((first + 2) % 64)))
      where
        go : ClockCases s ((first + 2) % 64) → Good has s (clock_end ((first + 2) % 64) ∷ calls_from (length frames) (suc step) m)
        go (inl w) = absurd (no-clock some c w.1)
        go (inr r) =
            let f : AllowedEvent frames s has (clock_end ((first + 2) % 64)) = (r.0, clock-refused-says s ((first + 2) % 64) r.0 r.1) in
            let e = clock_end ((first + 2) % 64) in
            let w = refused-steps a.stands ((first + 2) % 64) r.0 r.1 in
            good-cons has s e (calls_from (length frames) (suc step) m) f
            (then (more has e) (frame_answer form frames s e).next
            (along-next e got f w.0 (still-missing a.stands e w.0 w.1) (λ i h. never (sym h)) (came-more has e got a.came)))

  -- ---- block by block

  -- once all eight have arrived, the next eight are under way
  next-eight : (first : ℕ) (has : ℕ → Bool) (s : Resequencer)
      → Along first ((first + 6) ∷ first ∷ (first + 4) ∷ (first + 7) ∷ (first + 3) ∷ (first + 1) ∷ (first + 5) ∷ (first + 2) ∷ first ∷ (first + 2) ∷ []) has s
      → Along (first + 8) [] has s
  unfolding Came
  next-eight first has s a = record {
    lowest = a.lowest;
    stands = a.stands;
    below = a.below;
    early = λ i h there. before i h there (dec_lt i first);
    late = λ i h. a.late i (omega arith);
    real = a.real;
    came = tt;
  }
    where
      pick : (j : ℕ) → j < 8 → first + j < length frames → has (first + j) ≡ true
      pick zero h there = let e : first ≡ first + 0 = omega arith in ap has (sym e) ∙ a.came.1.0 (omega arith)
      pick (suc zero) h there = a.came.1.1.1.1.1.0 there
      pick (suc (suc zero)) h there = a.came.1.1.1.1.1.1.1.0 there
      pick (suc (suc (suc zero))) h there = a.came.1.1.1.1.0 there
      pick (suc (suc (suc (suc zero)))) h there = a.came.1.1.0 there
      pick (suc (suc (suc (suc (suc zero))))) h there = a.came.1.1.1.1.1.1.0 there
      pick (suc (suc (suc (suc (suc (suc zero)))))) h there = a.came.0 there
      pick (suc (suc (suc (suc (suc (suc (suc zero))))))) h there = a.came.1.1.1.0 there
      pick (suc (suc (suc (suc (suc (suc (suc (suc j)))))))) h there = absurd (omega arith)

      before : (i : ℕ) → i < first + 8 → i < length frames → Dec (i < first) → has i ≡ true
      before i h there (yes g) = a.early i g there
      before i h there (no g) =
          let e : first + (i - first) ≡ i = omega arith in
          ap has (sym e) ∙ pick (i - first) (omega arith) (omega (arith, e))

  -- the first three, among those that have arrived before the clock ends
  came-three : {first : ℕ} {has : ℕ → Bool} {s : Resequencer} → Along first ((first + 3) ∷ (first + 1) ∷ (first + 5) ∷ (first + 2) ∷ first ∷ (first + 2) ∷ []) has s
      → Came has (first ∷ (first + 1) ∷ (first + 2) ∷ [])
  unfolding Came
  came-three a = (a.came.1.1.1.1.0, (a.came.1.0, (a.came.1.1.1.0, tt)))

  -- the twelve turns of eight frames
  eight-then : (b m : ℕ) (has : ℕ → Bool) (s : Resequencer) → b * 8 < length frames → Along (b * 8) [] has s
      → ((has2 : ℕ → Bool) (s2 : Resequencer) → Along (b * 8 + 8) [] has2 s2 → Good has2 s2 (calls_from (length frames) (b * 12 + 12) m))
      → Good has s (calls_from (length frames) (b * 12) (12 + m))
  eight-then b m has s some a then =
      let first = b * 8 in
      let t0 = b * 12 in
      let t1 = suc t0 in
      let t2 = suc t1 in
      let t3 = suc t2 in
      let t4 = suc t3 in
      let t5 = suc t4 in
      let t6 = suc t5 in
      let t7 = suc t6 in
      let t8 = suc t7 in
      let t9 = suc t8 in
      let t10 = suc t9 in
      let t11 = suc t10 in
      let t12 = suc t11 in
      let m1 = suc m in
      let m2 = suc m1 in
      let m3 = suc m2 in
      let m4 = suc m3 in
      let m5 = suc m4 in
      let m6 = suc m5 in
      let m7 = suc m6 in
      let m8 = suc m7 in
      let m9 = suc m8 in
      let m10 = suc m9 in
      let m11 = suc m10 in
      let m12 = suc m11 in
      let steps : m12 ≡ 12 + m = omega arith in
      let last : t12 ≡ b * 12 + 12 = omega arith in
      subst (λ (x : ℕ). Good has s (calls_from (length frames) t0 x)) steps
      (frame_then a t0 m11 (first + 2) (turn_at b 0 t0 (omega arith) (omega arith)) (omega arith) (omega arith) (λ has1 s1 a1.
      (frame_then a1 t1 m10 first (turn_at b 1 t1 (omega arith) (omega arith)) (omega arith) (omega arith) (λ has2 s2 a2.
      (frame_then a2 t2 m9 (first + 2) (turn_at b 2 t2 (omega arith) (omega arith)) (omega arith) (omega arith) (λ has3 s3 a3.
      (frame_then a3 t3 m8 (first + 5) (turn_at b 3 t3 (omega arith) (omega arith)) (omega arith) (omega arith) (λ has4 s4 a4.
      (frame_then a4 t4 m7 (first + 1) (turn_at b 4 t4 (omega arith) (omega arith)) (omega arith) (omega arith) (λ has5 s5 a5.
      (frame_then a5 t5 m6 (first + 3) (turn_at b 5 t5 (omega arith) (omega arith)) (omega arith) (omega arith) (λ has6 s6 a6.
      (clock-then a6 t6 m5 (turn_at b 6 t6 (omega arith) (omega arith)) some (came-three a6) (λ has7 s7 a7.
      (frame_then a7 t7 m4 (first + 7) (turn_at b 7 t7 (omega arith) (omega arith)) (omega arith) (omega arith) (λ has8 s8 a8.
      (frame_then a8 t8 m3 (first + 4) (turn_at b 8 t8 (omega arith) (omega arith)) (omega arith) (omega arith) (λ has9 s9 a9.
      (frame_then a9 t9 m2 first (turn_at b 9 t9 (omega arith) (omega arith)) (omega arith) (omega arith) (λ has10 s10 a10.
      (frame_then a10 t10 m1 (first + 6) (turn_at b 10 t10 (omega arith) (omega arith)) (omega arith) (omega arith) (λ has11 s11 a11.
      (stray-then a11 t11 m (turn_at b 11 t11 (omega arith) (omega arith)) (λ has12 s12 a12.
      subst (λ (x : ℕ). Good has12 s12 (calls_from (length frames) x m)) (sym last) (then has12 s12 (next-eight first has12 s12 a12))))))))))))))))))))))))))

  -- all blocks
  blocks-good : (k b : ℕ) (has : ℕ → Bool) (s : Resequencer) → b + k ≡ (length frames + 7) / 8 → Along (b * 8) [] has s
      → Good has s (calls_from (length frames) (b * 12) (k * 12))
  unfolding FramesAllowed arrived_after calls_from
  blocks-good zero b has s e a = (tt, λ n h. a.early n (omega arith) h)
  blocks-good (suc k) b has s e a =
      let more_of : 12 + k * 12 ≡ suc k * 12 = omega arith in
      let block : b * 8 + 8 ≡ suc b * 8 = omega arith in
      let step : b * 12 + 12 ≡ suc b * 12 = omega arith in
      subst (λ (x : ℕ). Good has s (calls_from (length frames) (b * 12) x)) more_of
      (eight-then b (k * 12) has s (omega arith) a (λ has2 s2 a2.
      subst (λ (x : ℕ). Good has2 s2 (calls_from (length frames) x (k * 12))) (sym step)
      (blocks-good k (suc b) has2 s2 (omega arith) (subst (λ (x : ℕ). Along x [] has2 s2) block a2))))

  rule-good : Good nothing fresh_state (all_calls (length frames))
  rule-good = blocks-good ((length frames + 7) / 8) 0 nothing fresh_state (omega arith) (record {
    lowest = 0;
    stands = fresh-stands own_number;
    below = λ i h. absurd (omega arith);
    early = λ i h there. absurd (omega arith);
    late = λ i h. refl;
    real = λ i h. never (sym h);
    came = (unfold Came in tt);
  })

pub within : WithinClaim
within s message fit from_zero small =
    let frames = frames_of demo_form s message in
    let g = rule-good demo_form frames (numbered-one demo_form refl s message fit 0 from_zero) in
    record {
      allowed = g.0;
      complete = g.1;
      comes-out = (transfer.one-message demo_form s message (all_calls (length frames)) refl fit from_zero small g.0).comes-out g.1;
    }
