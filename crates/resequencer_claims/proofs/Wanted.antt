-- The claims `Wanted`: what one call keeps lasts over any calls from a fresh state. Clocks are
-- counted by distance from NESN.
-- Assumes nothing.
use mathlib.Core.Path.{◌≡◌, refl, sym, ap, ◌∙◌}
use mathlib.Core.Bool.{Bool, true, false, not, ◌&&◌, and-false}
use mathlib.Core.Logic.{◌⊎◌, inl, inr}
use mathlib.Core.List.{List, [], ◌∷◌}
use Prim.Native.Nat.{ℕ, suc, ◌+◌, ◌%◌, ◌≤◌, ◌<◌}
use native.Mathlib.Numerals.{add-one}
use native.Mathlib.Omega.{arith}
use lib.Dec.{lit<}
use borrow.Author.Tests.{lt-ltb}
use Rattle.refusal.proofs.Checks.{both_true}
use Rattle.sequence.specs.Numbers.{link}
use Rattle.wordset.specs.Sets.{member, how_many, count, run}
use Rattle.wordset.proofs.Sets.{member-none}
use Rattle.wordset.proofs.Masks.{empty}
use Rattle.wordset.proofs.Counts.{how_many-none, how_many-split, how_many-apart, how_many-turn}
use Rattle.resequencer.specs.declared.Resequencer.{Resequencer}
use Rattle.resequencer.specs.declared.Answer.{Answer}
use Rattle.resequencer.specs.State.{fresh_state, is_held, has_clock, ahead, number_at, in_order}
use Rattle.resequencer.specs.Events.{hand_on, is_passed, remaining, advance, passed_by_clock, take_clock_end, clock_end_of}
use Rattle.resequencer_claims.specs.Calls.{Call, clock_end, answer_to, after_calls, state_after}
use Rattle.resequencer_claims.specs.Wanted.{takes, arrivals_taken, ticket_count, clock_ends, Among, Wanted}
use Rattle.resequencer_claims.proofs.Places.{held_at, clock_at, remaining-member}
use Rattle.resequencer_claims.proofs.Order.{Top, Ordered, good-order, clocks-idle, never}
use Rattle.resequencer_claims.proofs.Meeting.{meets-some}
use Rattle.resequencer_claims.proofs.Answers.{next-plain, ClockCases, clock-cases, clock-taken}
use Rattle.resequencer_claims.proofs.Keeping.{Kept, keeps, fresh_kept}
use Rattle.resequencer_claims.proofs.AtMost.{at-most-32}
use Rattle.std.specs.Prelude.{Err}

-- ---- clocks

count-clocks : (s : Resequencer) → count 64 s.clocks ≡ how_many 64 (clock_at s)
count-clocks s = sym (how_many-turn 64 (lit< tt) (has_clock s) s.nesn.0)

-- at most 16 clocks: no two are on neighbours, and all are at distance 1 to 31
few-clocks : (s : Resequencer) → Ordered s → count 64 s.clocks ≤ 16
few-clocks s o =
    let e : count 64 s.clocks ≡ how_many 32 (clock_at s) + 0 =
    count-clocks s ∙ how_many-split 32 32 (clock_at s) ∙ ap (λ (x : ℕ). how_many 32 (clock_at s) + x) (how_many-none 32 (λ j. clock_at s (32 + j)) (λ j h. far (32 + j) (omega arith) (omega arith) (clock_at s (32 + j)) refl)) in
    omega (arith, e, how_many-apart 16 (clock_at s) beside)
  where
    far : (d : ℕ) → d < 64 → 32 ≤ d → (b : Bool) → clock_at s d ≡ b → clock_at s d ≡ false
    far d h l false e = e
    far d h l true e = absurd (omega (arith, (o.window d h (o.on-held d h e)).1))

    beside : (j : ℕ) → suc j < 32 → clock_at s j ≡ true → clock_at s (suc j) ≡ true → ⊥
    beside j h p q = o.apart j (omega arith) p (ap (clock_at s) (add-one j) ∙ q)

-- ---- any calls

after-keeps : (s : Resequencer) (cs : List Call) → Kept s → Kept (after_calls s cs)
unfolding after_calls
after-keeps s [] k = k
after-keeps s (c ∷ cs) k = after-keeps (answer_to s c).next cs (keeps s k c).kept

balance : (s : Resequencer) (cs : List Call) → Kept s
    → arrivals_taken s cs + count 64 s.held ≡ ticket_count s cs + count 64 (after_calls s cs).held
unfolding after_calls arrivals_taken ticket_count
balance s [] k = refl
balance s (c ∷ cs) k =
    let w = keeps s k c in
    add (takes s c) (arrivals_taken (answer_to s c).next cs) (count 64 s.held) (answer_to s c).count (count 64 (answer_to s c).next.held)
    (ticket_count (answer_to s c).next cs) (count 64 (after_calls (answer_to s c).next cs).held) w.balance (balance (answer_to s c).next cs w.kept)
  where
    add : (a b x c y d z : ℕ) → a + x ≡ c + y → b + y ≡ d + z → (a + b) + x ≡ (c + d) + z
    add a b x c y d z e f = omega arith

-- ---- something is held exactly if a clock runs

none-held : (s : Resequencer) → Ordered s → s.clocks ≡ 0 → s.held ≡ 0
none-held s o z = go o.top
  where
    go : ((s.held ≡ 0) × (s.hsnr ≡ link 0)) ⊎ ((e : ℕ) × Top s e) → s.held ≡ 0
    go (inl w) = w.0
    go (inr w) =
        let x = meets-some (held_at s) (clock_at s) w.0 w.1.meets in
        never (sym x.2 ∙ ap (λ (y : ℕ). member y (number_at s x.0)) z ∙ member-none (number_at s x.0))

-- ---- clock ends with no arrival between

-- the clocks after a clock end that hands on
clocks-then : (s : Resequencer) (sn n : ℕ) → has_clock (take_clock_end s sn).next n ≡ member (remaining s (passed_by_clock s sn) s.clocks) n
unfolding take_clock_end hand_on advance
clocks-then s sn n = refl

-- a clock end starts no clock
fewer : (s : Resequencer) (sn n : ℕ) → n < 64 → has_clock (clock_end_of s sn).next n ≡ true → has_clock s n ≡ true
fewer s sn n l h = go (clock-cases s sn)
  where
    go : ClockCases s sn
        → has_clock s n ≡ true
    go (inl w) =
        (both_true (has_clock s n) _
        (sym (remaining-member s (passed_by_clock s sn) s.clocks n l) ∙ sym (ap (λ (a : Answer). has_clock a.next n) w.2 ∙ clocks-then s sn n) ∙ h)
        ).0
    go (inr w) = sym (ap (λ (a : Answer). has_clock a.next n) w.1 ∙ ap (λ (x : Resequencer). has_clock x n) (next-plain (Err w.0) s)) ∙ h

-- a clock that has ended does not run
ended : (s : Resequencer) (n : ℕ) → in_order s ≡ true → n < 64 → has_clock (clock_end_of s n).next n ≡ false
ended s n g l = go (has_clock s n) refl
  where
    is-passed : is_passed s (passed_by_clock s n) n ≡ true
    is-passed = (unfold passed_by_clock in lt-ltb (ahead s n) (ahead s n + 1 + run 64 s.held ((n + 1) % 64)) (omega arith))

    stays : ClockCases s n
        → has_clock s n ≡ false → has_clock (clock_end_of s n).next n ≡ false
    stays (inl w) e = never (sym w.1 ∙ e)
    stays (inr w) e = ap (λ (a : Answer). has_clock a.next n) w.1 ∙ ap (λ (x : Resequencer). has_clock x n) (next-plain (Err w.0) s) ∙ e

    go : (b : Bool) → has_clock s n ≡ b → has_clock (clock_end_of s n).next n ≡ false
    go true e =
        ap (λ (a : Answer). has_clock a.next n) (clock-taken s n g l e) ∙ clocks-then s n n ∙ remaining-member s (passed_by_clock s n) s.clocks n l
        ∙ ap (λ (b : Bool). has_clock s n && not b) is-passed ∙ and-false (has_clock s n)
    go false e = stays (clock-cases s n) e

-- a clock that runs after some clock ends ran before them and is not one of those that ended
none_left : (s : Resequencer) (sns : List ℕ) → Kept s → (n : ℕ) → n < 64 → has_clock (after_calls s (clock_ends sns)) n ≡ true → (has_clock s n ≡ true) × (Among n sns → ⊥)
unfolding after_calls clock_ends Among
none_left s [] k n l h = (h, λ a. a)
none_left s (sn ∷ sns) k n l h =
    let r = none_left (clock_end_of s sn).next sns (keeps s k (clock_end sn)).kept n l h in
    (fewer s sn n l r.0, λ a. go r.0 r.1 a)
  where
    go : has_clock (clock_end_of s sn).next n ≡ true → (Among n sns → ⊥) → (n ≡ sn) ⊎ Among n sns → ⊥
    go x y (inl e) =
        never (sym (ap (λ (m : ℕ). has_clock (clock_end_of s m).next n) e ∙ x) ∙ ended s n (good-order s k.order) l)
    go x y (inr a) = y a

pub wanted : (cs : List Call) → Wanted cs
wanted cs =
    let k = after-keeps fresh_state cs fresh_kept in
    let b = balance fresh_state cs fresh_kept in
    record {
      in_order = good-order (state_after cs) k.order;
      none-held = none-held (state_after cs) k.order;
      none-running = clocks-idle (state_after cs) k.sized k.order;
      at-most-16 = few-clocks (state_after cs) k.order;
      drained = λ sns h.
          let j = after-keeps (state_after cs) (clock_ends sns) k in
          none-held (after_calls (state_after cs) (clock_ends sns)) j.order
          (empty 64 (after_calls (state_after cs) (clock_ends sns)).clocks j.sized.clocks-fit (λ n l.
          all-ended n l (has_clock (after_calls (state_after cs) (clock_ends sns)) n) sns refl k h));
      at-most-32 = at-most-32 (state_after cs);
      total = omega (arith, b, none_yet);
    }
  where
    none_yet : count 64 fresh_state.held ≡ 0
    none_yet = how_many-none 64 (is_held fresh_state) (λ j h. member-none j)

    all-ended : (n : ℕ) → n < 64 → (t : Bool) → (sns : List ℕ) → has_clock (after_calls (state_after cs) (clock_ends sns)) n ≡ t → Kept (state_after cs)
        → ((n : ℕ) → n < 64 → has_clock (state_after cs) n ≡ true → Among n sns ⊎ (has_clock (after_calls (state_after cs) (clock_ends sns)) n ≡ false))
        → has_clock (after_calls (state_after cs) (clock_ends sns)) n ≡ false
    all-ended n l false sns e k h = e
    all-ended n l true sns e k h = let r = none_left (state_after cs) sns k n l e in go r.1 (h n l r.0)
      where
        go : (Among n sns → ⊥) → Among n sns ⊎ (has_clock (after_calls (state_after cs) (clock_ends sns)) n ≡ false) → has_clock (after_calls (state_after cs) (clock_ends sns)) n ≡ false
        go x (inl a) = absurd (x a)
        go x (inr a) = a
