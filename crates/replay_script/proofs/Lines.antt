-- Reading a line, and running it on the resequencer.
-- Assumes nothing.
use mathlib.Core.Path.{◌≡◌, refl, sym, ap, ap₂, ◌∙◌}
use mathlib.Core.Bool.{Bool, true, false, cond}
use mathlib.Core.List.{List, [], ◌∷◌}
use Prim.Native.Nat.{ℕ, suc, ◌+◌, ◌≤◌, ◌<◌}
use native.Mathlib.Decide.{dec_le}
use native.Mathlib.Omega.{arith}
use lib.Dec.{eqb}
use lib.ListN.{length, get_or, take, drop, length-drop}
use lib.Seq.{take_all, length-take-le}
use borrow.Author.Tests.{le-leb, lt-leb, le-ltb}
use Rattle.refusal.specs.declared.Refusal.TheVariants.{OutOfRange, NotInOrder, Malformed}
use Rattle.refusal.specs.Numbers.{check}
use Rattle.sequence.specs.Numbers.{in_field}
use Rattle.resequencer.specs.declared.Resequencer.{Resequencer}
use Rattle.resequencer.specs.declared.Answer.{Answer}
use Rattle.resequencer.specs.State.{in_order}
use Rattle.resequencer.specs.Events.{plain, arrive_verdict, arrive_by, arrive_of, clock_end_verdict, clock_end_by, clock_end_of}
use Rattle.replay_script.specs.declared.Line.{Line}
use Rattle.replay_script.specs.declared.Line.TheVariants.{Arrival, ClockEnd}
use Rattle.replay_script.specs.Text.{is_blank, decimal_in}
use Rattle.replay_script.specs.Lines.{word, after_word, arrival_of, clock_end_line, line_in, line_answer, answer_text, line_text, line_next}
use Rattle.text.specs.Writing.{Wrote}
use Rattle.text.proofs.Writing.{meant}
use Rattle.replay_script.specs.Writing.{narrowed}
use Rattle.replay_script.proofs.Reading.{empty-none, long-none, no-blank, before-blank, behind-blank}
use Rattle.std.specs.Prelude.{Err, Option, Some, None, position}

-- ---- a line of 14 bytes or more is malformed, so reading its first 14 bytes is enough

word-parts : (text : List ℕ) → length text ≤ length (word text) + (1 + length (after_word text))
unfolding word after_word
word-parts [] = omega arith
word-parts (b ∷ bs) = go (eqb b 32) (word-parts bs)
  where
    go : (x : Bool) → length bs ≤ length (word bs) + (1 + length (after_word bs))
        → suc (length bs) ≤ length (cond x [] (b ∷ word bs)) + (1 + length (cond x bs (after_word bs)))
    go true h = omega arith
    go false h = omega arith

none_first : (a b : Option ℕ) → None ≡ a → arrival_of a b ≡ None
unfolding arrival_of
none_first a b e = rw (sym e)

none-second : (a b : Option ℕ) → None ≡ b → arrival_of a b ≡ None
unfolding arrival_of
none-second (Some sn) b e = rw (sym e)
none-second None b e = refl

-- what is read of an arrival line after its letter, where e is the index of the first blank
pub arrival-unparted : (text : List ℕ) → None ≡ position is_blank text → None ≡ arrival_of (decimal_in (word text)) (decimal_in (after_word text))
arrival-unparted text e = sym (none-second _ _ (empty-none (after_word text) (ap length (no-blank text e))))

module _ (text : List ℕ) (e : ℕ) (at : Some e ≡ position is_blank text) where
  pub arrival-unnumbered : None ≡ decimal_in (take e text) → None ≡ arrival_of (decimal_in (word text)) (decimal_in (after_word text))
  arrival-unnumbered h = sym (none_first _ _ (h ∙ ap decimal_in (before-blank text e at)))

  pub arrival-unticketed : None ≡ decimal_in (drop (e + 1) text) → None ≡ arrival_of (decimal_in (word text)) (decimal_in (after_word text))
  arrival-unticketed h = sym (none-second _ _ (h ∙ ap decimal_in (behind-blank text e at)))

  pub arrival-read : (sn ticket : ℕ) → Some sn ≡ decimal_in (take e text) → Some ticket ≡ decimal_in (drop (e + 1) text)
      → Some (Arrival sn ticket) ≡ arrival_of (decimal_in (word text)) (decimal_in (after_word text))
  unfolding arrival_of
  arrival-read sn ticket h k = ap₂ arrival_of (h ∙ ap decimal_in (before-blank text e at)) (k ∙ ap decimal_in (behind-blank text e at))

long-arrival : (text : List ℕ) → 12 ≤ length text → arrival_of (decimal_in (word text)) (decimal_in (after_word text)) ≡ None
long-arrival text h = elim (dec_le (length (word text)) 5) [
  | yes e ↦
      let k : 5 < length (after_word text) = omega (arith, word-parts text) in
      none-second (decimal_in (word text)) (decimal_in (after_word text)) (long-none (after_word text) k)
  | no e ↦
      let k : 5 < length (word text) = omega arith in
      none_first (decimal_in (word text)) (decimal_in (after_word text)) (long-none (word text) k)
]

long-end : (text : List ℕ) → 12 ≤ length text → clock_end_line (decimal_in text) ≡ None
unfolding clock_end_line
long-end text h = let k : 5 < length text = omega arith in rw (← long-none text k)

pick : (x y z : Bool) (a e : Option Line) → a ≡ None → e ≡ None → cond x (cond y a (cond z e None)) None ≡ None
pick true true z a e h k = h
pick true false true a e h k = k
pick true false false a e h k = refl
pick false y z a e h k = refl

long-malformed : (text : List ℕ) → 14 ≤ length text → line_in text ≡ None
unfolding line_in
long-malformed text h =
    let k : 12 ≤ length (drop 2 text) = omega (arith, length-drop 2 text) in
    pick (eqb (get_or text 1 0) 32) (eqb (get_or text 0 0) 65) (eqb (get_or text 0 0) 69) _ _ (long-arrival (drop 2 text) k) (long-end (drop 2 text) k)

first-tell : (text : List ℕ) → line_in (take 14 text) ≡ line_in text
first-tell text = elim (dec_le (length text) 14) [
  | yes h ↦ ap line_in (take_all 14 text h)
  | no h ↦
      let m : 14 ≤ length text = omega arith in
      let k : 14 ≤ length (take 14 text) = omega (arith, length-take-le 14 text m) in
      long-malformed (take 14 text) k ∙ sym (long-malformed text m)
]

pub first-text : (s : Resequencer) (text : List ℕ) → line_text s (take 14 text) ≡ line_text s text
unfolding line_text
first-text s text = ap (λ l. answer_text (line_answer s l)) (first-tell text)

pub first_next : (s : Resequencer) (text : List ℕ) → line_next s (take 14 text) ≡ line_next s text
unfolding line_next
first_next s text = ap (λ l. (line_answer s l).next) (first-tell text)

-- ---- every sequence number over 63 is refused alike

pub narrow-small : (sn : ℕ) → sn ≤ 63 → sn ≡ narrowed sn
unfolding narrowed
narrow-small sn h = rw (le-leb sn 63 h)

pub narrow-large : (sn : ℕ) → 63 < sn → 255 ≡ narrowed sn
unfolding narrowed
narrow-large sn h = rw (lt-leb sn 63 h)

out-of-field : (n : ℕ) → 63 < n → in_field 64 n ≡ false
out-of-field n h = le-ltb n 64 (omega arith)

over-arrive : (s : Resequencer) (sn ticket : ℕ) → in_field 64 sn ≡ false
    → arrive_of s sn ticket ≡ cond (in_order s) (plain (Err OutOfRange) s) (plain (Err NotInOrder) s)
unfolding arrive_of arrive_verdict
over-arrive s sn ticket e = rw e (go (in_order s))
  where
    go : (x : Bool) → arrive_by (check x NotInOrder (Err OutOfRange)) s sn ticket ≡ cond x (plain (Err OutOfRange) s) (plain (Err NotInOrder) s)
    go true = refl
    go false = refl

over-end : (s : Resequencer) (sn : ℕ) → in_field 64 sn ≡ false
    → clock_end_of s sn ≡ cond (in_order s) (plain (Err OutOfRange) s) (plain (Err NotInOrder) s)
unfolding clock_end_of clock_end_verdict
over-end s sn e = rw e (go (in_order s))
  where
    go : (x : Bool) → clock_end_by (check x NotInOrder (Err OutOfRange)) s sn ≡ cond x (plain (Err OutOfRange) s) (plain (Err NotInOrder) s)
    go true = refl
    go false = refl

arrive-narrowed : (s : Resequencer) (sn ticket : ℕ) → arrive_of s (narrowed sn) ticket ≡ arrive_of s sn ticket
arrive-narrowed s sn ticket = elim (dec_le sn 63) [
  | yes h ↦ ap (λ n. arrive_of s n ticket) (sym (narrow-small sn h))
  | no h ↦
      let k : 63 < sn = omega arith in
      ap (λ n. arrive_of s n ticket) (sym (narrow-large sn k)) ∙ over-arrive s 255 ticket refl ∙ sym (over-arrive s sn ticket (out-of-field sn k))
]

end-narrowed : (s : Resequencer) (sn : ℕ) → clock_end_of s (narrowed sn) ≡ clock_end_of s sn
end-narrowed s sn = elim (dec_le sn 63) [
  | yes h ↦ ap (clock_end_of s) (sym (narrow-small sn h))
  | no h ↦
      let k : 63 < sn = omega arith in
      ap (clock_end_of s) (sym (narrow-large sn k)) ∙ over-end s 255 refl ∙ sym (over-end s sn (out-of-field sn k))
]

-- ---- running a line

pub arrival-answer : (s : Resequencer) {a : Answer} {l : Option Line} {n : ℕ} (sn ticket : ℕ) → l ≡ Some (Arrival sn ticket) → n ≡ narrowed sn
    → a ≡ arrive_of s n ticket → a ≡ line_answer s l
unfolding line_answer
arrival-answer s sn ticket e k h = h ∙ ap (λ x. arrive_of s x ticket) k ∙ arrive-narrowed s sn ticket ∙ sym (ap (line_answer s) e)

pub end-answer : (s : Resequencer) {a : Answer} {l : Option Line} {n : ℕ} (sn : ℕ) → l ≡ Some (ClockEnd sn) → n ≡ narrowed sn → a ≡ clock_end_of s n → a ≡ line_answer s l
unfolding line_answer
end-answer s sn e k h = h ∙ ap (clock_end_of s) k ∙ end-narrowed s sn ∙ sym (ap (line_answer s) e)

pub malformed-answer : (s : Resequencer) (l : Option Line) → l ≡ None → plain (Err Malformed) s ≡ line_answer s l
unfolding line_answer
malformed-answer s l e = sym (ap (line_answer s) e)

-- the next state and the report, for the text that was read
pub line-next : (s : Resequencer) (text : List ℕ) {l : Option Line} {a : Answer} → l ≡ line_in text → a ≡ line_answer s l → a.next ≡ line_next s text
unfolding line_next
line-next s text h k = ap (λ x. x.next) (k ∙ ap (line_answer s) h)

pub line-written : (s : Resequencer) (text : List ℕ) {l : Option Line} {a : Answer} {o o' : List ℕ} {from r : ℕ} → l ≡ line_in text → a ≡ line_answer s l
    → Wrote o o' from r 210 (answer_text a) → Wrote o o' from r 256 (line_text s text)
unfolding line_text
line-written s text h k w = meant w (ap answer_text (k ∙ ap (line_answer s) h)) (omega arith)
