-- Running a part of the script byte by byte, and running the end of the script.
-- Assumes nothing.
use mathlib.Core.Path.{◌≡◌, refl, sym, ap, ap₂, ◌∙◌}
use mathlib.Core.Bool.{true, false}
use mathlib.Core.List.{List, [], ◌∷◌, ◌++◌, append_assoc, append-nil}
use Prim.Native.Nat.{ℕ, ◌+◌, ◌*◌, ◌/◌, ◌≤◌, ◌<◌}
use native.Mathlib.Omega.{arith}
use lib.Dec.{leb}
use lib.ListN.{length, set, get_or, take, drop, length-set, length-append}
use lib.Seq.{take_all}
use borrow.Author.Tests.{ne_eqb, le-leb, lt-leb, lt-ltb, le-ltb}
use Rattle.refusal.specs.declared.Refusal.TheVariants.{OutputTooShort}
use Rattle.refusal.specs.Numbers.{check, refusal_number, Verdict}
use Rattle.resequencer.specs.declared.Answer.{Answer}
use Rattle.replay_script.specs.declared.Line.{Line}
use Rattle.replay_script.specs.declared.Replay.{Replay}
use Rattle.replay_script.specs.declared.Fed.{Fed}
use Rattle.replay_script.specs.declared.Finished.{Finished}
use Rattle.replay_script.specs.Lines.{line_in, line_answer, answer_text, line_text}
use Rattle.replay_script.specs.Feeding.{pending, run_line, byte_next, byte_text, feed_next, feed_text, feed_verdict, feed_by, feed_of, feed_out_by, feed_out, finish_text, finish_next, finish_verdict, finish_by, finish_of, finish_out_by, finish_out}
use Rattle.text.specs.Writing.{Wrote}
use Rattle.text.proofs.Writing.{none, then, meant, in-front}
use Rattle.replay_script.specs.Writing.{least}
use Rattle.replay_script.proofs.Writing.{grown, take-least}
use Rattle.replay_script.proofs.Lines.{line-next, line-written}
use Rattle.std.specs.Prelude.{Ok, Err, Option}

-- ---- the line that is kept

pub kept_line : (line : List ℕ) (have : ℕ) {l : Option Line} {size : ℕ} → length line ≡ 14 → size ≡ least have 14 → l ≡ line_in (take size line)
    → l ≡ line_in (take have line)
kept_line line have n e h = h ∙ ap (λ k. line_in (take k line)) e ∙ ap line_in (take-least have 14 line n)

ran-next : (r : Replay) {a : Answer} → a ≡ line_answer r.state (line_in (pending r))
    → ◌≡◌ {A = Replay} (record { state = a.next; line = r.line; have = 0 }) (run_line r)
ran-next r k = ap (λ s. record { state = s; line = r.line; have = 0 }) (line-next r.state (pending r) refl k)

ran-written : (r : Replay) {a : Answer} {o o' : List ℕ} {from end : ℕ} → a ≡ line_answer r.state (line_in (pending r))
    → Wrote o o' from end 210 (answer_text a) → Wrote o o' from end 256 (line_text r.state (pending r))
ran-written r k w = line-written r.state (pending r) refl k w

-- ---- one byte

end-next : (r : Replay) (b : ℕ) → b ≡ 10 → run_line r ≡ byte_next r b
unfolding byte_next
end-next r b e = rw e

end-text : (r : Replay) (b : ℕ) → b ≡ 10 → line_text r.state (pending r) ≡ byte_text r b
unfolding byte_text
end-text r b e = rw e

kept_next : (r : Replay) (b : ℕ) → (b ≡ 10 → ⊥) → r.have < 14
    → ◌≡◌ {A = Replay} (record { state = r.state; line = set r.line r.have b; have = r.have + 1 }) (byte_next r b)
unfolding byte_next
kept_next r b h k = rw (ne_eqb b 10 h, lt-ltb r.have 14 k)

dropped-next : (r : Replay) (b : ℕ) → (b ≡ 10 → ⊥) → 14 ≤ r.have → r ≡ byte_next r b
unfolding byte_next
dropped-next r b h k = rw (ne_eqb b 10 h, le-ltb r.have 14 k)

no_text : (r : Replay) (b : ℕ) → (b ≡ 10 → ⊥) → [] ≡ byte_text r b
unfolding byte_text
no_text r b h = rw (ne_eqb b 10 h)

-- ---- two parts, one after the other

pub next-append : (r : Replay) (xs ys : List ℕ) → feed_next r (xs ++ ys) ≡ feed_next (feed_next r xs) ys
unfolding feed_next
next-append r [] ys = refl
next-append r (x ∷ xs) ys = next-append (byte_next r x) xs ys

pub text-append : (r : Replay) (xs ys : List ℕ) → feed_text r (xs ++ ys) ≡ feed_text r xs ++ feed_text (feed_next r xs) ys
unfolding feed_next feed_text
text-append r [] ys = refl
text-append r (x ∷ xs) ys =
    ap (λ l. byte_text r x ++ l) (text-append (byte_next r x) xs ys)
    ∙ sym (append_assoc (byte_text r x) (feed_text (byte_next r x) xs) (feed_text (feed_next (byte_next r x) xs) ys))

next_one : (r : Replay) (b : ℕ) → feed_next r (b ∷ []) ≡ byte_next r b
unfolding feed_next
next_one r b = refl

text-one : (r : Replay) (b : ℕ) → feed_text r (b ∷ []) ≡ byte_text r b
unfolding feed_text
text-one r b = append-nil (byte_text r b)

-- ---- a part, byte by byte

-- after the first i bytes of the part r is kept, and their report is written, up to `end`
pub record Ran (r₀ : Replay) (part o out : List ℕ) (r : Replay) (end i : ℕ) : Type 0 where
  pub sized : length r.line ≡ 14
  pub within : i ≤ length part
  pub next : r ≡ feed_next r₀ (take i part)
  pub text : Wrote o out 0 end (256 * i) (feed_text r₀ (take i part))

module _ (r₀ : Replay) (part o : List ℕ) where
  pub ran-none : length r₀.line ≡ 14 → Ran r₀ part o o r₀ 0 0
  unfolding feed_next feed_text
  ran-none n = record { sized = n; within = omega arith; next = refl; text = none o 0 (256 * 0) }

  -- one byte more
  turned : {out out' : List ℕ} {r r' : Replay} {end end' i : ℕ} → Ran r₀ part o out r end i → i < length part → length r'.line ≡ 14
      → r' ≡ byte_next r (get_or part i 0) → Wrote out out' end end' 256 (byte_text r (get_or part i 0)) → Ran r₀ part o out' r' end' (i + 1)
  turned {r = r} {i = i} a h n e w =
      let b = get_or part i 0 in
      record {
        sized = n;
        within = omega arith;
        next =
            e ∙ sym (next_one r b) ∙ ap (λ x. feed_next x (b ∷ [])) a.next
            ∙ sym (next-append r₀ (take i part) (b ∷ [])) ∙ ap (feed_next r₀) (grown part i h);
        text =
            meant (then a.text w) (ap (λ l. feed_text r₀ (take i part) ++ l) (sym (text-one r b) ∙ ap (λ x. feed_text x (b ∷ [])) a.next)
            ∙ sym (text-append r₀ (take i part) (b ∷ [])) ∙ ap (feed_text r₀) (grown part i h)) (omega arith);
      }

  -- the byte ends the line that is kept
  pub ran_line : {out out' : List ℕ} {r : Replay} {end end' i : ℕ} {a : Answer} → Ran r₀ part o out r end i → i < length part → get_or part i 0 ≡ 10
      → a ≡ line_answer r.state (line_in (pending r)) → Wrote out out' end end' 210 (answer_text a)
      → Ran r₀ part o out' (record { state = a.next; line = r.line; have = 0 }) end' (i + 1)
  ran_line {r = r} {i = i} g h e k w =
      turned g h g.sized (ran-next r k ∙ end-next r (get_or part i 0) e) (meant (ran-written r k w) (end-text r (get_or part i 0) e) (omega arith))

  -- the byte is added to the line
  pub ran-kept : {out : List ℕ} {r : Replay} {end i : ℕ} → Ran r₀ part o out r end i → i < length part → (get_or part i 0 ≡ 10 → ⊥) → r.have < 14
      → Ran r₀ part o out (record { state = r.state; line = set r.line r.have (get_or part i 0); have = r.have + 1 }) end (i + 1)
  ran-kept {out = out} {r = r} {end = end} {i = i} g h e k =
      let b = get_or part i 0 in
      turned g h (length-set r.line r.have b ∙ g.sized) (kept_next r b e k) (meant (none out end 256) (no_text r b e) (omega arith))

  -- the byte is dropped, as the line is too long already
  pub ran-dropped : {out : List ℕ} {r : Replay} {end i : ℕ} → Ran r₀ part o out r end i → i < length part → (get_or part i 0 ≡ 10 → ⊥) → 14 ≤ r.have
      → Ran r₀ part o out r end (i + 1)
  ran-dropped {out = out} {r = r} {end = end} {i = i} g h e k =
      let b = get_or part i 0 in
      turned g h g.sized (dropped-next r b e k) (meant (none out end 256) (no_text r b e) (omega arith))

  -- there is room for the next report
  pub ran-room : {out : List ℕ} {r : Replay} {end i : ℕ} → Ran r₀ part o out r end i → i < length part → length part * 256 ≤ length o
      → end + 210 ≤ length out
  ran-room g h k = omega (arith, g.text.within, g.text.size)

  pub ran-all : {out : List ℕ} {r : Replay} {end i : ℕ} → Ran r₀ part o out r end i → length part ≤ i
      → (r ≡ feed_next r₀ part) × Wrote o out 0 end (256 * length part) (feed_text r₀ part)
  ran-all {i = i} g h =
      let e : take i part ≡ part = take_all i part h in
      (g.next ∙ ap (feed_next r₀) e, meant g.text (ap (feed_text r₀) e) (omega (arith, g.within)))

-- ---- the call for a part

feed-verdict : (v : Verdict) (r : Replay) (part : List ℕ) → (feed_by v r part).verdict ≡ v
feed-verdict (Ok tt) r part = refl
feed-verdict (Err why) r part = refl

-- its promises: the answer, its number, the lent output
pub feed-numbered : (r : Replay) (part o : List ℕ) {f : Fed} {o' : List ℕ} → (f ≡ feed_of r part o) × (o' ≡ feed_out r part o)
    → (f ≡ feed_of r part o) × ((refusal_number f.verdict ≡ refusal_number (feed_verdict part o)) × (o' ≡ feed_out r part o))
unfolding feed_of
feed-numbered r part o p = (p.0, (ap (λ x. refusal_number x.verdict) p.0 ∙ ap refusal_number (feed-verdict (feed_verdict part o) r part), p.1))

module _ (r : Replay) (part o : List ℕ) where
  pub feed-refused : length o / 256 < length part
      → (◌≡◌ {A = Fed} (record { verdict = Err OutputTooShort; written = 0; next = r }) (feed_of r part o)) × (o ≡ feed_out r part o)
  unfolding feed_of feed_out feed_verdict
  feed-refused h =
      let k : length o < length part * 256 = omega arith in
      let e : leb (length part * 256) (length o) ≡ false = lt-leb (length part * 256) (length o) k in
      (rw e, rw e)

  pub feed-done : {next : Replay} {o' : List ℕ} {end : ℕ} → length part ≤ length o / 256 → next ≡ feed_next r part
      → Wrote o o' 0 end (256 * length part) (feed_text r part)
      → (◌≡◌ {A = Fed} (record { verdict = Ok tt; written = end; next = next }) (feed_of r part o)) × (o' ≡ feed_out r part o)
  unfolding feed_of feed_out feed_verdict
  feed-done {end = end} h e w =
      let k : length part * 256 ≤ length o = omega arith in
      let m : 256 * length part ≤ length o = omega arith in
      let t : leb (length part * 256) (length o) ≡ true = le-leb (length part * 256) (length o) k in
      let n : end ≡ length (feed_text r part) = omega (arith, w.end) in
      (rw t (ap₂ (λ x y. record { verdict = Ok tt; written = x; next = y }) n e), rw t (in-front w m))

-- ---- the call for the end

finish-none : (r : Replay) → r.have ≡ 0 → ([] ≡ finish_text r) × (r ≡ finish_next r)
unfolding finish_text
finish-none r e = (rw e, rw e)

finish-line : (r : Replay) → (r.have ≡ 0 → ⊥) → (line_text r.state (pending r) ≡ finish_text r) × (run_line r ≡ finish_next r)
unfolding finish_text
finish-line r h = (rw (ne_eqb r.have 0 h), rw (ne_eqb r.have 0 h))

finish-verdict : (v : Verdict) (r : Replay) → (finish_by v r).verdict ≡ v
finish-verdict (Ok tt) r = refl
finish-verdict (Err why) r = refl

-- its promises: the answer, its number, the lent output
pub finish-numbered : (r : Replay) (o : List ℕ) {f : Finished} {o' : List ℕ} → (f ≡ finish_of r o) × (o' ≡ finish_out r o)
    → (f ≡ finish_of r o) × ((refusal_number f.verdict ≡ refusal_number (finish_verdict o)) × (o' ≡ finish_out r o))
unfolding finish_of
finish-numbered r o p = (p.0, (ap (λ x. refusal_number x.verdict) p.0 ∙ ap refusal_number (finish-verdict (finish_verdict o) r), p.1))

module _ (r : Replay) (o : List ℕ) where
  pub finish-refused : length o < 256
      → (◌≡◌ {A = Finished} (record { verdict = Err OutputTooShort; written = 0; next = r }) (finish_of r o)) × (o ≡ finish_out r o)
  unfolding finish_of finish_out finish_verdict
  finish-refused h =
      let e : leb 256 (length o) ≡ false = lt-leb 256 (length o) h in
      (rw e, rw e)

  finish-written : {next : Replay} {o' : List ℕ} {end : ℕ} → 256 ≤ length o → next ≡ finish_next r → Wrote o o' 0 end 256 (finish_text r)
      → (◌≡◌ {A = Finished} (record { verdict = Ok tt; written = end; next = next }) (finish_of r o)) × (o' ≡ finish_out r o)
  unfolding finish_of finish_out finish_verdict
  finish-written {end = end} h e w =
      let t : leb 256 (length o) ≡ true = le-leb 256 (length o) h in
      let n : end ≡ length (finish_text r) = omega (arith, w.end) in
      (rw t (ap₂ (λ x y. record { verdict = Ok tt; written = x; next = y }) n e), rw t (in-front w h))

  pub finish-empty : 256 ≤ length o → r.have ≡ 0
      → (◌≡◌ {A = Finished} (record { verdict = Ok tt; written = 0; next = r }) (finish_of r o)) × (o ≡ finish_out r o)
  finish-empty h e = finish-written h (finish-none r e).1 (meant (none o 0 256) (finish-none r e).0 (omega arith))

  pub finish-ran : {a : Answer} {o' : List ℕ} {end : ℕ} → 256 ≤ length o → (r.have ≡ 0 → ⊥) → a ≡ line_answer r.state (line_in (pending r))
      → Wrote o o' 0 end 210 (answer_text a)
      → (◌≡◌ {A = Finished} (record { verdict = Ok tt; written = end; next = record { state = a.next; line = r.line; have = 0 } }) (finish_of r o))
      × (o' ≡ finish_out r o)
  finish-ran h e k w =
      finish-written h (ran-next r k ∙ (finish-line r e).1) (meant (ran-written r k w) (finish-line r e).0 (omega arith))

-- ---- for callers: the report lies within the lent output, and a part is run if there is room for
-- its report

pub feed-fits : (r : Replay) (part o : List ℕ) {f : Fed} {o' : List ℕ} → f ≡ feed_of r part o → o' ≡ feed_out r part o → f.written ≤ length o'
unfolding feed_of feed_out
feed-fits r part o {f} {o'} e k =
    let h : (feed_by (feed_verdict part o) r part).written ≤ length (feed_out_by (feed_verdict part o) r part o) = go (feed_verdict part o) in
    omega (arith, h, ap (λ x. x.written) e, ap length k)
  where
    go : (v : Verdict) → (feed_by v r part).written ≤ length (feed_out_by v r part o)
    go (Ok tt) = omega (arith, length-append (feed_text r part) (drop (length (feed_text r part)) o))
    go (Err why) = omega arith

pub feed-runs : (r : Replay) (part o : List ℕ) {f : Fed} → length part * 256 ≤ length o → f ≡ feed_of r part o → f.next ≡ feed_next r part
unfolding feed_of feed_verdict
feed-runs r part o h e =
    let t : leb (length part * 256) (length o) ≡ true = le-leb (length part * 256) (length o) h in
    ap (λ x. x.next) (e ∙ ap (λ x. feed_by (check x OutputTooShort (Ok tt)) r part) t)

pub finish-fits : (r : Replay) (o : List ℕ) {f : Finished} {o' : List ℕ} → f ≡ finish_of r o → o' ≡ finish_out r o → f.written ≤ length o'
unfolding finish_of finish_out
finish-fits r o {f} {o'} e k =
    let h : (finish_by (finish_verdict o) r).written ≤ length (finish_out_by (finish_verdict o) r o) = go (finish_verdict o) in
    omega (arith, h, ap (λ x. x.written) e, ap length k)
  where
    go : (v : Verdict) → (finish_by v r).written ≤ length (finish_out_by v r o)
    go (Ok tt) = omega (arith, length-append (finish_text r) (drop (length (finish_text r)) o))
    go (Err why) = omega arith
