-- However the script is cut into parts, the whole report is written. After each byte the first 14
-- bytes of the unfinished line are kept, and they are enough to read the line.
-- Assumes nothing.
use mathlib.Core.Path.{◌≡◌, refl, sym, ap, ap₂, ◌∙◌}
use mathlib.Core.Bool.{Bool, true, false, cond}
use mathlib.Core.List.{List, [], ◌∷◌, ◌++◌, append_assoc, append-nil}
use Prim.Native.Nat.{ℕ, ◌+◌, ◌≤◌, ◌<◌}
use native.Mathlib.Decide.{dec_lt}
use native.Mathlib.Numerals.{add-one}
use native.Mathlib.Omega.{arith}
use lib.Dec.{eqb, ltb}
use lib.ListN.{length, set, take, length-set, length-append, length-take}
use lib.Seq.{take_all, take-append-le, take-suc-set, length-take-le}
use borrow.Author.Tests.{ne_eqb, lt-ltb, le-ltb}
use Rattle.replay_script.specs.declared.Replay.{Replay}
use Rattle.replay_script.specs.Lines.{line_text, line_next, on_first, lines_in, lines_text, report_header, script_report}
use Rattle.replay_script.specs.Feeding.{fresh_replay, pending, keep_byte, run_line, byte_next, byte_text, feed_next, feed_text, finish_text}
use Rattle.replay_script.specs.Whole.{joined, written_for, AnyParts}
use Rattle.replay_script.proofs.Lines.{first-text, first_next}
use Rattle.replay_script.proofs.Feeding.{next-append, text-append}

-- ---- r keeps the first 14 bytes of the unfinished line l

record Keeps (r : Replay) (l : List ℕ) : Type 0 where
  size : length r.line ≡ 14
  low : r.have ≤ 14
  first : pending r ≡ take 14 l

keeps-nothing : (r : Replay) → length r.line ≡ 14 → r.have ≡ 0 → Keeps r []
keeps-nothing r n e = record { size = n; low = omega arith; first = ap (λ k. take k r.line) e }

-- how many bytes are kept
have-is : (r : Replay) (l : List ℕ) → Keeps r l → r.have ≡ length (take 14 l)
have-is r l k =
    let h : r.have ≤ length r.line = omega (arith, k.low, k.size) in
    sym (length-take-le r.have r.line h) ∙ ap length k.first

keeps-more : (r : Replay) (l : List ℕ) (b : ℕ) → Keeps r l → Keeps (keep_byte r b) (l ++ (b ∷ []))
keeps-more r l b k = elim (dec_lt r.have 14) [
  | yes h ↦
      let m : length l ≤ 14 = omega (arith, have-is r l k, length-take 14 l) in
      let n : length (l ++ (b ∷ [])) ≤ 14 = omega (arith, have-is r l k, length-take 14 l, length-append l (b ∷ [])) in
      let fits : r.have < length r.line = omega (arith, k.size) in
      rw (lt-ltb r.have 14 h) (record {
        size = length-set r.line r.have b ∙ k.size;
        low = omega arith;
        first =
            ap (λ j. take j (set r.line r.have b)) (add-one r.have) ∙ take-suc-set r.line r.have b fits
            ∙ ap (λ x. x ++ (b ∷ [])) (k.first ∙ take_all 14 l m) ∙ sym (take_all 14 (l ++ (b ∷ [])) n);
      })
  | no h ↦
      let g : 14 ≤ r.have = omega arith in
      let m : 14 ≤ length l = omega (arith, have-is r l k, length-take 14 l) in
      rw (le-ltb r.have 14 g) (record {
        size = k.size;
        low = k.low;
        first = k.first ∙ sym (take-append-le 14 l (b ∷ []) m);
      })
]

-- ---- lines with bytes in front of the first

unfoldable add_front : List ℕ → List (List ℕ) → List (List ℕ)
add_front [] ls = ls
add_front (b ∷ l) ls = on_first b (add_front l ls)

front-none : (ls : List (List ℕ)) → add_front [] ls ≡ ls
unfolding add_front
front-none ls = refl

front-end : (b : ℕ) (l : List ℕ) → add_front (b ∷ l) [] ≡ (b ∷ l) ∷ []
unfolding add_front on_first
front-end b [] = refl
front-end b (c ∷ l) = ap (on_first b) (front-end c l)

front-line : (l h : List ℕ) (t : List (List ℕ)) → add_front l (h ∷ t) ≡ (l ++ h) ∷ t
unfolding add_front on_first
front-line [] h t = refl
front-line (b ∷ l) h t = ap (on_first b) (front-line l h t)

front-more : (l : List ℕ) (b : ℕ) (ls : List (List ℕ)) → add_front l (on_first b ls) ≡ add_front (l ++ (b ∷ [])) ls
unfolding add_front
front-more [] b ls = refl
front-more (c ∷ l) b ls = ap (on_first c) (front-more l b ls)

-- ---- one part and the end

-- what is written for the bytes, and then at the end
abbrev fed : Replay → List ℕ → List ℕ
fed r bytes = feed_text r bytes ++ finish_text (feed_next r bytes)

pending-text : (r : Replay) (l : List ℕ) → Keeps r l → line_text r.state (pending r) ≡ line_text r.state l
pending-text r l k = ap (line_text r.state) k.first ∙ first-text r.state l

pending_next : (r : Replay) (l : List ℕ) → Keeps r l → line_next r.state (pending r) ≡ line_next r.state l
pending_next r l k = ap (line_next r.state) k.first ∙ first_next r.state l

last_line : (r : Replay) (l : List ℕ) → Keeps r l → finish_text r ≡ lines_text r.state (add_front l [])
unfolding finish_text lines_text
last_line r [] k =
    let z : r.have ≡ 0 = have-is r [] k in
    rw z (unfold add_front in refl)
last_line r (b ∷ l) k =
    let n : r.have ≡ 0 → ⊥ = λ z. omega (arith, z, have-is r (b ∷ l) k) in
    rw (ne_eqb r.have 0 n, front-end b l) (pending-text r (b ∷ l) k ∙ sym (append-nil (line_text r.state (b ∷ l))))

keep-state : (r : Replay) (b : ℕ) → (keep_byte r b).state ≡ r.state
keep-state r b = go (ltb r.have 14)
  where
    go : (x : Bool) → (cond x (record { state = r.state; line = set r.line r.have b; have = r.have + 1 }) r).state ≡ r.state
    go true = refl
    go false = refl

-- at a line end the line l is run, and then the rest
line_first : (r : Replay) (l bytes : List ℕ) → Keeps r l → fed (run_line r) bytes ≡ lines_text (run_line r).state (lines_in bytes)
    → line_text r.state (pending r) ++ fed (run_line r) bytes ≡ lines_text r.state (add_front l ([] ∷ lines_in bytes))
unfolding lines_text
line_first r l bytes k e =
    ap₂ ◌++◌ (pending-text r l k) (e ∙ ap (λ s. lines_text s (lines_in bytes)) (pending_next r l k))
    ∙ sym (ap (lines_text r.state) (front-line l [] (lines_in bytes) ∙ ap (λ x. x ∷ lines_in bytes) (append-nil l)))

fed-lines : (r : Replay) (l bytes : List ℕ) → Keeps r l → fed r bytes ≡ lines_text r.state (add_front l (lines_in bytes))
unfolding feed_text feed_next byte_text byte_next lines_in
fed-lines r l [] k = last_line r l k
fed-lines r l (b ∷ bs) k =
    append_assoc (byte_text r b) (feed_text (byte_next r b) bs) (finish_text (feed_next (byte_next r b) bs))
    ∙ go (eqb b 10)
    (fed-lines (run_line r) [] bs (keeps-nothing (run_line r) k.size refl) ∙ ap (lines_text (run_line r).state) (front-none (lines_in bs)))
    (fed-lines (keep_byte r b) (l ++ (b ∷ [])) bs (keeps-more r l b k))
  where
    go : (x : Bool) → fed (run_line r) bs ≡ lines_text (run_line r).state (lines_in bs)
        → fed (keep_byte r b) bs ≡ lines_text (keep_byte r b).state (add_front (l ++ (b ∷ [])) (lines_in bs))
        → cond x (line_text r.state (pending r)) [] ++ fed (cond x (run_line r) (keep_byte r b)) bs
        ≡ lines_text r.state (add_front l (cond x ([] ∷ lines_in bs) (on_first b (lines_in bs))))
    go true e f = line_first r l bs k e
    go false e f =
        f ∙ ap (λ s. lines_text s (add_front (l ++ (b ∷ [])) (lines_in bs))) (keep-state r b)
        ∙ sym (ap (lines_text r.state) (front-more l b (lines_in bs)))

-- ---- any parts

parts-fed : (r : Replay) (parts : List (List ℕ)) → written_for r parts ≡ fed r (joined parts)
unfolding written_for joined feed_text feed_next
parts-fed r [] = refl
parts-fed r (p ∷ ps) =
    ap (λ x. feed_text r p ++ x) (parts-fed (feed_next r p) ps)
    ∙ sym (append_assoc (feed_text r p) (feed_text (feed_next r p) (joined ps)) (finish_text (feed_next (feed_next r p) (joined ps))))
    ∙ sym (ap₂ (λ x y. x ++ finish_text y) (text-append r p (joined ps)) (next-append r p (joined ps)))

pub any-parts : AnyParts
unfolding script_report add_front
any-parts parts =
    ap (λ x. report_header ++ x) (parts-fed fresh_replay parts ∙ fed-lines fresh_replay [] (joined parts) (keeps-nothing fresh_replay refl refl))
