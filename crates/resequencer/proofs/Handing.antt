-- The loop that writes the tickets handed on into the places of an answer, one held number after
-- another.
-- Assumes nothing.
use mathlib.Core.Path.{◌≡◌, refl, sym, ap, ◌∙◌, subst}
use mathlib.Core.Bool.{Bool, true, false, cond}
use mathlib.Core.List.{List, [], ◌∷◌, ◌++◌, append_assoc, append-nil}
use Prim.Native.Nat.{ℕ, zero, suc, ◌+◌, ◌-◌, ◌%◌, ◌≤◌, ◌<◌}
use native.Mathlib.Nat.{add-zero}
use native.Mathlib.Numerals.{add-one}
use native.Mathlib.Omega.{arith}
use lib.ListN.{length, get_or, set, replicate, length-append}
use lib.Seq.{set_at}
use Rattle.wordset.specs.Sets.{member, lowest, without_lowest, stretch}
use Rattle.wordset.proofs.Walks.{Walked, Turned, walk-starts, walk-next, walk_ends}
use Rattle.resequencer.specs.declared.Resequencer.{Resequencer}
use Rattle.resequencer.specs.State.{number_at}
use Rattle.resequencer.specs.Events.{places, held_tickets}
use Rattle.resequencer.specs.Parts.{arrived_tickets, held_tickets_from}

-- ---- `held_tickets_from`: the tickets of the held numbers among the m starting at `start`

abbrev ticket_if : ℕ → List ℕ → ℕ → List ℕ
ticket_if held tickets n = cond (member held n) (get_or tickets n 0 ∷ []) []

pub held-from : (s : Resequencer) (d m : ℕ) → held_tickets_from s.held s.tickets (s.nesn.0 + d) m ≡ held_tickets s d m
unfolding held_tickets_from held_tickets
held-from s d zero = refl
held-from s d (suc m) =
    let e : suc (s.nesn.0 + d) ≡ s.nesn.0 + suc d = omega arith in
    ap (λ (l : List ℕ). ticket_if s.held s.tickets (number_at s d) ++ l)
    (ap (λ (n : ℕ). held_tickets_from s.held s.tickets n m) e ∙ held-from s (suc d) m)

module _ (held : ℕ) (tickets : List ℕ) where
  one_more : (start m : ℕ) → held_tickets_from held tickets start (suc m) ≡ held_tickets_from held tickets start m ++ ticket_if held tickets ((start + m) % 64)
  unfolding held_tickets_from
  one_more start zero =
      append-nil (ticket_if held tickets (start % 64)) ∙ ap (λ (n : ℕ). ticket_if held tickets (n % 64)) (sym (add-zero start))
  one_more start (suc m) =
      let e : suc start + m ≡ start + suc m = omega arith in
      ap (λ (l : List ℕ). ticket_if held tickets (start % 64) ++ l)
      (one_more (suc start) m ∙ ap (λ (n : ℕ). held_tickets_from held tickets (suc start) m ++ ticket_if held tickets (n % 64)) e)
      ∙ sym (append_assoc (ticket_if held tickets (start % 64)) (held_tickets_from held tickets (suc start) m) (ticket_if held tickets ((start + suc m) % 64)))

  -- ---- a turn of the loop, after the tickets xs

  module _ (xs : List ℕ) (start i : ℕ) where
    turned : xs ++ held_tickets_from held tickets start (i + 1) ≡ (xs ++ held_tickets_from held tickets start i) ++ ticket_if held tickets ((start + i) % 64)
    turned =
        ap (λ (n : ℕ). xs ++ held_tickets_from held tickets start n) (add-one i)
        ∙ ap (λ (l : List ℕ). xs ++ l) (one_more start i)
        ∙ sym (append_assoc xs (held_tickets_from held tickets start i) (ticket_if held tickets ((start + i) % 64)))

    turned-held : member held ((start + i) % 64) ≡ true
        → xs ++ held_tickets_from held tickets start (i + 1) ≡ (xs ++ held_tickets_from held tickets start i) ++ (get_or tickets ((start + i) % 64) 0 ∷ [])
    turned-held h =
        turned
        ∙ ap (λ (b : Bool). (xs ++ held_tickets_from held tickets start i) ++ cond b (get_or tickets ((start + i) % 64) 0 ∷ []) []) h

    turned-not : member held ((start + i) % 64) ≡ false → xs ++ held_tickets_from held tickets start (i + 1) ≡ xs ++ held_tickets_from held tickets start i
    turned-not h =
        turned
        ∙ ap (λ (b : Bool). (xs ++ held_tickets_from held tickets start i) ++ cond b (get_or tickets ((start + i) % 64) 0 ∷ []) []) h
        ∙ append-nil (xs ++ held_tickets_from held tickets start i)

-- ---- the places of an answer

places-more : (xs : List ℕ) (n a : ℕ) → n ≡ length xs → n < 32 → set (places xs) n a ≡ places (xs ++ (a ∷ []))
unfolding places
places-more xs n a e h =
    let i : 32 - length xs ≡ suc (31 - length xs) = omega arith in
    let j : 31 - length xs ≡ 32 - length (xs ++ (a ∷ [])) = omega (arith, length-append xs (a ∷ [])) in
    ap (λ (m : ℕ). set (xs ++ replicate m 0) n a) i
    ∙ set_at xs 0 (replicate (31 - length xs) 0) a n (sym e)
    ∙ sym (append_assoc xs (a ∷ []) (replicate (31 - length xs) 0))
    ∙ ap (λ (m : ℕ). (xs ++ (a ∷ [])) ++ replicate m 0) j

-- the count and the places after i numbers, where xs are the tickets written before the loop
pub record Gathered (held : ℕ) (tickets xs : List ℕ) (start i count : ℕ) (out : List ℕ) : Type 0 where
  pub counted : count ≡ length (xs ++ held_tickets_from held tickets start i)
  pub placed : out ≡ places (xs ++ held_tickets_from held tickets start i)

gathered-first : (held : ℕ) (tickets : List ℕ) (start d ticket : ℕ) → d ≤ 1 → (d ≡ 0 → ticket ≡ 0)
    → Gathered held tickets (arrived_tickets d ticket) start 0 d (set (replicate 32 0) 0 ticket)
unfolding held_tickets_from places
gathered-first held tickets start zero ticket h f = record { counted = refl; placed = ap (λ (t : ℕ). set (replicate 32 0) 0 t) (f refl) }
gathered-first held tickets start (suc zero) ticket h f = record { counted = refl; placed = refl }
gathered-first held tickets start (suc (suc d)) ticket h f = absurd (omega arith)

gathered-held : (held : ℕ) (tickets xs : List ℕ) (start i count count' : ℕ) (out out' : List ℕ) → Gathered held tickets xs start i count out
    → member held ((start + i) % 64) ≡ true → count < 32 → count' ≡ count + 1 → out' ≡ set out count (get_or tickets ((start + i) % 64) 0)
    → Gathered held tickets xs start (i + 1) count' out'
gathered-held held tickets xs start i count count' out out' g m l p q =
    let u = turned-held held tickets xs start i m in
    let a = get_or tickets ((start + i) % 64) 0 in
    let ys = xs ++ held_tickets_from held tickets start i in
    record {
      counted = p ∙ ap (λ (n : ℕ). n + 1) g.counted ∙ sym (ap length u ∙ length-append ys (a ∷ []));
      placed = q ∙ ap (λ (o : List ℕ). set o count a) g.placed ∙ places-more ys count a g.counted l ∙ ap places (sym u);
    }

gathered-not : (held : ℕ) (tickets xs : List ℕ) (start i count : ℕ) (out : List ℕ) → Gathered held tickets xs start i count out
    → member held ((start + i) % 64) ≡ false → Gathered held tickets xs start (i + 1) count out
gathered-not held tickets xs start i count out g m =
    let u = turned-not held tickets xs start i m in
    record { counted = g.counted ∙ ap length (sym u); placed = g.placed ∙ ap places (sym u) }

-- numbers that are not held, one after the other
gathered-past : (held : ℕ) (tickets xs : List ℕ) (start i n count : ℕ) (out : List ℕ) → i ≤ n → ((j : ℕ) → i ≤ j → j < n → member held ((start + j) % 64) ≡ false)
    → Gathered held tickets xs start i count out → Gathered held tickets xs start n count out
gathered-past held tickets xs start i n count out h f g = subst to (omega arith) (go (n - i) (omega arith))
  where
    to : ℕ → Type 0
    to m = Gathered held tickets xs start m count out

    go : (t : ℕ) → i + t ≤ n → Gathered held tickets xs start (i + t) count out
    go zero l = subst to (omega arith) g
    go (suc t) l = subst to (omega arith) (gathered-not held tickets xs start (i + t) count out (go t (omega arith)) (f (i + t) (omega arith) (omega arith)))

-- ---- the walk over the held numbers among the m starting at `start`

-- the loop invariant: `at` numbers are passed, `left` has the distances of the held ones that are
-- not, and after xs the tickets of the held ones that are passed are written
pub record Handed (held : ℕ) (tickets xs : List ℕ) (start d m left at count : ℕ) (out : List ℕ) : Type 0 where
  pub few : count ≤ d + at
  pub walked : Walked 64 held start m left at
  pub gathered : Gathered held tickets xs start at count out

pub handed-first : (held : ℕ) (tickets : List ℕ) (start d ticket m left : ℕ) (out : List ℕ) → d ≤ 1 → (d ≡ 0 → ticket ≡ 0) → left ≡ stretch 64 held start m
    → out ≡ replicate 32 0 → Handed held tickets (arrived_tickets d ticket) start d m left 0 d (set out 0 ticket)
handed-first held tickets start d ticket m left out h f e o = record {
  few = omega arith;
  walked = subst (λ (w : ℕ). Walked 64 held start m w 0) (sym e) (walk-starts 64 held start m);
  gathered = subst (λ (l : List ℕ). Gathered held tickets (arrived_tickets d ticket) start 0 d (set l 0 ticket)) (sym o) (gathered-first held tickets start d ticket h f);
}

module _ (held : ℕ) (tickets xs : List ℕ) (start d m left at count : ℕ) (out : List ℕ) (v : Handed held tickets xs start d m left at count out) where
  pub handed-turn : 0 < left → Turned 64 held start m left at (lowest 64 left)
  handed-turn p = walk-next 64 held start m left at v.walked p

  -- there is a place left while a number is
  pub handed-place : d + m ≤ 32 → 0 < left → count < 32
  handed-place h p = let t = handed-turn p in omega (arith, v.few, t.low, t.in-stretch)

  pub handed-next : (left' count' z : ℕ) (out' : List ℕ) → d + m ≤ 32 → 0 < left → z ≡ lowest 64 left → left' ≡ without_lowest 64 left → count' ≡ count + 1
      → out' ≡ set out count (get_or tickets ((start + z) % 64) 0) → Handed held tickets xs start d m left' (lowest 64 left + 1) count' out'
  handed-next left' count' z out' h p e l c o =
      let t = handed-turn p in
      record {
        few = omega (arith, v.few, t.low);
        walked = subst (λ (w : ℕ). Walked 64 held start m w (lowest 64 left + 1)) (sym l) t.walked;
        gathered =
            gathered-held held tickets xs start (lowest 64 left) count count' out out'
            (gathered-past held tickets xs start at (lowest 64 left) count out t.low t.none_before v.gathered)
            t.found (handed-place h p) c (o ∙ ap (λ (n : ℕ). set out count (get_or tickets ((start + n) % 64) 0)) e);
      }

  pub handed-end : m ≤ 64 → left ≡ 0 → (count ≡ length (xs ++ held_tickets_from held tickets start m)) × (out ≡ places (xs ++ held_tickets_from held tickets start m))
  handed-end h z =
      let g = gathered-past held tickets xs start at m count out v.walked.most (walk_ends 64 held start m left at h v.walked z) v.gathered in
      (g.counted, g.placed)
