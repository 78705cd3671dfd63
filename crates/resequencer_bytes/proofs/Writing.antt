-- Writing a state to its bytes part by part: the first 18 bytes and the tickets.
-- Assumes nothing.
use mathlib.Core.Path.{◌≡◌, refl, sym, ap, ap₂, ◌∙◌, subst}
use mathlib.Core.Bool.{Bool, true, false, cond}
use mathlib.Core.List.{List, [], ◌∷◌, ◌++◌, append_assoc}
use Prim.Native.Nat.{ℕ, zero, suc, ◌+◌, ◌*◌, ◌%◌, ◌^◌, ◌≤◌, ◌<◌}
use native.Mathlib.Omega.{arith}
use lib.Dec.{ltb, lit<}
use lib.ListN.{length, get_or, set, take, drop, length-append, length-drop, take-append-drop}
use lib.Seq.{take_at, drop_at, length-take-le, paste, paste-zero}
use Rattle.little.specs.Little.{little_of, little_bytes, little_list, list_bytes}
use Rattle.little.specs.Law.{Below}
use Rattle.little.proofs.Little.{length-list, list-read-back, list-written-back, below-take, below-drop}
use Rattle.little.proofs.Words.{little-lt}
use Rattle.little.proofs.Places.{list_at, paste_more, paste-behind, paste-number}
use Rattle.resequencer.specs.declared.Resequencer.{Resequencer}
use Rattle.resequencer.specs.declared.Numbers.{Numbers}
use Rattle.resequencer.specs.Numbers.{numbers_of}
use Rattle.resequencer.specs.Parts.{tickets_left}
use Rattle.resequencer.proofs.Passing.{left-none, left-more, left-next, left-same}
use Rattle.lists.proofs.Lists.{length_from, from_at}
use Rattle.sequence.specs.Modular.{distance}
use Rattle.resequencer_bytes.specs.Stored.{state_bytes}
use Rattle.resequencer_bytes.specs.Parts.{tickets_in, numbers_bytes, with_numbers, with_tickets}

-- ---- the first 18 bytes: NESN, HSNR, the held set and the clock set

numbers-length : (m : Numbers) → length (numbers_bytes m) ≡ 18
unfolding numbers_bytes little_bytes
numbers-length m = refl

with-numbers-length : (b : List ℕ) (m : Numbers) → length b ≡ 146 → length (with_numbers b m) ≡ 146
unfolding with_numbers
with-numbers-length b m l = omega (arith, length-append (numbers_bytes m) (drop 18 b), numbers-length m, length-drop 18 b)

-- after n bytes of s, write m more bytes: t agrees there with s
part : (b x y s t : List ℕ) (n m : ℕ) → n ≤ length s → x ≡ paste b 0 s n → y ≡ paste x n t m → take m t ≡ take m (drop n s) → y ≡ paste b 0 s (n + m)
part b x y s t n m h e q r =
    let z : n ≡ 0 + n = omega arith in
    q ∙ ap₂ (λ (l : List ℕ) (k : ℕ). paste l k t m) e z ∙ paste_more b s t 0 n m (omega arith) h r

byte : (x : ℕ) → x < 256 → little_bytes 1 x ≡ x ∷ []
unfolding little_bytes
byte x h =
    let e : x % 256 ≡ x = omega arith in
    ap (λ (y : ℕ). y ∷ []) e

-- the four fields written one after the other
pub numbers-put : (m : Numbers) (b b1 b2 b3 b4 : List ℕ) → length b ≡ 146 → m.nesn.0 < 256 → m.hsnr.0 < 256
    → b1 ≡ paste b 0 (little_bytes 1 m.nesn.0) 1
    → b2 ≡ paste b1 1 (little_bytes 1 m.hsnr.0) 1
    → b3 ≡ paste b2 2 (little_bytes 8 m.held) 8
    → b4 ≡ paste b3 10 (little_bytes 8 m.clocks) 8
    → b4 ≡ with_numbers b m
unfolding with_numbers numbers_bytes little_bytes
numbers-put m b b1 b2 b3 b4 l n h e1 e2 e3 e4 =
    let w : List ℕ = with_numbers b m in
    let lw : length (with_numbers b m) ≡ 146 = with-numbers-length b m l in
    let p0 = paste-zero b 0 w in
    let p1 = part b b b1 w (little_bytes 1 m.nesn.0) 0 1 (omega arith) p0 e1 (byte m.nesn.0 n) in
    let p2 = part b b1 b2 w (little_bytes 1 m.hsnr.0) 1 1 (omega arith) p1 e2 (byte m.hsnr.0 h) in
    let p3 = part b b2 b3 w (little_bytes 8 m.held) 2 8 (omega arith) p2 e3 refl in
    part b b3 b4 w (little_bytes 8 m.clocks) 10 8 (omega arith) p3 e4 refl

-- ---- the tickets

module _ (b ts : List ℕ) (l : length b ≡ 146) where
  front : length (take 18 b) ≡ 18
  front = length-take-le 18 b (omega arith)

  tickets-drop : drop 18 (with_tickets b ts) ≡ list_bytes 2 ts
  unfolding with_tickets
  tickets-drop = drop_at (take 18 b) (list_bytes 2 ts) 18 front

  -- replacing the tickets twice
  over-tickets-by : (us : List ℕ) → with_tickets (with_tickets b ts) us ≡ with_tickets b us
  unfolding with_tickets
  over-tickets-by us = ap (λ (p : List ℕ). p ++ list_bytes 2 us) (take_at (take 18 b) (list_bytes 2 ts) 18 front)

  -- writing the ticket of number k
  pub ticket-put : (k x : ℕ) → k < length ts → paste (with_tickets b ts) (18 + 2 * k) (little_bytes 2 x) 2 ≡ with_tickets b (set ts k x)
  unfolding with_tickets
  ticket-put k x h =
      let e : 18 + 2 * k ≡ length (take 18 b) + k * 2 = omega (arith, front) in
      ap (λ (n : ℕ). paste (take 18 b ++ list_bytes 2 ts) n (little_bytes 2 x) 2) e
      ∙ paste-behind (take 18 b) (list_bytes 2 ts) (little_bytes 2 x) (k * 2) 2
      ∙ ap (λ (r : List ℕ). take 18 b ++ r) (paste-number 2 ts k x h)

module _ (b : List ℕ) (l : length b ≡ 146) (low : Below 256 b) where
  pub tickets-same : b ≡ with_tickets b (tickets_in (drop 18 b))
  unfolding with_tickets
  tickets-same =
      sym (ap (λ (r : List ℕ). take 18 b ++ r) (list-written-back 2 64 (drop 18 b) (omega (arith, length-drop 18 b)) (below-drop 256 18 b low)) ∙ take-append-drop 18 b)

  -- writing the ticket of number n to the bytes
  pub ticket-written : (n x : ℕ) (y : List ℕ) → n < 64 → y ≡ paste b (18 + 2 * n) (little_bytes 2 x) 2 → y ≡ with_tickets b (set (tickets_in (drop 18 b)) n x)
  ticket-written n x y h e =
      e ∙ ap (λ (q : List ℕ). paste q (18 + 2 * n) (little_bytes 2 x) 2) tickets-same
      ∙ ticket-put b (tickets_in (drop 18 b)) l n x (omega (arith, length-list 2 64 (drop 18 b)))

  -- the tickets during the loop that hands on: 0 for the i numbers passed so far
  abbrev left : ℕ → ℕ → List ℕ
  left nesn i = tickets_left (tickets_in (drop 18 b)) nesn i

  left-long : (nesn i : ℕ) → length (left nesn i) ≡ 64
  unfolding tickets_left
  left-long nesn i = length_from 0 64 _

  left-fits : (nesn i : ℕ) → Below (256 ^ 2) (left nesn i)
  unfolding tickets_left
  left-fits nesn i n h =
      let k : n < 64 = omega (arith, left-long nesn i) in
      subst (λ (x : ℕ). x < 256 ^ 2) (sym (from_at 64 _ n k)) (either (ltb (distance 64 nesn n) i) (ticket-fits n k))
    where
      ticket-fits : (j : ℕ) → j < 64 → get_or (tickets_in (drop 18 b)) j 0 < 256 ^ 2
      ticket-fits j k =
          let d : List ℕ = drop (j * 2) (drop 18 b) in
          let e : length (take 2 d) ≡ 2 = length-take-le 2 d (omega (arith, length-drop (j * 2) (drop 18 b), length-drop 18 b)) in
          subst (λ (x : ℕ). x < 256 ^ 2) (sym (list_at 2 64 (drop 18 b) j k))
          (subst (λ (x : ℕ). little_of (take 2 d) < 2 ^ (8 * x)) e
          (little-lt (take 2 d) (below-take 256 2 d (omega (arith, length-drop (j * 2) (drop 18 b), length-drop 18 b)) (below-drop 256 (j * 2) (drop 18 b) (below-drop 256 18 b low)))))

      either : (t : Bool) {x : ℕ} → x < 256 ^ 2 → cond t 0 x < 256 ^ 2
      either true h = lit< tt
      either false h = h

  left-read : (nesn i : ℕ) (state : List ℕ) → state ≡ with_tickets b (left nesn i) → tickets_in (drop 18 state) ≡ left nesn i
  left-read nesn i state e =
      ap (λ (x : List ℕ). tickets_in (drop 18 x)) e
      ∙ ap tickets_in (tickets-drop b (left nesn i) l)
      ∙ ap (λ (n : ℕ). little_list 2 n (list_bytes 2 (left nesn i))) (sym (left-long nesn i))
      ∙ list-read-back 2 (left nesn i) (left-fits nesn i)

  pub left-starts : (nesn d : ℕ) → d ≤ 1 → nesn < 64 → get_or (tickets_in (drop 18 b)) nesn 0 ≡ 0 → b ≡ with_tickets b (left nesn d)
  left-starts nesn d h n z = tickets-same ∙ ap (with_tickets b) (go d h)
    where
      none : tickets_in (drop 18 b) ≡ left nesn 0
      none = left-none nesn (tickets_in (drop 18 b)) 0 (length-list 2 64 (drop 18 b)) refl

      go : (k : ℕ) → k ≤ 1 → tickets_in (drop 18 b) ≡ left nesn k
      go zero h = none
      go (suc zero) h =
          let m : (nesn + 0) % 64 ≡ nesn = omega arith in
          none ∙ left-same nesn (tickets_in (drop 18 b)) 0 (lit< tt) (ap (λ (x : ℕ). get_or (tickets_in (drop 18 b)) x 0) m ∙ z)
      go (suc (suc k)) h = absurd (omega arith)

  module _ (nesn i number : ℕ) (state : List ℕ) (h : i < 64) (q : number ≡ (nesn + i) % 64) (e : state ≡ with_tickets b (left nesn i)) where
    pub left-ticket : (r : ℕ) → r ≡ get_or (tickets_in (drop 18 state)) number 0 → r ≡ get_or (tickets_in (drop 18 b)) number 0
    left-ticket r p =
        p ∙ ap₂ (λ (x : List ℕ) (n : ℕ). get_or x n 0) (left-read nesn i state e) q
        ∙ left-next nesn (tickets_in (drop 18 b)) i h
        ∙ ap (λ (n : ℕ). get_or (tickets_in (drop 18 b)) n 0) (sym q)

    pub left-taken : (x : List ℕ) → x ≡ with_tickets state (set (tickets_in (drop 18 state)) number 0) → x ≡ with_tickets b (left nesn (i + 1))
    left-taken x p =
        p ∙ ap (λ (s : List ℕ). with_tickets s (set (tickets_in (drop 18 state)) number 0)) e
        ∙ over-tickets-by b (left nesn i) l (set (tickets_in (drop 18 state)) number 0)
        ∙ ap (with_tickets b) (ap (λ (s : List ℕ). set s number 0) (left-read nesn i state e) ∙ left-more nesn (tickets_in (drop 18 b)) (left nesn i) i number h refl q)

-- ---- the whole state

-- replacing the tickets and the first 18 bytes by those of s gives the bytes of s
pub state-made : (b x : List ℕ) (s : Resequencer) → length b ≡ 146 → x ≡ with_tickets b s.tickets → with_numbers x (numbers_of s) ≡ state_bytes s
unfolding with_numbers numbers_bytes state_bytes
state-made b x s l e =
    ap (λ (r : List ℕ). numbers_bytes (numbers_of s) ++ r) (ap (drop 18) e ∙ tickets-drop b s.tickets l)
    ∙ ap (λ (r : List ℕ). s.nesn.0 ∷ s.hsnr.0 ∷ r) (append_assoc (little_bytes 8 s.held) (little_bytes 8 s.clocks) (list_bytes 2 s.tickets))
