-- A state by distance from NESN: what is held, has a clock and has which ticket at each distance,
-- and how this changes when a number is held and when NESN goes up.
-- Assumes nothing.
use mathlib.Core.Path.{◌≡◌, refl, sym, ap, ◌∙◌}
use mathlib.Core.Bool.{Bool, true, false, not, cond, ◌&&◌, ◌||◌, and-true, and-false}
use Prim.Native.Nat.{ℕ, ◌+◌, ◌-◌, ◌%◌, ◌≤◌, ◌<◌}
use native.Mathlib.Nat.{mod-add-mod, add-mod_right}
use native.Mathlib.Omega.{arith}
use lib.Dec.{eqb, ltb, lit<}
use lib.ListN.{length}
use borrow.Author.Tests.{eq-eqb, ne_eqb, lt-ltb, le-ltb, eqb-true, eqb-false}
use Rattle.sequence.proofs.Modular.{distance-lt}
use Rattle.wordset.specs.Sets.{member}
use Rattle.wordset.proofs.Sets.{member-set_of}
use Rattle.resequencer.specs.declared.Resequencer.{Resequencer}
use Rattle.resequencer.specs.State.{is_held, has_clock, ticket_of, ahead, number_at}
use Rattle.resequencer.proofs.Order.{number_lt, ahead-at, number-ahead}
use Rattle.lists.proofs.Lists.{length_from, get_d-from}
use Rattle.resequencer.specs.Events.{is_passed, remaining, advance, hold}

abbrev pub held_at : Resequencer → ℕ → Bool
held_at s d = is_held s (number_at s d)

abbrev pub clock_at : Resequencer → ℕ → Bool
clock_at s d = has_clock s (number_at s d)

abbrev pub ticket_at : Resequencer → ℕ → ℕ
ticket_at s d = ticket_of s (number_at s d)

-- ---- numbers and distances

pub ahead-lt : (s : Resequencer) (n : ℕ) → ahead s n < 64
ahead-lt s n = distance-lt 64 (lit< tt) s.nesn.0 n

-- two numbers are equal exactly if their distances are
pub same_number : (s : Resequencer) (d n : ℕ) → d < 64 → n < 64 → eqb (number_at s d) n ≡ eqb d (ahead s n)
same_number s d n h l = go (eqb d (ahead s n)) refl
  where
    go : (t : Bool) → eqb d (ahead s n) ≡ t → eqb (number_at s d) n ≡ t
    go true e = eq-eqb (number_at s d) n (ap (number_at s) (eqb-true d (ahead s n) e) ∙ number-ahead s n l)
    go false e = ne_eqb (number_at s d) n (λ q. eqb-false d (ahead s n) e (sym (ahead-at s d h) ∙ ap (ahead s) q))

-- ---- after a number is held

pub held-after-hold : (s : Resequencer) (n ticket d : ℕ) → n < 64 → d < 64 → held_at (hold s n ticket) d ≡ (held_at s d || eqb d (ahead s n))
unfolding hold
held-after-hold s n ticket d l h =
    member-set_of 64 (λ j. member s.held j || eqb j n) (number_at s d) (number_lt s d)
    ∙ ap (λ (b : Bool). held_at s d || b) (same_number s d n h l)

-- ---- after NESN has gone up by m

-- the number at distance d afterwards is the one at distance m + d before
pub number-then : (s : Resequencer) (m d : ℕ) → number_at (advance s m) d ≡ number_at s (m + d)
unfolding advance
number-then s m d = mod-add-mod (s.nesn.0 + m) 64 d ∙ ap (λ (x : ℕ). x % 64) (omega arith)

-- a number at distance m or more is not passed
passed-near : (s : Resequencer) (m d : ℕ) → m + d < 64 → is_passed s m (number_at s (m + d)) ≡ false
passed-near s m d h = ap (λ (x : ℕ). ltb x m) (ahead-at s (m + d) h) ∙ le-ltb (m + d) m (omega arith)

-- a distance that wraps to one below m is a number passed
passed-far : (s : Resequencer) (m d : ℕ) → d < 64 → 64 ≤ m + d → m ≤ 64 → is_passed s m (number_at s (m + d)) ≡ true
passed-far s m d h l g =
    let r : number_at s (m + d) ≡ number_at s (m + d - 64) = ap (λ (x : ℕ). x % 64) (omega arith) ∙ add-mod_right (s.nesn.0 + (m + d - 64)) 64 in
    ap (is_passed s m) r ∙ ap (λ (x : ℕ). ltb x m) (ahead-at s (m + d - 64) (omega arith)) ∙ lt-ltb (m + d - 64) m (omega arith)

pub remaining-member : (s : Resequencer) (m w n : ℕ) → n < 64 → member (remaining s m w) n ≡ (member w n && not (is_passed s m n))
unfolding remaining
remaining-member s m w n h = member-set_of 64 (λ j. member w j && not (is_passed s m j)) n h

remaining-near : (s : Resequencer) (m w d : ℕ) → m + d < 64 → member (remaining s m w) (number_at s (m + d)) ≡ member w (number_at s (m + d))
remaining-near s m w d h =
    let n : ℕ = number_at s (m + d) in
    remaining-member s m w n (number_lt s (m + d)) ∙ ap (λ (b : Bool). member w n && not b) (passed-near s m d h) ∙ and-true (member w n)

remaining-far : (s : Resequencer) (m w d : ℕ) → d < 64 → 64 ≤ m + d → m ≤ 64 → member (remaining s m w) (number_at s (m + d)) ≡ false
remaining-far s m w d h l g =
    let n : ℕ = number_at s (m + d) in
    remaining-member s m w n (number_lt s (m + d)) ∙ ap (λ (b : Bool). member w n && not b) (passed-far s m d h l g) ∙ and-false (member w n)

-- the tickets of the numbers passed become 0
pub tickets-length : (s : Resequencer) (m : ℕ) → length (advance s m).tickets ≡ 64
unfolding advance
tickets-length s m = length_from 0 64 (λ n. cond (is_passed s m n) 0 (ticket_of s n))

ticket-then : (s : Resequencer) (m n : ℕ) → n < 64 → ticket_of (advance s m) n ≡ cond (is_passed s m n) 0 (ticket_of s n)
unfolding advance
ticket-then s m n h = get_d-from 0 64 (λ n. cond (is_passed s m n) 0 (ticket_of s n)) n h ∙ ap (λ (n : ℕ). cond (is_passed s m n) 0 (ticket_of s n)) (omega arith)

-- ---- the state by distance from the new NESN: near where m + d does not wrap, far where it does

module _ (s : Resequencer) (m : ℕ) where
  held_then : (d : ℕ) → held_at (advance s m) d ≡ member (remaining s m s.held) (number_at s (m + d))
  unfolding advance
  held_then d = ap (member (remaining s m s.held)) (number-then s m d)

  pub held-near : (d : ℕ) → m + d < 64 → held_at (advance s m) d ≡ held_at s (m + d)
  held-near d h = held_then d ∙ remaining-near s m s.held d h

  clock-then : (d : ℕ) → clock_at (advance s m) d ≡ member (remaining s m s.clocks) (number_at s (m + d))
  unfolding advance
  clock-then d = ap (member (remaining s m s.clocks)) (number-then s m d)

  pub clock-near : (d : ℕ) → m + d < 64 → clock_at (advance s m) d ≡ clock_at s (m + d)
  clock-near d h = clock-then d ∙ remaining-near s m s.clocks d h

  ticket-from : (d : ℕ) (b : Bool) → is_passed s m (number_at s (m + d)) ≡ b → ticket_at (advance s m) d ≡ cond b 0 (ticket_at s (m + d))
  ticket-from d b e =
      ap (ticket_of (advance s m)) (number-then s m d) ∙ ticket-then s m (number_at s (m + d)) (number_lt s (m + d))
      ∙ ap (λ (x : Bool). cond x 0 (ticket_at s (m + d))) e

  pub ticket-near : (d : ℕ) → m + d < 64 → ticket_at (advance s m) d ≡ ticket_at s (m + d)
  ticket-near d h = ticket-from d false (passed-near s m d h)

  module _ (g : m ≤ 64) where
    pub held-far : (d : ℕ) → d < 64 → 64 ≤ m + d → held_at (advance s m) d ≡ false
    held-far d h l = held_then d ∙ remaining-far s m s.held d h l g

    pub clock-far : (d : ℕ) → d < 64 → 64 ≤ m + d → clock_at (advance s m) d ≡ false
    clock-far d h l = clock-then d ∙ remaining-far s m s.clocks d h l g

    pub ticket-far : (d : ℕ) → d < 64 → 64 ≤ m + d → ticket_at (advance s m) d ≡ 0
    ticket-far d h l = ticket-from d true (passed-far s m d h l g)
