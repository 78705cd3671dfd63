-- The numbers that NESN passes: their mask, and what is left of the sets and of the tickets.
-- Assumes nothing.
use mathlib.Core.Path.{◌≡◌, refl, sym, ap, ap₂, ◌∙◌}
use mathlib.Core.Bool.{Bool, not, cond, ◌&&◌}
use mathlib.Core.List.{List}
use mathlib.Core.Logic.{◌≢◌}
use Prim.Native.Nat.{ℕ, zero, suc, ◌+◌, ◌-◌, ◌*◌, ◌%◌, ◌^◌, ◌≤◌, ◌<◌}
use native.Mathlib.Nat.{mod-lt}
use native.Mathlib.Decide.{dec_lt}
use native.Mathlib.Omega.{arith}
use lib.Dec.{ltb, lit<}
use lib.ListN.{length, get_or, set, length-set}
use lib.Seq.{get_or-set_same, get_or-set_other, set-get_or}
use borrow.Author.Tests.{lt-ltb, le-ltb}
use Rattle.lists.specs.Lists.{list_from}
use Rattle.lists.proofs.Lists.{length_from, get_d-from, is-from, from_at}
use Rattle.sequence.specs.declared.LinkNumber.{LinkNumber}
use Rattle.sequence.specs.Modular.{distance}
use Rattle.sequence.specs.Numbers.{link}
use Rattle.sequence.proofs.Modular.{distance-at, at-distance}
use Rattle.wordset.specs.Sets.{member, set_of, difference, rotate}
use Rattle.wordset.proofs.Sets.{set_of-same, member-set_of}
use Rattle.wordset.proofs.Words.{mask}
use Rattle.wordset.proofs.Masks.{member-ones}
use Rattle.resequencer.specs.declared.Resequencer.{Resequencer}
use Rattle.resequencer.specs.Events.{is_passed, remaining, advance}
use Rattle.resequencer.specs.Parts.{passed_numbers, tickets_left, hsnr_left}

-- ---- the mask

pub ones-passed : (nesn m : ℕ) → nesn < 64 → m < 64 → rotate 64 (1 * 2 ^ m % 2 ^ 64 - 1) (64 - nesn) ≡ passed_numbers nesn m
unfolding passed_numbers distance
ones-passed nesn m h l =
    ap (λ (w : ℕ). rotate 64 (w - 1) (64 - nesn)) (mask 64 m l)
    ∙ set_of-same 64 (λ j. member (2 ^ m - 1) ((64 - nesn + j) % 64)) _ (λ j b.
    member-ones m ((64 - nesn + j) % 64) ∙ ap (λ (x : ℕ). ltb x m) (turn j))
  where
    turn : (j : ℕ) → (64 - nesn + j) % 64 ≡ (j + (64 - nesn % 64)) % 64
    turn j = omega arith

pub difference-remaining : (s : Resequencer) (m w : ℕ) → difference 64 w (passed_numbers s.nesn.0 m) ≡ remaining s m w
unfolding remaining passed_numbers
difference-remaining s m w =
    set_of-same 64 (λ j. member w j && not (member (set_of 64 (is_passed s m)) j)) (λ j. member w j && not (is_passed s m j)) (λ j l.
    ap (λ (b : Bool). member w j && not b) (member-set_of 64 (is_passed s m) j l))

-- ---- the tickets left

module _ (nesn : ℕ) where
  left : List ℕ → ℕ → ℕ → ℕ
  left tickets m n = cond (ltb (distance 64 nesn n) m) 0 (get_or tickets n 0)

  -- no number passed
  pub left-none : (tickets : List ℕ) (m : ℕ) → length tickets ≡ 64 → m ≡ 0 → tickets ≡ tickets_left tickets nesn m
  unfolding tickets_left left
  left-none tickets m e z =
      is-from 64 tickets (left tickets m) e (λ i h. sym (ap (λ (b : Bool). cond b 0 (get_or tickets i 0)) (le-ltb (distance 64 nesn i) m (omega arith))))

  -- one more number passed
  pub left-more : (tickets l : List ℕ) (i at : ℕ) → i < 64 → l ≡ tickets_left tickets nesn i → at ≡ (nesn + i) % 64 → set l at 0 ≡ tickets_left tickets nesn (i + 1)
  unfolding tickets_left left
  left-more tickets l i at h e a =
      ap₂ (λ (x : List ℕ) (y : ℕ). set x y 0) e a
      ∙ is-from 64 (set (list_from 0 64 (left tickets i)) ((nesn + i) % 64) 0) (left tickets (i + 1))
      (length-set (list_from 0 64 (left tickets i)) ((nesn + i) % 64) 0 ∙ length_from 0 64 (left tickets i)) step
    where
      -- a number at another distance is at another index
      other : (n : ℕ) → n < 64 → distance 64 nesn n ≢ i → get_or (set (list_from 0 64 (left tickets i)) ((nesn + i) % 64) 0) n 0 ≡ left tickets i n
      other n b d =
          get_or-set_other (list_from 0 64 (left tickets i)) ((nesn + i) % 64) n 0 0 (λ q. d (ap (distance 64 nesn) q ∙ distance-at 64 (lit< tt) nesn i h))
          ∙ get_d-from 0 64 (left tickets i) n b ∙ ap (left tickets i) (omega arith)

      step : (n : ℕ) → n < 64 → get_or (set (list_from 0 64 (left tickets i)) ((nesn + i) % 64) 0) n 0 ≡ left tickets (i + 1) n
      step n b = elim (dec_lt (distance 64 nesn n) i) [
        | yes c ↦ other n b (omega arith) ∙ ap (λ (x : Bool). cond x 0 (get_or tickets n 0)) (lt-ltb (distance 64 nesn n) i c ∙ sym (lt-ltb (distance 64 nesn n) (i + 1) (omega arith)))
        | no c ↦
            elim (dec_lt i (distance 64 nesn n)) [
              | yes d ↦ other n b (omega arith) ∙ ap (λ (x : Bool). cond x 0 (get_or tickets n 0)) (le-ltb (distance 64 nesn n) i (omega arith) ∙ sym (le-ltb (distance 64 nesn n) (i + 1) (omega arith)))
              | no d ↦
                  let same : distance 64 nesn n ≡ i = omega arith in
                  let place : (nesn + i) % 64 ≡ n = ap (λ (x : ℕ). (nesn + x) % 64) (sym same) ∙ at-distance 64 (lit< tt) nesn n b in
                  ap (λ (x : ℕ). get_or (set (list_from 0 64 (left tickets i)) x 0) n 0) place
                  ∙ get_or-set_same (list_from 0 64 (left tickets i)) n 0 0 (omega (arith, length_from 0 64 (left tickets i)))
                  ∙ ap (λ (x : Bool). cond x 0 (get_or tickets n 0)) (sym (lt-ltb (distance 64 nesn n) (i + 1) (omega arith)))
            ]
      ]

  -- the ticket of the next number is unchanged
  pub left-next : (tickets : List ℕ) (i : ℕ) → i < 64 → get_or (tickets_left tickets nesn i) ((nesn + i) % 64) 0 ≡ get_or tickets ((nesn + i) % 64) 0
  unfolding tickets_left left
  left-next tickets i h =
      let n = (nesn + i) % 64 in
      from_at 64 (left tickets i) n (mod-lt (nesn + i) (lit< tt))
      ∙ ap (λ (b : Bool). cond b 0 (get_or tickets n 0)) (le-ltb (distance 64 nesn n) i (omega (arith, distance-at 64 (lit< tt) nesn i h)))

  -- one more number passed whose ticket is 0 already
  pub left-same : (tickets : List ℕ) (i : ℕ) → i < 64 → get_or tickets ((nesn + i) % 64) 0 ≡ 0 → tickets_left tickets nesn i ≡ tickets_left tickets nesn (i + 1)
  left-same tickets i h z =
      let l = tickets_left tickets nesn i in
      let n = (nesn + i) % 64 in
      sym (set-get_or l n 0) ∙ ap (set l n) (left-next tickets i h ∙ z) ∙ left-more tickets l i n h refl refl

  -- numbers passed, one after the other, whose tickets are 0 already
  pub left-past : (tickets : List ℕ) (i n : ℕ) → i ≤ n → n ≤ 64 → ((j : ℕ) → i ≤ j → j < n → get_or tickets ((nesn + j) % 64) 0 ≡ 0)
      → tickets_left tickets nesn i ≡ tickets_left tickets nesn n
  left-past tickets i n h b f = go (n - i) (omega arith) ∙ ap (tickets_left tickets nesn) (omega arith)
    where
      go : (t : ℕ) → i + t ≤ n → tickets_left tickets nesn i ≡ tickets_left tickets nesn (i + t)
      go zero l = ap (tickets_left tickets nesn) (omega arith)
      go (suc t) l =
          go t (omega arith) ∙ left-same tickets (i + t) (omega arith) (f (i + t) (omega arith) (omega arith))
          ∙ ap (tickets_left tickets nesn) (omega arith)

-- ---- the state after NESN has gone up

pub advanced : (s : Resequencer) (m passed held clocks : ℕ) (hsnr : LinkNumber) (tickets : List ℕ) → passed ≡ passed_numbers s.nesn.0 m
    → held ≡ difference 64 s.held passed → clocks ≡ difference 64 s.clocks passed → hsnr ≡ hsnr_left held s.hsnr → tickets ≡ tickets_left s.tickets s.nesn.0 m
    → ◌≡◌ {A = Resequencer} (record { nesn = link ((s.nesn.0 + m) % 64); hsnr = hsnr; held = held; clocks = clocks; tickets = tickets }) (advance s m)
unfolding advance tickets_left
advanced s m passed held clocks hsnr tickets p h c n t =
    let a : held ≡ remaining s m s.held = h ∙ ap (difference 64 s.held) p ∙ difference-remaining s m s.held in
    let b : clocks ≡ remaining s m s.clocks = c ∙ ap (difference 64 s.clocks) p ∙ difference-remaining s m s.clocks in
    let d : hsnr ≡ hsnr_left (remaining s m s.held) s.hsnr = n ∙ ap (λ (w : ℕ). hsnr_left w s.hsnr) a in
    ap₂ (λ (x : LinkNumber) (y : ℕ). state x y clocks tickets) d a ∙ ap₂ (λ (y : ℕ) (l : List ℕ). state (hsnr_left (remaining s m s.held) s.hsnr) (remaining s m s.held) y l) b t
  where
    state : LinkNumber → ℕ → ℕ → List ℕ → Resequencer
    state x y z l = record { nesn = link ((s.nesn.0 + m) % 64); hsnr = x; held = y; clocks = z; tickets = l }
