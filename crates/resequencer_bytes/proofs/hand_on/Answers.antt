-- `resequencer_bytes::hand_on` meets its contract: each turn of the loop writes the ticket of the
-- next held number to `out`, and 0 to the state.
-- Assumes nothing.
use mathlib.Core.Path.{◌≡◌, refl, sym, ap, ap₂, ◌∙◌}
use mathlib.Core.Bool.{false}
use mathlib.Core.List.{List}
use Prim.Native.Nat.{ℕ, ◌+◌, ◌-◌, ◌%◌, ◌≤◌, ◌<◌}
use native.Mathlib.Omega.{arith}
use lib.ListN.{length, get_or, set, drop, length-set}
use Rattle.little.specs.Law.{Below}
use Rattle.wordset.specs.Sets.{member, lowest}
use Rattle.wordset.proofs.Sets.{first-le}
use Rattle.wordset.proofs.Walks.{without-lt, walk_ends}
use Rattle.resequencer.proofs.Passing.{left-past}
use Rattle.resequencer.proofs.Handing.{handed-first, handed-turn, handed-place, handed-next, handed-end}
use Rattle.resequencer_bytes.specs.Stored.{state_in}
use Rattle.resequencer_bytes.specs.Parts.{HandOnFits, tickets_in, with_tickets}
use Rattle.resequencer_bytes.proofs.Writing.{left-starts, left-ticket, left-taken}
use Rattle.resequencer_bytes.proofs.Calls.{nesn-low, nesn-bare, bare-ticket}
use Rattle.refusal.proofs.Clauses.{three}
use Rattle.resequencer_bytes.proofs.hand_on.Invariants.{passed}
use Rattle.resequencer_bytes.proofs.hand_on.Goals as goal

-- the numbers between two held ones have tickets of 0 already
past : (b out : List ℕ) (held start d ticket m : ℕ) → HandOnFits b out held start d ticket m → (i n : ℕ) → i ≤ n → n ≤ m
    → ((j : ℕ) → i ≤ j → j < n → member held ((start + j) % 64) ≡ false) → passed b (d + i) ≡ passed b (d + n)
past b out held start d ticket m p i n h l f =
    ap (with_tickets b) (left-past (state_in b).nesn.0 (tickets_in (drop 18 b)) (d + i) (d + n) (omega arith) (omega (arith, p.most)) bare)
  where
    bare : (j : ℕ) → d + i ≤ j → j < d + n → get_or (tickets_in (drop 18 b)) (((state_in b).nesn.0 + j) % 64) 0 ≡ 0
    bare j g k =
        let e : (start + (j - d)) % 64 ≡ ((state_in b).nesn.0 + j) % 64 = omega (arith, p.start_is) in
        bare-ticket b p.order (((state_in b).nesn.0 + j) % 64) (omega arith) (sym (ap₂ member p.held-is e) ∙ f (j - d) (omega arith) (omega arith))

pub bounds-out-0 : goal.bounds-out-0
bounds-out-0 c = omega (arith, ap length c.requires.cleared)

pub loop-left-init : goal.loop-left-init
loop-left-init c =
    let a = c.args in
    let b = a.state.now in
    let p = c.requires in
    let z : a.d ≡ a.d + 0 = omega arith in (
      0,
      handed-first _ _ _ _ _ _ _ _ p.own p.none c.stretch-left.ensures p.cleared,
      length-set a.out.now 0 a.ticket ∙ ap length p.cleared,
      left-starts b c.told-state (λ i h. c.fits-state i) (state_in b).nesn.0 a.d p.own (nesn-low b p.order) (nesn-bare b p.order) ∙ ap (passed b) z,
    )

pub overflow_cast-to : goal.overflow_cast-to
overflow_cast-to c = omega arith

pub overflow_add-start : goal.overflow_add-start
overflow_add-start c = let p = c.requires in omega (arith, p.start_is, p.own, nesn-low _ p.order, c.lowest.ensures, first-le 64 (member c.loop-left.left))

pub take_ticket-requires : goal.take_ticket-requires
take_ticket-requires c = omega arith

pub offset_bounds-out-to : goal.offset_bounds-out-to
offset_bounds-out-to c = omega arith

pub bounds-out-to : goal.bounds-out-to
bounds-out-to c =
    let some : 0 < c.loop-left.left = omega (arith, c.loop-left-test.true) in
    let place : c.loop-left.count < 32 = handed-place _ _ _ _ _ _ _ _ _ _ c.loop-left.invariant.1 c.requires.most some in omega (arith, place, c.loop-left.invariant.2)

pub overflow_add-count : goal.overflow_add-count
overflow_add-count c =
    let some : 0 < c.loop-left.left = omega (arith, c.loop-left-test.true) in
    let place : c.loop-left.count < 32 = handed-place _ _ _ _ _ _ _ _ _ _ c.loop-left.invariant.1 c.requires.most some in omega (arith, place)

pub loop-left-smaller : goal.loop-left-smaller
loop-left-smaller c =
    let some : 0 < c.loop-left.left = omega (arith, c.loop-left-test.true) in
    let l = c.loop-left in
    omega (arith, c.without_lowest-left.ensures, without-lt 64 l.left some l.invariant.1.walked.small)

pub loop-left-preserved : goal.loop-left-preserved
loop-left-preserved c =
    let some : 0 < c.loop-left.left = omega (arith, c.loop-left-test.true) in
    let place : c.loop-left.count < 32 = handed-place _ _ _ _ _ _ _ _ _ _ c.loop-left.invariant.1 c.requires.most some in
    let a = c.args in
    let b = a.state.now in
    let p = c.requires in
    let l = c.loop-left in
    let v = l.invariant in
    let z = lowest 64 l.left in
    let turn = handed-turn _ _ _ _ _ _ _ _ _ _ v.1 some in
    let low : Below 256 b = λ i h. c.fits-state i in
    let near : a.d + z < 64 = omega (arith, p.most, turn.in-stretch) in
    let number = (a.start + c.lowest.result) % 64 in
    let place : number ≡ ((state_in b).nesn.0 + (a.d + z)) % 64 = omega (arith, p.start_is, c.lowest.ensures) in
    let e : l.state ≡ passed b (a.d + z) = v.3 ∙ past b _ _ _ _ _ _ p v.0 z turn.low (omega (arith, turn.in-stretch)) turn.none_before in
    let one : a.d + z + 1 ≡ a.d + (z + 1) = omega arith in
    let taken = left-taken b c.told-state low (state_in b).nesn.0 (a.d + z) number l.state near place e _ c.take_ticket.ensures.state_after in (
      z + 1,
      handed-next _ _ _ _ _ _ _ _ _ _ v.1 _ _ _ _ p.most some c.lowest.ensures c.without_lowest-left.ensures refl
          (ap (set l.out l.count) (left-ticket b c.told-state low (state_in b).nesn.0 (a.d + z) number l.state near place e c.take_ticket.result c.take_ticket.ensures.value)),
      length-set l.out l.count c.take_ticket.result ∙ v.2,
      taken ∙ ap (passed b) one,
    )

pub shape_of-out : goal.shape_of-out
shape_of-out c = c.loop-left.invariant.2 ∙ sym (ap length c.requires.cleared)

pub returns : goal.returns
returns c =
    three (λ p q r. record { value = p; out_after = q; state_after = r })
    (let a = c.args in
    let b = a.state.now in
    let p = c.requires in
    let v = c.loop-left.invariant in
    let none : c.loop-left.left ≡ 0 = omega (arith, c.loop-left-test.false) in
    let h : a.m ≤ 64 = omega (arith, p.most) in
    let e = handed-end _ _ _ _ _ _ _ _ _ _ v.1 h none in
    (e.0, (e.1, v.3 ∙ past b _ _ _ _ _ _ p v.0 a.m v.1.walked.most (omega arith) (walk_ends 64 _ _ _ _ _ h v.1.walked none))))
