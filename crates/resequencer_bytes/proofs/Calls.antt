-- What the calls write and return, case by case: the premises are the tests that the code makes.
-- Assumes nothing.
use mathlib.Core.Path.{◌≡◌, refl, sym, ap, ap₂, ◌∙◌}
use mathlib.Core.Bool.{Bool, true, false, cond, ◌&&◌}
use mathlib.Core.List.{List, [], ◌++◌}
use mathlib.Core.Logic.{◌≢◌}
use Prim.Native.Nat.{ℕ, ◌+◌, ◌-◌, ◌*◌, ◌%◌, ◌≤◌, ◌<◌}
use native.Mathlib.Omega.{arith}
use lib.Dec.{eqb, lit<}
use lib.ListN.{length, get_or, set, take, drop, replicate}
use lib.Seq.{paste}
use borrow.Author.Tests.{eq-eqb, ne_eqb}
use Rattle.refusal.specs.declared.Refusal.{Refusal}
use Rattle.refusal.specs.Numbers.{number_of, refusal_number}
use Rattle.refusal.proofs.Numbers.{number-range}
use Rattle.little.specs.Little.{little_of, little_bytes, list_bytes}
use Rattle.little.specs.Law.{Below}
use Rattle.wordset.specs.Sets.{member, every}
use Rattle.resequencer.specs.declared.Numbers.{Numbers}
use Rattle.resequencer.specs.declared.Step.{Step}
use Rattle.resequencer.specs.State.{fresh_state, in_order}
use Rattle.resequencer.specs.Events.{places, held_tickets}
use Rattle.resequencer.specs.Parts.{ticket_fits, tickets_left, arrived_tickets, held_tickets_from}
use Rattle.resequencer.specs.Numbers.{numbers_of, hands_on, holds, step_tickets, step_state, step_answer}
use Rattle.resequencer.proofs.Order.{in_order_lem}
use Rattle.resequencer.proofs.Handing.{held-from}
use Rattle.resequencer_bytes.specs.Stored.{state_in, state_bytes, outcome_kind, packed_answer, fresh_answer, fresh_bytes, order_answer}
use Rattle.resequencer_bytes.specs.Parts.{tickets_in, with_numbers, with_tickets}
use Rattle.resequencer_bytes.proofs.Writing.{tickets-same, ticket-written, state-made}
use Rattle.resequencer_bytes.proofs.Stored.{written_back}
use Rattle.resequencer.specs.declared.Outcome.{Outcome}
use Rattle.std.specs.Prelude.{Result, Err}

-- ---- good order and the tickets in their bytes

module _ (b : List ℕ) (g : in_order (state_in b) ≡ true) where
  pub nesn-low : (state_in b).nesn.0 < 64
  nesn-low = (in_order_lem (state_in b) g).nesn-lt

  -- the ticket of a number that is not held is 0
  pub bare-ticket : (n : ℕ) → n < 64 → member (state_in b).held n ≡ false → get_or (tickets_in (drop 18 b)) n 0 ≡ 0
  unfolding state_in
  bare-ticket n h e = (in_order_lem (state_in b) g).tickets n h e

  -- the ticket of NESN is 0
  pub nesn-bare : get_or (tickets_in (drop 18 b)) (state_in b).nesn.0 0 ≡ 0
  nesn-bare = go (member (state_in b).held (state_in b).nesn.0) refl
    where
      here : ((state_in b).nesn.0 + 0) % 64 ≡ (state_in b).nesn.0
      here = omega (arith, nesn-low)

      go : (t : Bool) → member (state_in b).held (state_in b).nesn.0 ≡ t → get_or (tickets_in (drop 18 b)) (state_in b).nesn.0 0 ≡ 0
      go false e = bare-ticket (state_in b).nesn.0 nesn-low e
      go true e =
          absurd (omega (arith, ((in_order_lem (state_in b) g).window 0 (lit< tt) (ap (member (state_in b).held) here ∙ e)).0))

-- ---- the tickets that a step moves, for each outcome

abbrev pub Moved : List ℕ → Step → ℕ → ℕ → ℕ → ℕ → List ℕ → List ℕ → Type 0
Moved b step d n ticket count out x =
    (count ≡ length (step_tickets (state_in b) step d ticket))
    × ((out ≡ places (step_tickets (state_in b) step d ticket))
    × (x ≡ with_tickets b (step_state (state_in b) step n ticket).tickets))

module _ (b : List ℕ) (step : Step) (d n ticket : ℕ) where
  by-outcome : (h k : Bool) (count : ℕ) (out x : List ℕ) → hands_on step.outcome ≡ h → holds step.outcome ≡ k
      → count ≡ length (cond h (arrived_tickets d ticket ++ held_tickets (state_in b) d (step.passed - d)) [])
      → out ≡ places (cond h (arrived_tickets d ticket ++ held_tickets (state_in b) d (step.passed - d)) [])
      → x ≡ with_tickets b (cond h (tickets_left (state_in b).tickets (state_in b).nesn.0 step.passed) (cond k (set (state_in b).tickets n ticket) (state_in b).tickets))
      → Moved b step d n ticket count out x
  unfolding step_tickets step_state
  by-outcome h k count out x e f c o y =
      let t : cond h (arrived_tickets d ticket ++ held_tickets (state_in b) d (step.passed - d)) [] ≡ step_tickets (state_in b) step d ticket =
      ap (λ (q : Bool). cond q (arrived_tickets d ticket ++ held_tickets (state_in b) d (step.passed - d)) []) (sym e) in (
        c ∙ ap length t,
        (
          o ∙ ap places t,
          y ∙ ap₂ (λ (q r : Bool). with_tickets b (cond q (tickets_left (state_in b).tickets (state_in b).nesn.0 step.passed) (cond r (set (state_in b).tickets n ticket) (state_in b).tickets))) (sym e) (sym f),
        ),
      )

  pub moved_on : (m : Numbers) (count : ℕ) (out x : List ℕ) → m ≡ numbers_of (state_in b) → hands_on step.outcome ≡ true → d ≤ step.passed
      → count ≡ length (arrived_tickets d ticket ++ held_tickets_from m.held (tickets_in (drop 18 b)) (m.nesn.0 + d) (step.passed - d))
      → out ≡ places (arrived_tickets d ticket ++ held_tickets_from m.held (tickets_in (drop 18 b)) (m.nesn.0 + d) (step.passed - d))
      → x ≡ with_tickets b (tickets_left (tickets_in (drop 18 b)) (state_in b).nesn.0 (d + (step.passed - d)))
      → Moved b step d n ticket count out x
  unfolding state_in
  moved_on m count out x e h least c o y =
      let t : held_tickets_from m.held (tickets_in (drop 18 b)) (m.nesn.0 + d) (step.passed - d) ≡ held_tickets (state_in b) d (step.passed - d) =
      ap (λ (q : Numbers). held_tickets_from q.held (tickets_in (drop 18 b)) (q.nesn.0 + d) (step.passed - d)) e ∙ held-from (state_in b) d (step.passed - d) in
      let z : d + (step.passed - d) ≡ step.passed = omega arith in
      by-outcome true (holds step.outcome) count out x h refl
      (c ∙ ap (λ (q : List ℕ). length (arrived_tickets d ticket ++ q)) t)
      (o ∙ ap (λ (q : List ℕ). places (arrived_tickets d ticket ++ q)) t)
      (y ∙ ap (λ (k : ℕ). with_tickets b (tickets_left (tickets_in (drop 18 b)) (state_in b).nesn.0 k)) z)

  pub moved_in : (out x : List ℕ) → length b ≡ 146 → Below 256 b → n < 64 → hands_on step.outcome ≡ false → holds step.outcome ≡ true → out ≡ replicate 32 0
      → x ≡ paste b (18 + 2 * n) (little_bytes 2 ticket) 2 → Moved b step d n ticket 0 out x
  unfolding state_in places
  moved_in out x l low h e f o y =
      by-outcome false true 0 out x e f refl o (ticket-written b l low n ticket x h y)

  pub moved_none : (out : List ℕ) → length b ≡ 146 → Below 256 b → hands_on step.outcome ≡ false → holds step.outcome ≡ false → out ≡ replicate 32 0 → Moved b step d n ticket 0 out b
  unfolding state_in places
  moved_none out l low e f o = by-outcome false false 0 out b e f refl o (tickets-same b l low)

-- ---- an answer

-- writing the same numbers again changes no byte
numbers-same : (b : List ℕ) → length b ≡ 146 → Below 256 b → b ≡ with_numbers b (numbers_of (state_in b))
unfolding state_in
numbers-same b l low = sym (state-made b b (state_in b) l (tickets-same b l low) ∙ written_back b l low)

-- the number that a step returns (r), and the bytes (y) and places (out) after it
abbrev pub Ends : List ℕ → Step → ℕ → ℕ → ℕ → List ℕ → ℕ → List ℕ → List ℕ → Type 0
Ends b step d n ticket out₀ r y out =
    (r ≡ packed_answer (step_answer (state_in b) step d n ticket))
    × ((y ≡ cond (eqb (refusal_number step.outcome) 0) (state_bytes (step_state (state_in b) step n ticket)) b)
    × (out ≡ cond (eqb (refusal_number step.outcome) 0) (places (step_tickets (state_in b) step d ticket)) out₀))

module _ (b : List ℕ) (step : Step) (d n ticket : ℕ) (out₀ : List ℕ) (l : length b ≡ 146) where
  -- a step that is not refused: the tickets are moved and the numbers written
  pub taken : (o : Result Outcome Refusal) → step.outcome ≡ o → refusal_number o ≡ 0 → (r count : ℕ) (out x y : List ℕ) → r ≡ 256 * outcome_kind o + 65536 * count
      → Moved b step d n ticket count out x → y ≡ with_numbers x step.next → Ends b step d n ticket out₀ r y out
  unfolding packed_answer step_answer step_state
  taken o e z r count out x y q moved p =
      let number : refusal_number step.outcome ≡ 0 = ap refusal_number e ∙ z in
      let kind : outcome_kind step.outcome ≡ outcome_kind o = ap outcome_kind e in
      let done : eqb (refusal_number step.outcome) 0 ≡ true = eq-eqb (refusal_number step.outcome) 0 number in (
        omega (arith, q, number, kind, moved.0),
        (
          p ∙ state-made b x (step_state (state_in b) step n ticket) l moved.1.1
              ∙ ap (λ (t : Bool). cond t (state_bytes (step_state (state_in b) step n ticket)) b) (sym done),
          moved.1.0 ∙ ap (λ (t : Bool). cond t (places (step_tickets (state_in b) step d ticket)) out₀) (sym done),
        ),
      )

  -- a packet is dropped: only the places are written
  pub dropped : (o : Result Outcome Refusal) → step.outcome ≡ o → refusal_number o ≡ 0 → hands_on o ≡ false → holds o ≡ false → step.next ≡ numbers_of (state_in b) → Below 256 b
      → (r : ℕ) (out : List ℕ) → r ≡ 256 * outcome_kind o → out ≡ replicate 32 0 → Ends b step d n ticket out₀ r b out
  dropped o e z h k same low r out q p =
      taken o e z r 0 out b b (omega (arith, q)) (moved_none b step d n ticket out l low (ap hands_on e ∙ h) (ap holds e ∙ k) p)
      (numbers-same b l low ∙ ap (with_numbers b) (sym same))

  -- a refusal returns its number and writes nothing
  pub refused : (why : Refusal) → step.outcome ≡ Err why → (r : ℕ) → r ≡ number_of why → Ends b step d n ticket out₀ r b out₀
  unfolding packed_answer step_answer step_tickets
  refused why e r q =
      let f : eqb (refusal_number step.outcome) 0 ≡ false = ap (λ (o : Result Outcome Refusal). eqb (refusal_number o) 0) e ∙ ne_eqb (number_of why) 0 (λ (z : number_of why ≡ 0). absurd (omega (arith, (number-range why).0))) in
      let z : number_of why ≡ number_of why + 256 * 0 + 65536 * 0 = omega arith in (
        q ∙ z ∙ ap (λ (o : Result Outcome Refusal). refusal_number o + 256 * outcome_kind o + 65536 * length (cond (hands_on o) (arrived_tickets d ticket ++ held_tickets (state_in b) d (step.passed - d)) [])) (sym e),
        (
          ap (λ (t : Bool). cond t (state_bytes (step_state (state_in b) step n ticket)) b) (sym f),
          ap (λ (t : Bool). cond t (places (step_tickets (state_in b) step d ticket)) out₀) (sym f),
        ),
      )

-- ---- tests of the code

-- the code's test of the tickets in their bytes is the test of the state's tickets
pub stored-fit : (b : List ℕ) (held : ℕ) (fits : Bool) → held ≡ little_of (take 8 (drop 2 b)) → fits ≡ every 64 (ticket_fits held (tickets_in (drop 18 b)))
    → fits ≡ every 64 (ticket_fits (state_in b).held (state_in b).tickets)
unfolding state_in
stored-fit b held fits e f = f ∙ ap (λ (h : ℕ). every 64 (ticket_fits h (tickets_in (drop 18 b)))) e

-- ---- good order

pub order-none : (b : List ℕ) → length b ≢ 146 → 14 ≡ order_answer b
unfolding order_answer
order-none b h = simp (ne_eqb (length b) 146 h)

pub order-code : (b : List ℕ) (good : Bool) → length b ≡ 146 → good ≡ in_order (state_in b) → cond good 0 14 ≡ order_answer b
unfolding order_answer
order-code b good l g =
    ap (λ (x : Bool). cond x 0 14) g ∙ ap (λ (x : Bool). cond (x && in_order (state_in b)) 0 14) (sym (eq-eqb (length b) 146 l))

-- ---- a fresh state

pub fresh-none : (b : List ℕ) → length b ≢ 146 → (14 ≡ fresh_answer b) × (b ≡ fresh_bytes b)
unfolding fresh_answer fresh_bytes
fresh-none b h = (simp (ne_eqb (length b) 146 h), simp (ne_eqb (length b) 146 h))

pub fresh-zeros : replicate 146 0 ≡ state_bytes fresh_state
unfolding state_bytes little_bytes list_bytes
fresh-zeros = refl

pub fresh-done : (b x : List ℕ) → length b ≡ 146 → x ≡ state_bytes fresh_state → (0 ≡ fresh_answer b) × (x ≡ fresh_bytes b)
unfolding fresh_answer fresh_bytes
fresh-done b x h e = (simp (eq-eqb (length b) 146 h), e ∙ simp (eq-eqb (length b) 146 h))
