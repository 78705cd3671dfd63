-- Demand 3 of the calls on lent bytes: a call on the bytes of a state returns, leaves behind and
-- hands on what the call by value does, so that demand 3 by value gives it.
-- Assumes nothing.
use mathlib.Core.Path.{◌≡◌, refl, sym, ap, ap₂, ◌∙◌, subst}
use mathlib.Core.Bool.{Bool, true, false, cond}
use mathlib.Core.Logic.{◌⊎◌, inl, inr, ◌≢◌}
use mathlib.Core.List.{List, [], ◌∷◌, ◌++◌}
use Prim.Native.Nat.{ℕ, suc, ◌+◌, ◌/◌, ◌%◌, ◌^◌, ◌≤◌, ◌<◌}
use native.Mathlib.Omega.{arith}
use lib.Dec.{lit<}
use lib.ListN.{length, take, drop, length-append}
use lib.Seq.{take-append-le}
use borrow.Author.Tests.{eq-eqb}
use Rattle.refusal.specs.declared.Refusal.{Refusal}
use Rattle.refusal.specs.Numbers.{number_of, Verdict, refusal_number}
use Rattle.refusal.proofs.Numbers.{number-range}
use Rattle.little.specs.Little.{little_bytes, list_bytes}
use Rattle.little.proofs.Little.{length-bytes, length-list_bytes}
use Rattle.sequence.specs.declared.LinkNumber.{LinkNumber}
use Rattle.sequence.specs.Numbers.{link}
use Rattle.resequencer.specs.declared.Resequencer.{Resequencer}
use Rattle.resequencer.specs.declared.Answer.{Answer}
use Rattle.resequencer.specs.State.{fresh_state, ticket_of, ahead, number_at}
use Rattle.resequencer.specs.Events.{plain, handed, arrive_verdict, arrive_of, clock_end_verdict, clock_end_of}
use Rattle.resequencer.proofs.Order.{number_lt, number-ahead}
use Rattle.resequencer.proofs.Cases.{arrive-refused, end_refused}
use Rattle.resequencer_bytes.specs.Stored.{state_in, state_bytes, outcome_kind, packed_answer, arrive_checks, clock_end_checks, answer_by, bytes_by, tickets_by, fresh_bytes}
use Rattle.resequencer_bytes.specs.Claims.{FitsTypes}
use Rattle.resequencer_bytes.proofs.Claims.{round-trips}
use Rattle.resequencer_bytes.proofs.Checking.{arrive-roomy, end-roomy}
use Rattle.resequencer_claims.specs.Calls.{Call, arrival, clock_end as end_of_clock, answer_to}
use Rattle.resequencer_claims.specs.Events.{Event, packet, stray, clock_end, call_of, answer, handed_on, nothing, more}
use Rattle.resequencer_claims.specs.Demand3.{AllowedCall, Allowed, AllowedList}
use Rattle.resequencer_claims.specs.Bytes.{number_from, bytes_after, handed_from, handed_on_from, AllowedOn, AllowedFrom, Memory, AllowedIn, handed_on_in, Demand3OfBytes}
use Rattle.resequencer_claims.proofs.Places.{held_at, ticket_at, ahead-lt}
use Rattle.resequencer_claims.proofs.Order.{Top}
use Rattle.resequencer_claims.proofs.Standing.{Stands}
use Rattle.resequencer_claims.proofs.Answers.{handed-plain, next-plain}
use Rattle.resequencer_claims.proofs.AtMost.{few}
use Rattle.resequencer_claims.proofs.Steps.{fresh-stands}
use Rattle.resequencer_claims.proofs.Demand3.{demand3, below_next, allowed-steps}
use Rattle.resequencer.specs.declared.Outcome.{Outcome}
use Rattle.resequencer.specs.declared.Outcome.TheVariants.{Held, HandedOn, Old, Duplicate}
use Rattle.std.specs.Prelude.{Result, Ok, Err}

-- ---- an answer in one number

kind-lt : (o : Result Outcome Refusal) → (refusal_number o < 256) × (outcome_kind o < 256)
kind-lt (Ok Held) = (lit< tt, lit< tt)
kind-lt (Ok HandedOn) = (lit< tt, lit< tt)
kind-lt (Ok Old) = (lit< tt, lit< tt)
kind-lt (Ok Duplicate) = (lit< tt, lit< tt)
kind-lt (Err why) = (omega (arith, (number-range why).1), lit< tt)

count-back : (a : Answer) → packed_answer a / 65536 ≡ a.count
unfolding packed_answer
count-back a = omega (arith, (kind-lt a.outcome).0, (kind-lt a.outcome).1)

number-back : (a : Answer) → packed_answer a % 256 ≡ refusal_number a.outcome
unfolding packed_answer
number-back a = omega (arith, (kind-lt a.outcome).0)

refused-is : (o : Result Outcome Refusal) → refusal_number o ≢ 0 → (why : Refusal) × (o ≡ Err why)
refused-is (Ok Held) h = absurd (h refl)
refused-is (Ok HandedOn) h = absurd (h refl)
refused-is (Ok Old) h = absurd (h refl)
refused-is (Ok Duplicate) h = absurd (h refl)
refused-is (Err why) h = (why, refl)

-- ---- a call on the bytes b, by the verdict v of its checks, where a is the answer by value: it
-- returns the refusal number, leaves the bytes of the next state, and hands on the same tickets

abbrev Tells : Verdict → Answer → List ℕ → List ℕ → Type 0
Tells v a b out =
    (answer_by v a % 256 ≡ refusal_number a.outcome)
    × (bytes_by v a b ≡ state_bytes a.next)
    × (take (answer_by v a / 65536) (tickets_by v a out) ≡ handed a)

done-tells : (a : Answer) (b out : List ℕ) → a.count ≤ length a.tickets → Tells (Ok tt) a b out
unfolding handed
done-tells a b out room = (
  number-back a,
  refl,
  ap (λ (n : ℕ). take n (a.tickets ++ drop (length a.tickets) out)) (count-back a)
      ∙ take-append-le a.count a.tickets (drop (length a.tickets) out) room,
)

refused-tells : (why : Refusal) (s : Resequencer) (out : List ℕ) → Tells (Err why) (plain (Err why) s) (state_bytes s) out
refused-tells why s out =
    let small : number_of why % 256 ≡ number_of why = omega (arith, (number-range why).1) in
    let none : number_of why / 65536 ≡ 0 = omega (arith, (number-range why).1) in (
      small ∙ (unfold plain in refl),
      ap state_bytes (sym (next-plain (Err why) s)),
      ap (λ (n : ℕ). take n out) none ∙ sym (handed-plain (Err why) s),
    )

-- ---- one call on the bytes of a state, with 32 places or more

record Goes (s : Resequencer) (out : List ℕ) (c : Call) : Type 0 where
  refusal : number_from (state_bytes s) out c % 256 ≡ refusal_number (answer_to s c).outcome
  then : bytes_after (state_bytes s) out c ≡ state_bytes (answer_to s c).next
  hands : handed_from (state_bytes s) out c ≡ handed (answer_to s c)

state-length : (s : Resequencer) → FitsTypes s → length (state_bytes s) ≡ 146
unfolding state_bytes
state-length s f =
    omega (
      arith,
      length-append (little_bytes 8 s.held) (little_bytes 8 s.clocks ++ list_bytes 2 s.tickets),
      length-append (little_bytes 8 s.clocks) (list_bytes 2 s.tickets),
      length-bytes 8 s.held,
      length-bytes 8 s.clocks,
      length-list_bytes 2 s.tickets,
      f.count,
    )

module _ (s : Resequencer) (out : List ℕ) (f : FitsTypes s) (long : 32 ≤ length out) where
  -- the bytes are those of s, and the places are enough, so only the checks by value are left
  read_back : state_in (state_bytes s) ≡ s
  read_back = round-trips.read_back s f

  arrival-checks : (n : ℕ) → arrive_checks (state_bytes s) (length out) n ≡ arrive_verdict s n
  arrival-checks n =
      sym (arrive-roomy (state_bytes s) (length out) n (state-length s f) long) ∙ ap (λ (x : Resequencer). arrive_verdict x n) read_back

  clock-checks : (n : ℕ) → clock_end_checks (state_bytes s) (length out) n ≡ clock_end_verdict s n
  clock-checks n =
      sym (end-roomy (state_bytes s) (length out) n (state-length s f) long) ∙ ap (λ (x : Resequencer). clock_end_verdict x n) read_back

  arrival-tells : (n ticket : ℕ) (v : Verdict) → arrive_verdict s n ≡ v → Tells v (arrive_of s n ticket) (state_bytes s) out
  arrival-tells n ticket (Ok tt) e = done-tells (arrive_of s n ticket) (state_bytes s) out (few s (arrival n ticket)).room
  arrival-tells n ticket (Err why) e =
      subst (λ (a : Answer). Tells (Err why) a (state_bytes s) out) (sym (arrive-refused s n ticket why e)) (refused-tells why s out)

  clock-tells : (n : ℕ) (v : Verdict) → clock_end_verdict s n ≡ v → Tells v (clock_end_of s n) (state_bytes s) out
  clock-tells n (Ok tt) e = done-tells (clock_end_of s n) (state_bytes s) out (few s (end_of_clock n)).room
  clock-tells n (Err why) e =
      subst (λ (a : Answer). Tells (Err why) a (state_bytes s) out) (sym (end_refused s n why e)) (refused-tells why s out)

  -- what the bytes tell is what the state does
  told : (v w : Verdict) (a c : Answer) → w ≡ v → c ≡ a → Tells v a (state_bytes s) out
      → (answer_by w c % 256 ≡ refusal_number a.outcome) × (bytes_by w c (state_bytes s) ≡ state_bytes a.next)
      × (take (answer_by w c / 65536) (tickets_by w c out) ≡ handed a)
  told v w a c p q t = (
    ap₂ (λ (x : Verdict) (y : Answer). answer_by x y % 256) p q ∙ t.0,
    ap₂ (λ (x : Verdict) (y : Answer). bytes_by x y (state_bytes s)) p q ∙ t.1,
    ap₂ (λ (x : Verdict) (y : Answer). take (answer_by x y / 65536) (tickets_by x y out)) p q ∙ t.2,
  )

  goes : (c : Call) → Goes s out c
  goes (arrival n ticket) =
      let r = told (arrive_verdict s n) (arrive_checks (state_bytes s) (length out) n) (arrive_of s n ticket) (arrive_of (state_in (state_bytes s)) n ticket)
      (arrival-checks n) (ap (λ (x : Resequencer). arrive_of x n ticket) read_back) (arrival-tells n ticket (arrive_verdict s n) refl) in
      record { refusal = r.0; then = r.1; hands = r.2 }
  goes (end_of_clock n) =
      let r = told (clock_end_verdict s n) (clock_end_checks (state_bytes s) (length out) n) (clock_end_of s n) (clock_end_of (state_in (state_bytes s)) n)
      (clock-checks n) (ap (λ (x : Resequencer). clock_end_of x n) read_back) (clock-tells n (clock_end_verdict s n) refl) in
      record { refusal = r.0; then = r.1; hands = r.2 }

-- an event that is allowed on the bytes is allowed by value
allowed-by-value : (T : ℕ → ℕ) (s : Resequencer) (out : List ℕ) (has : ℕ → Bool) (e : Event) → Goes s out (call_of T e)
    → AllowedOn (state_bytes s) out has e → AllowedCall s has e
allowed-by-value T s out has (packet n) g ok = ok
allowed-by-value T s out has (stray sn ticket) g ok = ok
allowed-by-value T s out has (clock_end sn) g ok = refused-is (clock_end_of s sn).outcome (λ z. ok (g.refusal ∙ z))

-- ---- any list

fresh-is : (b : List ℕ) → length b ≡ 146 → fresh_bytes b ≡ state_bytes fresh_state
unfolding fresh_bytes
fresh-is b l = ap (λ (x : Bool). cond x (state_bytes fresh_state) b) (eq-eqb (length b) 146 l)

module _ (T : ℕ → ℕ) (small : (n : ℕ) → T n < 2 ^ 16) where
  -- a state in true numbers fits its bytes
  stands-fit : (E : ℕ) (has : ℕ → Bool) (s : Resequencer) → Stands T E has s → FitsTypes s
  stands-fit E has s k = record {
    nesn = omega (arith, k.order.nesn-lt);
    hsnr = top k.order.top;
    held = k.sized.held_fits;
    clocks = k.sized.clocks-fit;
    count = k.tickets-long;
    tickets = λ i h.
        let l : i < 64 = omega (arith, k.tickets-long) in
        subst (λ (x : ℕ). x < 2 ^ 16) (ap (ticket_of s) (number-ahead s i l)) (at (ahead s i) (ahead-lt s i) (held_at s (ahead s i)) refl);
  }
    where
      top : ((s.held ≡ 0) × (s.hsnr ≡ link 0)) ⊎ ((e : ℕ) × Top s e) → s.hsnr.0 < 256
      top (inl w) = let z : s.hsnr.0 ≡ 0 = ap (λ (l : LinkNumber). l.0) w.1 in omega arith
      top (inr w) =
          let z : s.hsnr.0 ≡ number_at s w.0 = ap (λ (l : LinkNumber). l.0) w.1.hsnr-at in
          omega (arith, number_lt s w.0)

      at : (d : ℕ) → d < 64 → (b : Bool) → held_at s d ≡ b → ticket_at s d < 2 ^ 16
      at d l true e = subst (λ (x : ℕ). x < 2 ^ 16) (sym (k.tickets-are d l e)) (small (E + d))
      at d l false e = subst (λ (x : ℕ). x < 2 ^ 16) (sym (k.order.no-ticket d l e)) (lit< tt)

  module _ (lent : ℕ → List ℕ) (enough : (i : ℕ) → 32 ≤ length (lent i)) where
    any-list : (i E : ℕ) (has : ℕ → Bool) (s : Resequencer) (es : List Event) → Stands T E has s → ((n : ℕ) → n < E → has n ≡ true)
        → AllowedFrom T lent i (state_bytes s) has es → Allowed T s has es × (handed_on_from T lent i (state_bytes s) es ≡ handed_on T s es)
    unfolding AllowedFrom Allowed handed_on_from handed_on
    any-list i E has s [] k below ok = (tt, refl)
    any-list i E has s (e ∷ es) k below ok =
        let g = goes s (lent i) (stands-fit E has s k) (enough i) (call_of T e) in
        let a = allowed-by-value T s (lent i) has e g ok.0 in
        let w = allowed-steps T k below e a in
        let r = any-list (suc i) w.0.next (more has e) (answer T s e).next es w.0.stands (below_next T E has s e w.0 w.1 below)
        (subst (λ (b : List ℕ). AllowedFrom T lent (suc i) b (more has e) es) g.then ok.1) in (
          (a, r.0),
          ap₂ ◌++◌ g.hands (ap (λ (b : List ℕ). handed_on_from T lent (suc i) b es) g.then ∙ r.1),
        )

  by_value : (m : Memory) (es : List Event) → AllowedIn T m es → AllowedList T es × (handed_on_in T m es ≡ handed_on T fresh_state es)
  by_value m es ok =
      let q = fresh-is m.bytes m.state-size in
      let r = any-list m.lent m.enough-places 0 0 nothing fresh_state es (fresh-stands T) (λ n h. absurd (omega arith))
      (subst (λ (b : List ℕ). AllowedFrom T m.lent 0 b nothing es) q ok) in
      (r.0, ap (λ (b : List ℕ). handed_on_from T m.lent 0 b es) q ∙ r.1)

pub demand3-of-bytes : Demand3OfBytes
demand3-of-bytes T small = record {
  in_order = λ m es ok.
      let a = by_value T small m es ok in
      let r = (demand3 T).in_order es a.0 in
      (r.0, r.1, a.1 ∙ r.2);
  begins = λ m k es fs p q h.
      let a = by_value T small m es p in
      let b = by_value T small k fs q in
      let r = (demand3 T).begins es fs a.0 b.0 h in
      (r.0, b.1 ∙ r.1 ∙ ap (λ (l : List ℕ). l ++ r.0) (sym a.1));
}
