-- The claims about the stored state. For refusals: each refusal number fits in a byte, and a call
-- that the checks accept has none.
-- Assumes nothing.
use mathlib.Core.Path.{◌≡◌, refl, ap, ◌∙◌}
use mathlib.Core.List.{List}
use mathlib.Core.Logic.{◌≢◌}
use Prim.Native.Nat.{ℕ, ◌%◌, ◌<◌}
use native.Mathlib.Omega.{arith}
use lib.ListN.{length}
use Rattle.refusal.specs.declared.Refusal.TheVariants.{NotInOrder}
use Rattle.refusal.specs.Numbers.{refusal_number, Verdict}
use Rattle.refusal.proofs.Numbers.{number-range}
use Rattle.refusal.proofs.Checks.{check_done, then-done}
use Rattle.resequencer.specs.declared.Answer.{Answer}
use Rattle.resequencer.specs.Events.{arrive_verdict, arrive_of, clock_end_of}
use Rattle.resequencer.proofs.OutcomeNumbers.{arrive-number, end-number}
use Rattle.resequencer_bytes.specs.Stored.{is_state, state_in, packed_answer, arrive_checks, clock_end_checks, answer_by, bytes_by, tickets_by}
use Rattle.resequencer_bytes.specs.Claims.{RoundTrips, RefusalsChangeNothing}
use Rattle.resequencer_bytes.proofs.Stored.{state-back, written_back}
use Rattle.std.specs.Prelude.{Ok, Err}

pub round-trips : RoundTrips
round-trips = record { read_back = state-back; written_back = written_back }

-- ---- refusals

-- if a call is not refused, the lowest byte of the number returned is 0
low_byte : (a : Answer) → refusal_number a.outcome ≡ 0 → packed_answer a % 256 ≡ 0
unfolding packed_answer
low_byte a e = omega arith

-- the checks accept a call only if the resequencer's answer is not a refusal
abbrev Accepts : Verdict → Answer → Type 0
Accepts v a = v ≡ Ok tt → refusal_number a.outcome ≡ 0

abbrev Kept : Verdict → Answer → List ℕ → List ℕ → Type 0
Kept v a b out = (answer_by v a < 256) × (bytes_by v a b ≡ b) × (tickets_by v a out ≡ out)

kept : (v : Verdict) (a : Answer) (b out : List ℕ) → Accepts v a → answer_by v a % 256 ≢ 0 → Kept v a b out
kept (Ok tt) a b out accepts h = absurd (h (low_byte a (accepts refl)))
kept (Err why) a b out accepts h = (omega (arith, (number-range why).1), refl, refl)

arrival-accepts : (b : List ℕ) (places n ticket : ℕ) → Accepts (arrive_checks b places n) (arrive_of (state_in b) n ticket)
unfolding arrive_checks
arrival-accepts b places n ticket e =
    arrive-number (state_in b) n ticket ∙ ap refusal_number (then-done (arrive_verdict (state_in b) n) _ (check_done (is_state b) NotInOrder _ e).1).0

end-accepts : (b : List ℕ) (places n : ℕ) → Accepts (clock_end_checks b places n) (clock_end_of (state_in b) n)
unfolding clock_end_checks
end-accepts b places n e =
    end-number (state_in b) n ∙ ap refusal_number (then-done (arrive_checks b places n) _ e).1

pub refusals-change-nothing : RefusalsChangeNothing
refusals-change-nothing = record {
  arrival = λ b out n ticket. kept (arrive_checks b (length out) n) (arrive_of (state_in b) n ticket) b out (arrival-accepts b (length out) n ticket);
  clock-end = λ b out n. kept (clock_end_checks b (length out) n) (clock_end_of (state_in b) n) b out (end-accepts b (length out) n);
}
