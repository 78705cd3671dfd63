-- At most 32 tickets leave in one call: an answer that hands on was made in good order, where NESN
-- goes up by at most 32.
-- Assumes nothing.
use mathlib.Core.Path.{◌≡◌, refl, sym, subst}
use mathlib.Core.Bool.{Bool, true, false, cond}
use mathlib.Core.List.{List, [], ◌∷◌, ◌++◌}
use Prim.Native.Nat.{ℕ, zero, suc, ◌-◌, ◌≤◌}
use native.Mathlib.Omega.{arith}
use lib.Dec.{ltb, eqb}
use lib.ListN.{length, replicate, length-append}
use Rattle.resequencer.specs.declared.Resequencer.{Resequencer}
use Rattle.resequencer.specs.declared.Answer.{Answer}
use Rattle.resequencer.specs.State.{is_held, ticket_of, ahead, number_at, in_order}
use Rattle.resequencer.specs.Events.{plain, places, hand_on, held_tickets, hold, run_after_nesn, hand_on_run, take_arrival, arrive_verdict, arrive_of, passed_by_clock, take_clock_end, clock_end_verdict, clock_end_of}
use Rattle.resequencer.proofs.Order.{in_order_lem}
use Rattle.resequencer.proofs.Bounds.{run-after-bound, passed-bound}
use Rattle.resequencer.proofs.Cases.{arrive-done, arrive-refused, arrive-passed, end-done, end_refused, end-passed}
use Rattle.resequencer_claims.specs.Calls.{Call, arrival, clock_end, answer_to}
use Rattle.resequencer_claims.specs.Wanted.{AtMost32}
use Rattle.refusal.specs.Numbers.{Verdict}
use Rattle.resequencer.specs.declared.Outcome.{Outcome}
use Rattle.resequencer.specs.declared.Outcome.TheVariants.{Held, Old, Duplicate}
use Rattle.std.specs.Prelude.{Result, Ok, Err}
use Rattle.refusal.specs.declared.Refusal.{Refusal}

-- an answer has at most 32 tickets, and a place for each
pub record Few (a : Answer) : Type 0 where
  pub most : a.count ≤ 32
  pub room : a.count ≤ length a.tickets

few-plain : (o : Result Outcome Refusal) (s : Resequencer) → Few (plain o s)
unfolding plain
few-plain o s = record { most = omega arith; room = omega arith }

few-hand_on : (ts : List ℕ) (s : Resequencer) → length ts ≤ 32 → Few (hand_on ts s)
unfolding hand_on places
few-hand_on ts s h = record { most = h; room = omega (arith, length-append ts (replicate (32 - length ts) 0)) }

few-cond : (b : Bool) (a c : Answer) → Few a → Few c → Few (cond b a c)
few-cond true a c p q = p
few-cond false a c p q = q

-- of m numbers at most m are held
held-most : (s : Resequencer) (d m : ℕ) → length (held_tickets s d m) ≤ m
unfolding held_tickets
held-most s d zero = omega arith
held-most s d (suc m) = go (is_held s (number_at s d)) (held-most s (suc d) m)
  where
    go : (b : Bool) → length (held_tickets s (suc d) m) ≤ m → length (cond b (ticket_of s (number_at s d) ∷ []) [] ++ held_tickets s (suc d) m) ≤ suc m
    go true h = omega arith
    go false h = omega arith

few-run : (s : Resequencer) (ticket : ℕ) → in_order s ≡ true → Few (hand_on_run s ticket)
unfolding hand_on_run
few-run s ticket g =
    few-hand_on (ticket ∷ held_tickets s 1 (run_after_nesn s)) _ (omega (arith, held-most s 1 (run_after_nesn s), run-after-bound s (in_order_lem s g)))

few-arrival : (s : Resequencer) (n ticket : ℕ) → Few (arrive_of s n ticket)
few-arrival s n ticket = go (arrive_verdict s n) refl
  where
    taken : in_order s ≡ true → Few (take_arrival s n ticket)
    taken g =
        (unfold take_arrival in
        few-cond (ltb 31 (ahead s n)) _ _ (few-plain (Ok Old) s)
        (few-cond (is_held s n) _ _ (few-plain (Ok Duplicate) s)
        (few-cond (eqb (ahead s n) 0) _ _ (few-run s ticket g) (few-plain (Ok Held) (hold s n ticket)))))

    go : (v : Verdict) → arrive_verdict s n ≡ v → Few (arrive_of s n ticket)
    go (Ok tt) e = subst Few (sym (arrive-done s n ticket e)) (taken (arrive-passed s n e).0)
    go (Err why) e = subst Few (sym (arrive-refused s n ticket why e)) (few-plain (Err why) s)

few-passed : (s : Resequencer) (n : ℕ) → clock_end_verdict s n ≡ Ok tt → Few (take_clock_end s n)
unfolding take_clock_end
few-passed s n e =
    let p = end-passed s n e in
    few-hand_on (held_tickets s 0 (passed_by_clock s n)) _ (omega (arith, held-most s 0 (passed_by_clock s n), passed-bound s (in_order_lem s p.0) n p.1.0 p.1.1))

few-end : (s : Resequencer) (n : ℕ) → Few (clock_end_of s n)
few-end s n = go (clock_end_verdict s n) refl
  where
    go : (v : Verdict) → clock_end_verdict s n ≡ v → Few (clock_end_of s n)
    go (Ok tt) e = subst Few (sym (end-done s n e)) (few-passed s n e)
    go (Err why) e = subst Few (sym (end_refused s n why e)) (few-plain (Err why) s)

pub few : (s : Resequencer) (c : Call) → Few (answer_to s c)
few s (arrival sn ticket) = few-arrival s sn ticket
few s (clock_end sn) = few-end s sn

pub at-most-32 : AtMost32
at-most-32 s c = (few s c).most
