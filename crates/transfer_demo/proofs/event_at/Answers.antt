-- `transfer_demo::event_at` meets its contract: each number of a turn has its event, and the last
-- is a stray arrival.
-- Assumes nothing.
use mathlib.Core.Path.{◌≡◌, sym, ap}
use Prim.Native.Nat.{ℕ, suc, ◌*◌, ◌/◌, ◌%◌, ◌≤◌, zero-le}
use native.Mathlib.Omega.{arith}
use lib.ListN.{get_or}
use Rattle.resequencer_claims.specs.Events.{stray}
use Rattle.transfer_claims.specs.Rule.{turns, call_at}
use Rattle.transfer_demo.proofs.event_at.Goals as goal

turn : (step k : ℕ) → step % 12 ≡ k → get_or (turns (step / 12 * 8)) k (stray 64 0) ≡ call_at step
unfolding call_at
turn step k e = ap (λ (n : ℕ). get_or (turns (step / 12 * 8)) n (stray 64 0)) (sym e)

above : {k n : ℕ} → n ≤ k → (k ≡ n → ⊥) → suc n ≤ k
above h q = omega arith

last_turn : (step : ℕ) → 11 ≤ step % 12 → stray 64 0 ≡ call_at step
last_turn step h = let e : step % 12 ≡ 11 = omega arith in turn step 11 e

pub returns-in-0 : goal.returns-in-0
returns-in-0 c = turn _ 0 c.in-0.is

pub returns-in-1 : goal.returns-in-1
returns-in-1 c = turn _ 1 c.in-1.is

pub returns-in-2 : goal.returns-in-2
returns-in-2 c = turn _ 2 c.in-2.is

pub returns-in-3 : goal.returns-in-3
returns-in-3 c = turn _ 3 c.in-3.is

pub returns-in-4 : goal.returns-in-4
returns-in-4 c = turn _ 4 c.in-4.is

pub returns-in-5 : goal.returns-in-5
returns-in-5 c = turn _ 5 c.in-5.is

pub returns-in-6 : goal.returns-in-6
returns-in-6 c = turn _ 6 c.in-6.is

pub returns-in-7 : goal.returns-in-7
returns-in-7 c = turn _ 7 c.in-7.is

pub returns-in-8 : goal.returns-in-8
returns-in-8 c = turn _ 8 c.in-8.is

pub returns-in-9 : goal.returns-in-9
returns-in-9 c = turn _ 9 c.in-9.is

pub returns-in-10 : goal.returns-in-10
returns-in-10 c = turn _ 10 c.in-10.is

pub returns-in_default : goal.returns-in_default
returns-in_default c =
    let rest : 11 ≤ c.args.step % 12 = let r = c.in_default.in_default-own.rest in
    above (above (above (above (above (above (above (above (above (above (above zero-le r.0.0.0.0.0.0.0.0.0.0.1) r.0.0.0.0.0.0.0.0.0.1)
    r.0.0.0.0.0.0.0.0.1) r.0.0.0.0.0.0.0.1) r.0.0.0.0.0.0.1) r.0.0.0.0.0.1) r.0.0.0.0.1) r.0.0.0.1) r.0.0.1) r.0.1) r.1 in last_turn _ rest
