-- The claim that refused calls of the window change nothing: document 01, "Refusal numbers": "A
-- refusal returns its number, counts of 0, unused places 0 and the same state".
-- proofs/Refusing.antt proves it.
-- Assumes nothing.
use Rattle.std.specs.Prelude.{◌≡◌, false, ◌≢◌, ℕ}
use Rattle.refusal.specs.Numbers.{refusal_number}
use Rattle.window.specs.declared.sender.Sender.{Sender}
use Rattle.window.specs.declared.receiver.Receiver.{Receiver}
use Rattle.window.specs.Sending.{grant_ps, send_of}
use Rattle.window.specs.History.{Carrier, pr_of}
use Rattle.window.specs.Receiving.{receipt_due, receive_of, telling_pr, tell_of}

-- a call whose refusal number is not 0 has the value 0 (the PS granted, the PR; for `receive`, PR
-- is not due) and returns the end that it was given
pub record RefusalsChangeNothing : Type 0 where
  pub send : (s : Sender) → refusal_number (send_of s).answer ≢ 0 → (grant_ps (send_of s).answer ≡ 0) × ((send_of s).next ≡ s)
  pub take-pr : (carrier : Carrier) (s : Sender) (pr : ℕ) → refusal_number (pr_of carrier s pr).verdict ≢ 0 → (pr_of carrier s pr).next ≡ s
  pub receive : (r : Receiver) (ps : ℕ) → refusal_number (receive_of r ps).answer ≢ 0
      → (receipt_due (receive_of r ps).answer ≡ false) × ((receive_of r ps).next ≡ r)
  pub tell : (r : Receiver) → refusal_number (tell_of r).answer ≢ 0 → (telling_pr (tell_of r).answer ≡ 0) × ((tell_of r).next ≡ r)
