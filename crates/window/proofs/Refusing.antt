-- Refusals change nothing: a call that is done has the number 0, and the definition of a refused
-- one returns the given end.
-- Assumes nothing.
use mathlib.Core.Path.{◌≡◌, refl, sym, subst}
use mathlib.Core.Bool.{Bool, false}
use mathlib.Core.Logic.{◌≢◌}
use Prim.Native.Nat.{ℕ}
use Rattle.std.specs.Prelude.{Ok, Err}
use Rattle.refusal.specs.Numbers.{refusal_number, Verdict}
use Rattle.window.specs.declared.sender.Sender.{Sender}
use Rattle.window.specs.declared.sender.Acknowledged.{Acknowledged}
use Rattle.window.specs.declared.receiver.Receiver.{Receiver}
use Rattle.window.specs.Sending.{grant_ps, send_verdict, send_by, send_of, acknowledge_verdict, acknowledge_by}
use Rattle.window.specs.Receiving.{receipt_due, receive_verdict, receive_by, receive_of, telling_pr, tell_verdict, tell_by, tell_of}
use Rattle.window.specs.History.{Carrier, pr_of}
use Rattle.window.specs.Refusing.{RefusalsChangeNothing}
use Rattle.window.proofs.Ends.{mark_after, pr-by}

send_by_lem : (v : Verdict) (s : Sender) → refusal_number (send_by v s).answer ≢ 0 → (grant_ps (send_by v s).answer ≡ 0) × ((send_by v s).next ≡ s)
send_by_lem (Ok tt) s h = absurd (h refl)
send_by_lem (Err why) s h = (refl, refl)

acknowledge-by : (v : Verdict) (s : Sender) (pr : ℕ) (held : Bool) → refusal_number (acknowledge_by v s pr held).verdict ≢ 0 → (acknowledge_by v s pr held).next ≡ s
acknowledge-by (Ok tt) s pr held h = absurd (h refl)
acknowledge-by (Err why) s pr held h = refl

take-pr : (carrier : Carrier) (s : Sender) (pr : ℕ) → refusal_number (pr_of carrier s pr).verdict ≢ 0 → (pr_of carrier s pr).next ≡ s
take-pr carrier s pr =
    subst (λ (r : Acknowledged). refusal_number r.verdict ≢ 0 → r.next ≡ s) (sym (pr-by carrier s pr))
    (acknowledge-by (acknowledge_verdict s pr) s pr (mark_after carrier s.held))

receive-by : (v : Verdict) (r : Receiver) → refusal_number (receive_by v r).answer ≢ 0
    → (receipt_due (receive_by v r).answer ≡ false) × ((receive_by v r).next ≡ r)
receive-by (Ok tt) r h = absurd (h refl)
receive-by (Err why) r h = (refl, refl)

tell-by : (v : Verdict) (r : Receiver) → refusal_number (tell_by v r).answer ≢ 0 → (telling_pr (tell_by v r).answer ≡ 0) × ((tell_by v r).next ≡ r)
tell-by (Ok tt) r h = absurd (h refl)
tell-by (Err why) r h = (refl, refl)

pub refusals-change-nothing : RefusalsChangeNothing
unfolding send_of receive_of tell_of
refusals-change-nothing = record {
  send = λ s. send_by_lem (send_verdict s) s;
  take-pr = take-pr;
  receive = λ r ps. receive-by (receive_verdict r ps) r;
  tell = λ r. tell-by (tell_verdict r) r;
}
