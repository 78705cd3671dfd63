-- Proofs of the claims. Encoding loses nothing by the laws in Stored.antt. A refused call returns
-- the end that it was given and no value, so that its bytes stay as they were; bytes that encode no
-- end are not written at all.
-- Assumes nothing.
use mathlib.Core.Path.{◌≡◌, refl, ap, ◌∙◌, subst}
use mathlib.Core.Bool.{Bool, true, false, cond}
use mathlib.Core.List.{List}
use mathlib.Core.Logic.{◌≢◌}
use Prim.Native.Nat.{ℕ, ◌≤◌}
use native.Mathlib.Omega.{arith}
use lib.Dec.{eqb, lit≤}
use lib.ListN.{length}
use Rattle.std.specs.Prelude.{Result, Ok, Err}
use Rattle.refusal.specs.declared.Refusal.{Refusal}
use Rattle.refusal.specs.Numbers.{refusal_number}
use Rattle.refusal.proofs.Numbers.{number-range}
use Rattle.little.specs.Little.{flag}
use Rattle.window.specs.Sending.{grant_ps, send_of}
use Rattle.window.specs.History.{Carrier, pr_of}
use Rattle.window.specs.Receiving.{receipt_due, receive_of, telling_pr, tell_of}
use Rattle.window.proofs.Refusing.{refusals-change-nothing as ends-unchanged}
use Rattle.window_bytes.specs.Stored.{answer_with, is_sender, sender_in, sender_bytes, grant_answer, is_receiver, receiver_in, receiver_bytes, receipt_answer, telling_answer, fresh_sender_answer, fresh_sender_bytes, send_answer, send_bytes, pr_answer, pr_bytes, fresh_receiver_answer, fresh_receiver_bytes, receive_answer, receive_bytes, tell_answer, tell_bytes}
use Rattle.window_bytes.specs.Claims.{RoundTrips, Unchanged, RefusalsChangeNothing}
use Rattle.window_bytes.proofs.Stored.{sender-encoded, sender-back, sender_bytes_back, receiver-encoded, receiver-back, receiver_bytes_back}

pub round-trips : RoundTrips
round-trips = record {
  sender-encoded = sender-encoded;
  sender-back = sender-back;
  sender-bytes-back = sender_bytes_back;
  receiver-encoded = receiver-encoded;
  receiver-back = receiver-back;
  receiver-bytes-back = receiver_bytes_back;
}

-- a refusal number is below 256
small : {T : Type 0} (answer : Result T Refusal) → refusal_number answer ≤ 255
small (Ok value) = lit≤ tt
small (Err why) = omega (arith, (number-range why).1)

-- ---- refusals

-- `Unchanged` from the refusal number and the value of the answer
unchanged : (number value : ℕ) (after before : List ℕ) → number ≤ 255 → (number ≢ 0 → (value ≡ 0) × (after ≡ before))
    → Unchanged (answer_with number value) after before
unchanged number value after before below told h =
    let k = told (λ (z : number ≡ 0). h (omega arith)) in (omega (arith, k.0), k.1)

-- bytes that fail the test of a call are refused with 14 and stay as they were
tested : (t : Bool) (answer : ℕ) (bytes b : List ℕ) → (t ≡ true → Unchanged answer bytes b) → Unchanged (cond t answer 14) (cond t bytes b) b
tested true answer bytes b told = told refl
tested false answer bytes b told = λ h. (refl, refl)

-- the call that writes a fresh end is refused by that test only
fresh : (t : Bool) (bytes b : List ℕ) → Unchanged (cond t 0 14) (cond t bytes b) b
fresh t bytes b = tested t 0 bytes b (λ e h. absurd (h refl))

send : (b : List ℕ) → Unchanged (send_answer b) (send_bytes b) b
unfolding send_answer send_bytes
send b =
    let a = send_of (sender_in b) in
    tested (is_sender b) (grant_answer a.answer) (sender_bytes a.next) b (λ e.
    unchanged (refusal_number a.answer) (grant_ps a.answer) (sender_bytes a.next) b (small a.answer) (λ z.
    let k = ends-unchanged.send (sender_in b) z in (k.0, ap sender_bytes k.1 ∙ sender_bytes_back b e)))

take-pr : (carrier : Carrier) (b : List ℕ) (pr : ℕ) → Unchanged (pr_answer carrier b pr) (pr_bytes carrier b pr) b
unfolding pr_answer pr_bytes
take-pr carrier b pr =
    let a = pr_of carrier (sender_in b) pr in
    let none : answer_with (refusal_number a.verdict) 0 ≡ refusal_number a.verdict = omega arith in
    tested (is_sender b) (refusal_number a.verdict) (sender_bytes a.next) b (λ e.
    subst (λ (n : ℕ). Unchanged n (sender_bytes a.next) b) none
    (unchanged (refusal_number a.verdict) 0 (sender_bytes a.next) b (small a.verdict) (λ z.
    (refl, ap sender_bytes (ends-unchanged.take-pr carrier (sender_in b) pr z) ∙ sender_bytes_back b e))))

receive : (b : List ℕ) (ps : ℕ) → Unchanged (receive_answer b ps) (receive_bytes b ps) b
unfolding receive_answer receive_bytes
receive b ps =
    let a = receive_of (receiver_in b) ps in
    tested (is_receiver b) (receipt_answer a.answer) (receiver_bytes a.next) b (λ e.
    unchanged (refusal_number a.answer) (flag (receipt_due a.answer)) (receiver_bytes a.next) b (small a.answer) (λ z.
    let k = ends-unchanged.receive (receiver_in b) ps z in (ap flag k.0, ap receiver_bytes k.1 ∙ receiver_bytes_back b e)))

tell : (b : List ℕ) → Unchanged (tell_answer b) (tell_bytes b) b
unfolding tell_answer tell_bytes
tell b =
    let a = tell_of (receiver_in b) in
    tested (is_receiver b) (telling_answer a.answer) (receiver_bytes a.next) b (λ e.
    unchanged (refusal_number a.answer) (telling_pr a.answer) (receiver_bytes a.next) b (small a.answer) (λ z.
    let k = ends-unchanged.tell (receiver_in b) z in (k.0, ap receiver_bytes k.1 ∙ receiver_bytes_back b e)))

pub refusals-change-nothing : RefusalsChangeNothing
unfolding fresh_sender_answer fresh_sender_bytes fresh_receiver_answer fresh_receiver_bytes
refusals-change-nothing = record {
  sender-fresh = λ b. fresh (eqb (length b) 3) _ b;
  send = send;
  take-pr = take-pr;
  receiver-fresh = λ b. fresh (eqb (length b) 3) _ b;
  receive = receive;
  tell = tell;
}
