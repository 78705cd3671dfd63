-- A refused call of a sending end returns the end whose bytes it was given, so that the code need
-- not write them.
-- Assumes nothing.
use mathlib.Core.Path.{◌≡◌, sym, ap, ◌∙◌}
use mathlib.Core.List.{List}
use mathlib.Core.Logic.{◌≢◌}
use Prim.Native.Nat.{ℕ}
use native.Mathlib.Omega.{arith}
use Rattle.std.specs.Prelude.{true, Err}
use Rattle.refusal.specs.declared.Refusal.{Refusal}
use Rattle.refusal.specs.Numbers.{refusal_number}
use Rattle.refusal.proofs.Numbers.{number-range}
use Rattle.window.specs.declared.sender.Sender.{Sender}
use Rattle.window.specs.declared.sender.Sent.{Sent}
use Rattle.window.specs.declared.sender.Acknowledged.{Acknowledged}
use Rattle.window.specs.Sending.{send_of}
use Rattle.window.specs.History.{Carrier, pr_of}
use Rattle.window.proofs.Refusing.{refusals-change-nothing}
use Rattle.window_bytes.specs.Stored.{is_sender, sender_in, sender_bytes, send_bytes}
use Rattle.window_bytes.proofs.Stored.{sender_bytes_back}

-- asking for a PS
pub send-kept : (b : List ℕ) (end : Sender) (sent : Sent) (why : Refusal) → is_sender b ≡ true → end ≡ sender_in b → sent ≡ send_of end → sent.answer ≡ Err why
    → b ≡ send_bytes b
unfolding send_bytes
send-kept b end sent why h at e is =
    let s : sent ≡ send_of (sender_in b) = e ∙ ap send_of at in
    let refused : refusal_number (send_of (sender_in b)).answer ≢ 0 =
    λ z. absurd (omega (arith, (number-range why).0, z, ap (λ (x : Sent). refusal_number x.answer) s, ap refusal_number is)) in
    rw h (sym (ap sender_bytes (refusals-change-nothing.send (sender_in b) refused).1 ∙ sender_bytes_back b h))

-- a received PR, whichever packet carries it
pub pr-kept : (carrier : Carrier) (b : List ℕ) (end : Sender) (pr : ℕ) (a : Acknowledged) → is_sender b ≡ true → end ≡ sender_in b → a ≡ pr_of carrier end pr
    → refusal_number a.verdict ≢ 0 → sender_bytes a.next ≡ b
pr-kept carrier b end pr a h at e refused =
    let s : a ≡ pr_of carrier (sender_in b) pr = e ∙ ap (λ (x : Sender). pr_of carrier x pr) at in
    ap (λ (x : Acknowledged). sender_bytes x.next) s
    ∙ ap sender_bytes (refusals-change-nothing.take-pr carrier (sender_in b) pr (λ z. refused (ap (λ (x : Acknowledged). refusal_number x.verdict) s ∙ z)))
    ∙ sender_bytes_back b h
