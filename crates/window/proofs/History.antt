-- The claims about one end over any history of calls. The numbers of an end that started fresh are
-- the true numbers of its history modulo 16; each call preserves that.
-- Assumes nothing.
use mathlib.Core.Path.{◌≡◌, refl, sym, ap, ◌∙◌, subst}
use mathlib.Core.Bool.{Bool, true, false}
use mathlib.Core.Logic.{◌⊎◌, inl, inr}
use mathlib.Core.List.{List, [], ◌∷◌, ◌++◌}
use Prim.Native.Nat.{ℕ, suc, ◌+◌, ◌%◌, ◌≤◌, zero-le}
use native.Mathlib.Numerals.{add-one}
use native.Mathlib.Decide.{dec_lt}
use native.Mathlib.Omega.{arith}
use lib.ListN.{length, length-append, get_or-append}
use lib.Seq.{get_or_at}
use Rattle.std.specs.Prelude.{Err}
use Rattle.refusal.specs.declared.Refusal.{Refusal}
use Rattle.sequence.specs.Numbers.{packet}
use Rattle.window.specs.declared.sender.Sender.{Sender}
use Rattle.window.specs.declared.sender.Sent.{Sent}
use Rattle.window.specs.declared.sender.Acknowledged.{Acknowledged}
use Rattle.window.specs.declared.receiver.Receiver.{Receiver}
use Rattle.window.specs.declared.receiver.Received.{Received}
use Rattle.window.specs.declared.receiver.Told.{Told}
use Rattle.window.specs.Sending.{fresh_sender, sender_in_order, send_of}
use Rattle.window.specs.Receiving.{fresh_receiver, receiver_in_order, receive_of, tell_of}
use Rattle.window.specs.History.{Numbered, Carrier, pr_of, SenderCall, send, take_pr, SenderHistory, note_grant, note_pr, sender_step, sender_run, sender_history, SenderClaim, ReceiverCall, receive, tell, ReceiverHistory, note_receipt, receiver_step, receiver_run, ReceiverClaim}
use Rattle.window.proofs.Ends.{sender_at, sender-good, SendCases, send-cases, mark_after, PrCases, pr-cases, fresh-good, taken-good, tell-told, tell-good, receive-taken, receive-cases}

-- ---- lists that are numbered

pub length_more : (l : List ℕ) (x : ℕ) → length (l ++ (x ∷ [])) ≡ suc (length l)
length_more l x = length-append l (x ∷ []) ∙ add-one (length l)

-- one more number at the end, which is its index modulo 16
numbered_more : (l : List ℕ) → Numbered l → Numbered (l ++ (length l % 16 ∷ []))
numbered_more l n i h = elim (dec_lt i (length l)) [
  | yes b ↦ get_or-append l (length l % 16 ∷ []) 0 i b ∙ n i b
  | no b ↦
      let e : length l ≡ i = omega (arith, length_more l (length l % 16)) in
      get_or_at l (length l % 16) [] 0 i e ∙ ap (λ (x : ℕ). x % 16) e
]

-- ---- the sending end

record SenderKept (s : Sender) (granted : List ℕ) (acknowledged : ℕ) : Type 0 where
  held : Bool
  at : s ≡ sender_at acknowledged (length granted) held
  low : acknowledged ≤ length granted
  high : length granted ≤ acknowledged + 15
  numbered : Numbered granted

send-keeps : (s : Sender) (l : List ℕ) (a : ℕ) → SenderKept s l a → SenderKept (send_of s).next (note_grant (send_of s).answer l) a
send-keeps s l a k = go (send-cases a (length l) k.held k.low k.high)
  where
    Kept : Sent → Type 0
    Kept r = SenderKept r.next (note_grant r.answer l) a

    go : SendCases a (length l) k.held → Kept (send_of s)
    go (inl w) =
        subst Kept (sym (ap send_of k.at ∙ w.1)) (record {
          held = k.held;
          at = ap (λ (n : ℕ). sender_at a n k.held) (sym (length_more l (length l % 16)));
          low = omega (arith, k.low, length_more l (length l % 16));
          high = omega (arith, w.0, length_more l (length l % 16));
          numbered = numbered_more l k.numbered;
        })
    go (inr w) =
        subst Kept (sym (ap send_of k.at ∙ w)) (record {
          held = k.held;
          at = refl;
          low = k.low;
          high = k.high;
          numbered = k.numbered;
        })

pr-keeps : (carrier : Carrier) (s : Sender) (l : List ℕ) (a pr : ℕ) → SenderKept s l a
    → SenderKept (pr_of carrier s pr).next l (note_pr (pr_of carrier s pr).verdict pr a)
pr-keeps carrier s l a pr k = go (pr-cases carrier a (length l) k.held pr k.low k.high)
  where
    Kept : Acknowledged → Type 0
    Kept r = SenderKept r.next l (note_pr r.verdict pr a)

    go : PrCases carrier a (length l) k.held pr → Kept (pr_of carrier s pr)
    go (inl w) =
        subst Kept (sym (ap (λ (t : Sender). pr_of carrier t pr) k.at ∙ w.1)) (record {
          held = mark_after carrier k.held;
          at = refl;
          low = w.0;
          high = omega (arith, k.high);
          numbered = k.numbered;
        })
    go (inr w) =
        subst Kept (sym (ap (λ (t : Sender). pr_of carrier t pr) k.at ∙ w.1)) (record {
          held = k.held;
          at = refl;
          low = k.low;
          high = k.high;
          numbered = k.numbered;
        })

sender-keeps : (h : SenderHistory) (calls : List SenderCall) → SenderKept h.next h.granted h.acknowledged
    → SenderKept (sender_run h calls).next (sender_run h calls).granted (sender_run h calls).acknowledged
unfolding sender_run
sender-keeps h [] k = k
sender-keeps h (send ∷ cs) k = sender-keeps (sender_step h send) cs (send-keeps h.next h.granted h.acknowledged k)
sender-keeps h (take_pr carrier pr ∷ cs) k =
    sender-keeps (sender_step h (take_pr carrier pr)) cs (pr-keeps carrier h.next h.granted h.acknowledged pr k)

pub sender-claim : (calls : List SenderCall) → SenderClaim calls
sender-claim calls =
    let k = sender-keeps (record { next = fresh_sender; granted = []; acknowledged = 0 }) calls (record {
      held = false;
      at = refl;
      low = zero-le;
      high = zero-le;
      numbered = λ i h. absurd (omega arith);
    }) in
    record {
      in_order = ap sender_in_order k.at ∙ sender-good (sender_history calls).acknowledged (length (sender_history calls).granted) k.held;
      at-most-15 = k.high;
      none_ahead = k.low;
      numbered = k.numbered;
    }

-- ---- the receiving end

record ReceiverKept (r : Receiver) (taken : List ℕ) : Type 0 where
  at : r.expected ≡ packet (length taken % 16)
  good : receiver_in_order r ≡ true
  numbered : Numbered taken

receive-keeps : (r : Receiver) (l : List ℕ) (ps : ℕ) → ReceiverKept r l → ReceiverKept (receive_of r ps).next (note_receipt (receive_of r ps).answer ps l)
receive-keeps r l ps k = go (receive-cases r ps (length l) k.good k.at)
  where
    Kept : Received → Type 0
    Kept a = ReceiverKept a.next (note_receipt a.answer ps l)

    go : (ps ≡ length l % 16) ⊎ ((why : Refusal) × (receive_of r ps ≡ record { answer = Err why; next = r })) → Kept (receive_of r ps)
    go (inl e) =
        subst Kept (sym (ap (receive_of r) e ∙ receive-taken r (length l) k.good k.at)) (record {
          at = ap (λ (n : ℕ). packet (n % 16)) (sym (length_more l ps));
          good = taken-good (suc (length l)) (r.untold + 1);
          numbered = subst (λ (x : ℕ). Numbered (l ++ (x ∷ []))) (sym e) (numbered_more l k.numbered);
        })
    go (inr w) = subst Kept (sym w.1) k

tell-keeps : (r : Receiver) (l : List ℕ) → ReceiverKept r l → ReceiverKept (tell_of r).next l
tell-keeps r l k = record {
  at = ap (λ (t : Told). t.next.expected) (tell-told r k.good) ∙ k.at;
  good = tell-good r k.good;
  numbered = k.numbered;
}

receiver-keeps : (h : ReceiverHistory) (calls : List ReceiverCall) → ReceiverKept h.next h.taken
    → ReceiverKept (receiver_run h calls).next (receiver_run h calls).taken
unfolding receiver_run
receiver-keeps h [] k = k
receiver-keeps h (receive ps ∷ cs) k = receiver-keeps (receiver_step h (receive ps)) cs (receive-keeps h.next h.taken ps k)
receiver-keeps h (tell ∷ cs) k = receiver-keeps (receiver_step h tell) cs (tell-keeps h.next h.taken k)

pub receiver-claim : (calls : List ReceiverCall) → ReceiverClaim calls
receiver-claim calls =
    let k = receiver-keeps (record { next = fresh_receiver; taken = [] }) calls (record {
      at = refl;
      good = fresh-good;
      numbered = λ i h. absurd (omega arith);
    }) in
    record { in_order = k.good; numbered = k.numbered }
