-- The two ends together. In true numbers: a packets are acknowledged at the sending end, t accepted
-- at the receiving end and g granted, with a ≤ t ≤ g ≤ a + 15. The packets on the way are those
-- from t up to g; the PR on the way rise from a to t. Each event preserves that, and no delivery is
-- refused.
-- Assumes nothing.
use mathlib.Core.Path.{◌≡◌, refl, sym, ap, ap₂, ◌∙◌, subst}
use mathlib.Core.Bool.{Bool, true, false}
use mathlib.Core.Logic.{inl, inr}
use mathlib.Core.List.{List, [], ◌∷◌, ◌++◌, map}
use Prim.Native.Nat.{ℕ, zero, suc, ◌+◌, ◌%◌, ◌≤◌, zero-le}
use native.Mathlib.Omega.{arith}
use lib.ListN.{length, replicate}
use Rattle.std.specs.Prelude.{Ok}
use Rattle.refusal.specs.Numbers.{refusal_number}
use Rattle.sequence.specs.declared.PacketNumber.{PacketNumber}
use Rattle.sequence.specs.Numbers.{packet}
use Rattle.window.specs.declared.sender.Sender.{Sender}
use Rattle.window.specs.declared.sender.Sent.{Sent}
use Rattle.window.specs.declared.sender.Acknowledged.{Acknowledged}
use Rattle.window.specs.declared.receiver.Received.{Received}
use Rattle.window.specs.declared.receiver.Told.{Told}
use Rattle.window.specs.Sending.{fresh_sender, send_of}
use Rattle.window.specs.Receiving.{fresh_receiver, receiver_in_order}
use Rattle.window.specs.History.{Carrier, pr_of, note_grant}
use Rattle.window.specs.BothEnds.{OnTheWay, Flow, FlowEvent, grant, deliver, tell, deliver_pr, note_telling, delivered, delivered_pr, flow_step, flow_run, NoneRefused}
use Rattle.window.proofs.Ends.{sender_at, SendCases, send-cases, mark_after, pr-taken, taken-good, fresh-good, tell-told, tell-good, receive-taken}

-- the PS of the n packets starting at true number s
abbrev numbers_from : ℕ → ℕ → List ℕ
numbers_from s zero = []
numbers_from s (suc n) = s % 16 ∷ numbers_from (suc s) n

from_more : (s n : ℕ) → numbers_from s n ++ ((s + n) % 16 ∷ []) ≡ numbers_from s (suc n)
from_more s zero = ap (λ (x : ℕ). x % 16 ∷ []) (omega arith)
from_more s (suc n) = ap (λ (l : List ℕ). s % 16 ∷ l) (ap (λ (x : ℕ). numbers_from (suc s) n ++ (x % 16 ∷ [])) (omega arith) ∙ from_more (suc s) n)

-- a PR on the way in true numbers, and the packet that carries it
record TrueTelling : Type 0 where
  carrier : Carrier
  count : ℕ

-- true numbers that do not fall, from low up to high
abbrev Rising : ℕ → ℕ → List TrueTelling → Type 0
Rising low high [] = low ≤ high
Rising low high (t ∷ ts) = (low ≤ t.count) × Rising t.count high ts

rising-more : (low high : ℕ) (carrier : Carrier) (ts : List TrueTelling) → Rising low high ts
    → Rising low high (ts ++ (record { carrier = carrier; count = high } ∷ []))
rising-more low high carrier [] r = (r, omega arith)
rising-more low high carrier (t ∷ ts) r = (r.0, rising-more t.count high carrier ts r.1)

rising-wider : (low high higher : ℕ) (ts : List TrueTelling) → high ≤ higher → Rising low high ts → Rising low higher ts
rising-wider low high higher [] h r = omega arith
rising-wider low high higher (t ∷ ts) h r = (r.0, rising-wider t.count high higher ts h r.1)

rising-ends : (low high : ℕ) (ts : List TrueTelling) → Rising low high ts → low ≤ high
rising-ends low high [] r = r
rising-ends low high (t ∷ ts) r = omega (arith, r.0, rising-ends t.count high ts r.1)

abbrev wrap : TrueTelling → OnTheWay
wrap t = record { carrier = t.carrier; pr = t.count % 16 }

abbrev wrapped : List TrueTelling → List OnTheWay
wrapped = map wrap

map_more : (ts : List TrueTelling) (t : TrueTelling) → wrapped ts ++ (wrap t ∷ []) ≡ wrapped (ts ++ (t ∷ []))
map_more [] t = refl
map_more (x ∷ ts) t = ap (λ (l : List OnTheWay). wrap x ∷ l) (map_more ts t)

-- all refusal numbers are 0
abbrev AllDone : List ℕ → Type 0
AllDone l = l ≡ replicate (length l) 0

done_more : (l : List ℕ) → AllDone l → AllDone (l ++ (0 ∷ []))
done_more [] e = refl
done_more (x ∷ l) e =
    let p : x ≡ 0 = cc in
    let q : l ≡ replicate (length l) 0 = cc in
    ap₂ ◌∷◌ p (done_more l q)

record Kept (f : Flow) : Type 0 where
  acknowledged : ℕ
  taken : ℕ
  on-the-way : ℕ
  told : List TrueTelling
  held : Bool
  sender-at : f.sender ≡ sender_at acknowledged (taken + on-the-way) held
  window : taken + on-the-way ≤ acknowledged + 15
  receiver-at : f.receiver.expected ≡ packet (taken % 16)
  receiver-good : receiver_in_order f.receiver ≡ true
  packets-are : f.packets ≡ numbers_from taken on-the-way
  tellings-are : f.tellings ≡ wrapped told
  rising : Rising acknowledged taken told
  all_done : AllDone f.numbers

-- ---- each event preserves it

-- the flow after the answer r of the sending end
abbrev granted_by : Flow → Sent → Flow
granted_by f r = record {
  sender = r.next;
  receiver = f.receiver;
  packets = note_grant r.answer f.packets;
  tellings = f.tellings;
  numbers = f.numbers;
}

grant-keeps : (f : Flow) → Kept f → Kept (flow_step f grant)
grant-keeps f k = go (send-cases k.acknowledged (k.taken + k.on-the-way) k.held ahead k.window)
  where
    ahead : k.acknowledged ≤ k.taken + k.on-the-way
    ahead = omega (arith, rising-ends k.acknowledged k.taken k.told k.rising)

    go : SendCases k.acknowledged (k.taken + k.on-the-way) k.held → Kept (granted_by f (send_of f.sender))
    go (inl w) =
        subst (λ (r : Sent). Kept (granted_by f r)) (sym (ap send_of k.sender-at ∙ w.1)) (record {
          acknowledged = k.acknowledged;
          taken = k.taken;
          on-the-way = suc k.on-the-way;
          told = k.told;
          held = k.held;
          sender-at = ap (λ (n : ℕ). sender_at k.acknowledged n k.held) (omega arith);
          window = omega (arith, w.0);
          receiver-at = k.receiver-at;
          receiver-good = k.receiver-good;
          packets-are =
              ap (λ (l : List ℕ). l ++ ((k.taken + k.on-the-way) % 16 ∷ [])) k.packets-are ∙ from_more k.taken k.on-the-way;
          tellings-are = k.tellings-are;
          rising = k.rising;
          all_done = k.all_done;
        })
    go (inr w) =
        subst (λ (r : Sent). Kept (granted_by f r)) (sym (ap send_of k.sender-at ∙ w)) (record {
          acknowledged = k.acknowledged;
          taken = k.taken;
          on-the-way = k.on-the-way;
          told = k.told;
          held = k.held;
          sender-at = refl;
          window = k.window;
          receiver-at = k.receiver-at;
          receiver-good = k.receiver-good;
          packets-are = k.packets-are;
          tellings-are = k.tellings-are;
          rising = k.rising;
          all_done = k.all_done;
        })

deliver-keeps : (f : Flow) → Kept f → Kept (flow_step f deliver)
deliver-keeps f k = subst (λ (l : List ℕ). Kept (delivered f l)) (sym k.packets-are) (go k.on-the-way refl)
  where
    go : (n : ℕ) → k.on-the-way ≡ n → Kept (delivered f (numbers_from k.taken n))
    go zero e = k
    go (suc n) e =
        let r = receive-taken f.receiver k.taken k.receiver-good k.receiver-at in
        record {
          acknowledged = k.acknowledged;
          taken = suc k.taken;
          on-the-way = n;
          told = k.told;
          held = k.held;
          sender-at = k.sender-at ∙ ap (λ (n : ℕ). sender_at k.acknowledged n k.held) (omega arith);
          window = omega (arith, k.window);
          receiver-at = ap (λ (a : Received). a.next.expected) r;
          receiver-good = ap (λ (a : Received). receiver_in_order a.next) r ∙ taken-good (suc k.taken) (f.receiver.untold + 1);
          packets-are = refl;
          tellings-are = k.tellings-are;
          rising = rising-wider k.acknowledged k.taken (suc k.taken) k.told (omega arith) k.rising;
          all_done =
              subst (λ (x : ℕ). AllDone (f.numbers ++ (x ∷ []))) (sym (ap (λ (a : Received). refusal_number a.answer) r)) (done_more f.numbers k.all_done);
        }

tell-keeps : (f : Flow) (carrier : Carrier) → Kept f → Kept (flow_step f (tell carrier))
tell-keeps f carrier k =
    let r = tell-told f.receiver k.receiver-good in
    record {
      acknowledged = k.acknowledged;
      taken = k.taken;
      on-the-way = k.on-the-way;
      told = k.told ++ (record { carrier = carrier; count = k.taken } ∷ []);
      held = k.held;
      sender-at = k.sender-at;
      window = k.window;
      receiver-at = ap (λ (a : Told). a.next.expected) r ∙ k.receiver-at;
      receiver-good = tell-good f.receiver k.receiver-good;
      packets-are = k.packets-are;
      tellings-are =
          ap (λ (a : Told). note_telling a.answer carrier f.tellings) r
          ∙ ap₂ (λ (l : List OnTheWay) (p : PacketNumber). l ++ (record { carrier = carrier; pr = p.0 } ∷ [])) k.tellings-are k.receiver-at
          ∙ map_more k.told (record { carrier = carrier; count = k.taken });
      rising = rising-more k.acknowledged k.taken carrier k.told k.rising;
      all_done = k.all_done;
    }

deliver_pr-keeps : (f : Flow) → Kept f → Kept (flow_step f deliver_pr)
deliver_pr-keeps f k = subst (λ (l : List OnTheWay). Kept (delivered_pr f l)) (sym k.tellings-are) (go k.told k.rising)
  where
    go : (ts : List TrueTelling) → Rising k.acknowledged k.taken ts → Kept (delivered_pr f (wrapped ts))
    go [] h = k
    go (t ∷ ts) h =
        let far : t.count ≤ k.taken = rising-ends t.count k.taken ts h.1 in
        let near : k.acknowledged ≤ t.count = h.0 in
        let after : Bool = mark_after t.carrier k.held in
        let r : pr_of t.carrier f.sender (t.count % 16) ≡ record { verdict = Ok tt; next = sender_at t.count (k.taken + k.on-the-way) after } =
        ap (λ (s : Sender). pr_of t.carrier s (t.count % 16)) k.sender-at
        ∙ pr-taken t.carrier k.acknowledged t.count (k.taken + k.on-the-way) k.held near (omega arith) k.window in
        record {
          acknowledged = t.count;
          taken = k.taken;
          on-the-way = k.on-the-way;
          told = ts;
          held = after;
          sender-at = ap (λ (a : Acknowledged). a.next) r;
          window = omega (arith, k.window);
          receiver-at = k.receiver-at;
          receiver-good = k.receiver-good;
          packets-are = k.packets-are;
          tellings-are = refl;
          rising = h.1;
          all_done =
              subst (λ (x : ℕ). AllDone (f.numbers ++ (x ∷ []))) (sym (ap (λ (a : Acknowledged). refusal_number a.verdict) r)) (done_more f.numbers k.all_done);
        }

step_keeps : (f : Flow) (e : FlowEvent) → Kept f → Kept (flow_step f e)
step_keeps f grant k = grant-keeps f k
step_keeps f deliver k = deliver-keeps f k
step_keeps f (tell carrier) k = tell-keeps f carrier k
step_keeps f deliver_pr k = deliver_pr-keeps f k

run-keeps : (f : Flow) (events : List FlowEvent) → Kept f → Kept (flow_run f events)
unfolding flow_run
run-keeps f [] k = k
run-keeps f (e ∷ es) k = run-keeps (flow_step f e) es (step_keeps f e k)

pub none-refused : (events : List FlowEvent) → NoneRefused events
none-refused events =
    (run-keeps (record { sender = fresh_sender; receiver = fresh_receiver; packets = []; tellings = []; numbers = [] }) events (record {
      acknowledged = 0;
      taken = 0;
      on-the-way = 0;
      told = [];
      held = false;
      sender-at = refl;
      window = zero-le;
      receiver-at = refl;
      receiver-good = fresh-good;
      packets-are = refl;
      tellings-are = refl;
      rising = zero-le;
      all_done = refl;
    })
    ).all_done
