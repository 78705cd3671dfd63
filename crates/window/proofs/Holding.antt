-- The claim about the mark. Under the mark `send` is refused; an accepted PR sets the mark that its
-- packet stands for, and a refused one leaves it.
-- Assumes nothing.
use mathlib.Core.Path.{◌≡◌, refl, sym, ap, ◌∙◌}
use mathlib.Core.Bool.{Bool, true, false, not, ◌&&◌, false≢true}
use mathlib.Core.List.{List, [], ◌∷◌}
use Prim.Native.Nat.{ℕ}
use native.Mathlib.Omega.{arith}
use lib.Dec.{leb}
use Rattle.std.specs.Prelude.{Ok, Err}
use Rattle.refusal.specs.Numbers.{Verdict}
use Rattle.refusal.proofs.Checks.{check_done, both_true}
use Rattle.sequence.specs.Modular.{distance}
use Rattle.window.specs.declared.sender.Sender.{Sender}
use Rattle.window.specs.declared.sender.Acknowledged.{Acknowledged}
use Rattle.window.specs.Sending.{sender_in_order, send_verdict, send_by, send_of, acknowledge_verdict, acknowledge_by, acknowledge_of, ready_of, not_ready_of, reject_of}
use Rattle.window.specs.History.{Carrier, by_data, ready, not_ready, reject, pr_of, SenderCall, send, take_pr, SenderHistory, note_grant, sender_step, sender_run, Lifts, NoneLifts, HoldClaim}
use Rattle.window.proofs.Ends.{mark_after, pr-by}

-- ---- one call

-- the mark after a PR, by its verdict: `held` if it is accepted
mark-accepted : (v : Verdict) (s : Sender) (pr : ℕ) (held : Bool) → (acknowledge_by v s pr held).verdict ≡ Ok tt
    → (acknowledge_by v s pr held).next.held ≡ held
mark-accepted (Ok tt) s pr held e = refl
mark-accepted (Err why) s pr held e = let z : ◌≡◌ {A = ℕ} 0 1 = cc in absurd (omega arith)

-- a mark that stands stays, unless an accepted PR lifts it
mark-stays : (v : Verdict) (s : Sender) (pr : ℕ) (held : Bool) → s.held ≡ true → ((acknowledge_by v s pr held).verdict ≡ Ok tt → held ≡ true)
    → (acknowledge_by v s pr held).next.held ≡ true
mark-stays (Ok tt) s pr held e kept = kept refl
mark-stays (Err why) s pr held e kept = e

-- the same of each packet
pr-stays : (carrier : Carrier) (h : SenderHistory) (pr : ℕ) → h.next.held ≡ true → (Lifts h (take_pr carrier pr) → ⊥)
    → (pr_of carrier h.next pr).next.held ≡ true
unfolding acknowledge_of ready_of not_ready_of reject_of
pr-stays by_data h pr e none = mark-stays (acknowledge_verdict h.next pr) h.next pr h.next.held e (λ d. e)
pr-stays ready h pr e none = mark-stays (acknowledge_verdict h.next pr) h.next pr false e (λ d. absurd (none d))
pr-stays not_ready h pr e none = mark-stays (acknowledge_verdict h.next pr) h.next pr true e (λ d. refl)
pr-stays reject h pr e none = mark-stays (acknowledge_verdict h.next pr) h.next pr false e (λ d. absurd (none d))

next-by : (v : Verdict) (s : Sender) (pr : ℕ) (held : Bool) → (acknowledge_by v s pr held).next.ps ≡ s.ps
next-by (Ok tt) s pr held = refl
next-by (Err why) s pr held = refl

data-by : (v : Verdict) (s : Sender) (pr : ℕ) → (acknowledge_by v s pr s.held).next.held ≡ s.held
data-by (Ok tt) s pr = refl
data-by (Err why) s pr = refl

sent-by : (v : Verdict) (s : Sender) → (send_by v s).next.held ≡ s.held
sent-by (Ok tt) s = refl
sent-by (Err why) s = refl

-- under the mark nothing is granted
never-sent : (s : Sender) → s.held ≡ true → send_verdict s ≡ Ok tt → ⊥
unfolding send_verdict
never-sent s e d =
    let near : Bool = leb (distance 16 s.edge.0 s.ps.0) 14 in
    let both = check_done (near && not s.held) _ _ (check_done (sender_in_order s) _ _ d).1 in
    false≢true (ap not (sym e) ∙ (both_true near (not s.held) both.0).1)

none-by : (v : Verdict) (s : Sender) (granted : List ℕ) → (v ≡ Ok tt → ⊥) → note_grant (send_by v s).answer granted ≡ granted
none-by (Ok tt) s granted never = absurd (never refl)
none-by (Err why) s granted never = refl

-- ---- any calls

-- nothing is granted while no call lifts the mark
none-granted : (h : SenderHistory) (calls : List SenderCall) → h.next.held ≡ true → NoneLifts h calls → (sender_run h calls).granted ≡ h.granted
unfolding sender_run send_of
none-granted h [] e none = refl
none-granted h (send ∷ cs) e none =
    none-granted (sender_step h send) cs (sent-by (send_verdict h.next) h.next ∙ e) none.1
    ∙ none-by (send_verdict h.next) h.next h.granted (never-sent h.next e)
none-granted h (take_pr carrier pr ∷ cs) e none = none-granted (sender_step h (take_pr carrier pr)) cs (pr-stays carrier h pr e none.0) none.1

lifted : (h : SenderHistory) (c : SenderCall) → Lifts h c → (sender_step h c).next.held ≡ false
unfolding ready_of reject_of
lifted h send l = absurd l
lifted h (take_pr by_data pr) l = absurd l
lifted h (take_pr ready pr) l = mark-accepted (acknowledge_verdict h.next pr) h.next pr false l
lifted h (take_pr not_ready pr) l = absurd l
lifted h (take_pr reject pr) l = mark-accepted (acknowledge_verdict h.next pr) h.next pr false l

pub hold-claim : HoldClaim
unfolding sender_run send_of acknowledge_of not_ready_of
hold-claim = record {
  nothing-while-held = λ h pr calls d none.
      none-granted (sender_step h (take_pr not_ready pr)) calls (mark-accepted (acknowledge_verdict h.next pr) h.next pr true d) none;
  lifted = lifted;
  left-by-data = λ s pr. data-by (acknowledge_verdict s pr) s pr;
  left-by-sending = λ s. sent-by (send_verdict s) s;
  next-left = λ carrier s pr.
      ap (λ (r : Acknowledged). r.next.ps) (pr-by carrier s pr) ∙ next-by (acknowledge_verdict s pr) s pr (mark_after carrier s.held);
}
