-- One end in true numbers, that is, packets counted from 0 without wrapping: what each call does to
-- an end whose numbers are given true numbers modulo 16.
-- Assumes nothing.
use mathlib.Core.Path.{◌≡◌, refl, sym, ap, ap₂, ◌∙◌}
use mathlib.Core.Bool.{Bool, true, false, not, ◌&&◌, ◌||◌}
use Prim.Native.Nat.{ℕ, suc, ◌+◌, ◌-◌, ◌%◌, ◌≤◌, ◌<◌, min}
use native.Mathlib.Nat.{mod-lt, mod-eq_of_lt, mod-add-mod}
use native.Mathlib.Numerals.{add-one}
use mathlib.Core.Logic.{◌⊎◌, inl, inr}
use native.Mathlib.Omega.{arith}
use lib.Dec.{leb, eqb, lit<}
use borrow.Author.Tests.{le-leb, lt-ltb, eq-eqb, leb-true, ltb-true, eqb-true}
use Rattle.std.specs.Prelude.{Ok, Err}
use Rattle.refusal.specs.declared.Refusal.{Refusal}
use Rattle.refusal.specs.declared.Refusal.TheVariants.{WindowClosed}
use Rattle.refusal.specs.Numbers.{Verdict}
use Rattle.refusal.proofs.Checks.{check_done, both_true}
use Rattle.sequence.specs.declared.PacketNumber.{PacketNumber}
use Rattle.sequence.specs.Modular.{distance, next}
use Rattle.sequence.specs.Numbers.{packet, in_field}
use Rattle.sequence.proofs.Modular.{distance-reaches, distance-remainder, distance-apart}
use Rattle.window.specs.declared.sender.Sender.{Sender}
use Rattle.window.specs.declared.receiver.Receiver.{Receiver}
use Rattle.window.specs.Sending.{sender_in_order, send_verdict, send_of, acknowledge_verdict, acknowledge_by, acknowledge_of, ready_of, not_ready_of, reject_of}
use Rattle.window.specs.History.{Carrier, by_data, ready, not_ready, reject, pr_of}
use Rattle.window.specs.Receiving.{fresh_receiver, receiver_in_order, receive_verdict, count_after, due_after, receive_of, tell_verdict, tell_of}

-- ---- the sending end

-- the end after a packets acknowledged and g granted
abbrev pub sender_at : ℕ → ℕ → Bool → Sender
sender_at a g held = record { edge = packet (a % 16); ps = packet (g % 16); held = held }

small : (n : ℕ) → leb (n % 16) 15 ≡ true
small n = le-leb (n % 16) 15 (omega arith)

pub sender-good : (a g : ℕ) (held : Bool) → sender_in_order (sender_at a g held) ≡ true
unfolding sender_in_order
sender-good a g held = simp (small a, small g)

-- the number after n, modulo 16
after : (n : ℕ) → next 16 (n % 16) ≡ suc n % 16
after n = mod-add-mod n 16 1 ∙ ap (λ (x : ℕ). x % 16) (add-one n)

apart : (a g : ℕ) → a ≤ g → g ≤ a + 15 → distance 16 (a % 16) (g % 16) ≡ g - a
apart a g l h =
    let e : g ≡ a + (g - a) = omega arith in
    ap (λ (x : ℕ). distance 16 (a % 16) (x % 16)) e ∙ distance-apart 16 (lit< tt) a (g - a) (omega arith)

-- at most 14 are unacknowledged and the next one is granted, or none is and the end stays the same
abbrev pub SendCases : ℕ → ℕ → Bool → Type 0
SendCases a g held =
    ((g ≤ a + 14) × (send_of (sender_at a g held) ≡ record { answer = Ok (packet (g % 16)); next = sender_at a (suc g) held }))
    ⊎ (send_of (sender_at a g held) ≡ record { answer = Err WindowClosed; next = sender_at a g held })

pub send-cases : (a g : ℕ) (held : Bool) → a ≤ g → g ≤ a + 15 → SendCases a g held
unfolding send_of send_verdict
send-cases a g held l h = go (leb (distance 16 (a % 16) (g % 16)) 14 && not held) refl
  where
    go : (b : Bool) → (leb (distance 16 (a % 16) (g % 16)) 14 && not held) ≡ b → SendCases a g held
    go true e =
        let near : distance 16 (a % 16) (g % 16) ≤ 14 = leb-true _ 14 (both_true _ (not held) e).0 in
        inl (omega (arith, near, apart a g l h), simp (sender-good a g held, e, after g))
    go false e = inr (simp (sender-good a g held, e))

-- a PR in true numbers: it is a + distance modulo 16
reached : (a pr : ℕ) → pr < 16 → packet pr ≡ packet ((a + distance 16 a pr) % 16)
reached a pr h = ap packet (sym (distance-reaches 16 (lit< tt) a pr ∙ mod-eq_of_lt h))

-- the mark after an accepted PR
abbrev pub mark_after : Carrier → Bool → Bool
mark_after by_data held = held
mark_after ready held = false
mark_after not_ready held = true
mark_after reject held = false

-- the packet that carries a PR decides the mark, and nothing else
pub pr-by : (carrier : Carrier) (s : Sender) (pr : ℕ) → pr_of carrier s pr ≡ acknowledge_by (acknowledge_verdict s pr) s pr (mark_after carrier s.held)
unfolding acknowledge_of ready_of not_ready_of reject_of
pr-by by_data s pr = refl
pr-by ready s pr = refl
pr-by not_ready s pr = refl
pr-by reject s pr = refl

-- a PR is accepted and its true number is between a and g, or it is refused and the end stays the
-- same
abbrev pub PrCases : Carrier → ℕ → ℕ → Bool → ℕ → Type 0
PrCases carrier a g held pr =
    ((a + distance 16 a pr ≤ g)
    × (pr_of carrier (sender_at a g held) pr ≡ record { verdict = Ok tt; next = sender_at (a + distance 16 a pr) g (mark_after carrier held) }))
    ⊎ ((why : Refusal) × (pr_of carrier (sender_at a g held) pr ≡ record { verdict = Err why; next = sender_at a g held }))

pub pr-cases : (carrier : Carrier) (a g : ℕ) (held : Bool) (pr : ℕ) → a ≤ g → g ≤ a + 15 → PrCases carrier a g held pr
unfolding acknowledge_verdict
pr-cases carrier a g held pr l h = go (acknowledge_verdict (sender_at a g held) pr) refl
  where
    go : (v : Verdict) → acknowledge_verdict (sender_at a g held) pr ≡ v → PrCases carrier a g held pr
    go (Ok tt) e =
        let tests = check_done (in_field 16 pr) _ _ (check_done (sender_in_order (sender_at a g held)) _ _ e).1 in
        let near : distance 16 (a % 16) pr ≤ distance 16 (a % 16) (g % 16) = leb-true _ _ (check_done _ _ _ tests.1).0 in
        inl (
          omega (arith, near, apart a g l h, distance-remainder 16 (lit< tt) a pr),
          pr-by carrier (sender_at a g held) pr ∙ simp (e, ← (reached a pr (ltb-true pr 16 tests.0))),
        )
    go (Err why) e = inr (why, pr-by carrier (sender_at a g held) pr ∙ simp e)

-- a PR whose true number t is between a and g is accepted
pub pr-taken : (carrier : Carrier) (a t g : ℕ) (held : Bool) → a ≤ t → t ≤ g → g ≤ a + 15
    → pr_of carrier (sender_at a g held) (t % 16) ≡ record { verdict = Ok tt; next = sender_at t g (mark_after carrier held) }
unfolding acknowledge_verdict
pr-taken carrier a t g held l m h =
    let f : in_field 16 (t % 16) ≡ true = lt-ltb (t % 16) 16 (mod-lt t (lit< tt)) in
    let near : leb (distance 16 (a % 16) (t % 16)) (distance 16 (a % 16) (g % 16)) ≡ true =
    ap₂ leb (apart a t l (omega arith)) (apart a g (omega arith) h) ∙ le-leb (t - a) (g - a) (omega arith) in
    pr-by carrier (sender_at a g held) (t % 16) ∙ simp (sender-good a g held, f, near)

-- ---- the receiving end

pub fresh-good : receiver_in_order fresh_receiver ≡ true
unfolding receiver_in_order
fresh-good = refl

-- the end after an accepted PS is in good order
pub taken-good : (n u : ℕ) → receiver_in_order (record { expected = packet (n % 16); first = false; untold = min 8 u }) ≡ true
unfolding receiver_in_order
taken-good n u =
    let h : leb (min 8 u) 8 ≡ true = le-leb (min 8 u) 8 (omega arith) in
    simp (small n, h)

-- the end after telling PR is in good order
told-good : (r : Receiver) → receiver_in_order r ≡ true → receiver_in_order (record { expected = r.expected; first = r.first; untold = 0 }) ≡ true
unfolding receiver_in_order
told-good r e =
    let x = both_true (leb r.expected.0 15) _ e in
    let y = both_true (leb r.untold 8) _ x.1 in
    rw x.0 (mark r.first (eqb r.expected.0 0) (eqb r.untold 0) y.1)
  where
    mark : (f a b : Bool) → (not f || (a && b)) ≡ true → (not f || (a && true)) ≡ true
    mark false a b e = refl
    mark true true b e = refl
    mark true false b e = e

pub tell-told : (r : Receiver) → receiver_in_order r ≡ true
    → tell_of r ≡ record { answer = Ok r.expected; next = record { expected = r.expected; first = r.first; untold = 0 } }
unfolding tell_of tell_verdict
tell-told r e = simp e

pub tell-good : (r : Receiver) → receiver_in_order r ≡ true → receiver_in_order (tell_of r).next ≡ true
tell-good r e = rw (tell-told r e) (told-good r e)

-- the expected PS is accepted, whatever the mark and the count are
pub receive-taken : (r : Receiver) (n : ℕ) → receiver_in_order r ≡ true → r.expected ≡ packet (n % 16)
    → receive_of r (n % 16)
    ≡ record { answer = Ok (due_after r); next = record { expected = packet (suc n % 16); first = false; untold = count_after r } }
unfolding receive_of receive_verdict
receive-taken r n e x =
    let f : in_field 16 (n % 16) ≡ true = lt-ltb (n % 16) 16 (mod-lt n (lit< tt)) in
    let q : eqb (n % 16) r.expected.0 ≡ true = eq-eqb (n % 16) r.expected.0 (ap (λ (p : PacketNumber). p.0) (sym x)) in
    let s : next 16 r.expected.0 ≡ suc n % 16 = ap (λ (p : PacketNumber). next 16 p.0) x ∙ after n in
    simp (e, f, q, s)

-- a PS is the expected one, or it is refused and the end stays the same
pub receive-cases : (r : Receiver) (ps n : ℕ) → receiver_in_order r ≡ true → r.expected ≡ packet (n % 16)
    → (ps ≡ n % 16) ⊎ ((why : Refusal) × (receive_of r ps ≡ record { answer = Err why; next = r }))
unfolding receive_of receive_verdict
receive-cases r ps n g x = go (receive_verdict r ps) refl
  where
    go : (v : Verdict) → receive_verdict r ps ≡ v → (ps ≡ n % 16) ⊎ ((why : Refusal) × (receive_of r ps ≡ record { answer = Err why; next = r }))
    go (Ok tt) e =
        let tests = check_done (in_field 16 ps) _ _ (check_done (receiver_in_order r) _ _ e).1 in
        inl (eqb-true ps r.expected.0 (check_done _ _ _ tests.1).0 ∙ ap (λ (p : PacketNumber). p.0) x)
    go (Err why) e = inr (why, simp e)
