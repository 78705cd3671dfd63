-- Encoding and decoding are inverse to each other.
-- Assumes nothing.
use mathlib.Core.Path.{◌≡◌, refl, sym, ap, ◌∙◌}
use mathlib.Core.Bool.{Bool, true, false, ◌&&◌}
use mathlib.Core.List.{List, [], ◌∷◌}
use Prim.Native.Nat.{ℕ, zero, suc, ◌≤◌}
use native.Mathlib.Omega.{arith}
use lib.Dec.{leb, eqb}
use lib.ListN.{length, get_or, set}
use borrow.Author.Tests.{leb-true, eqb-true}
use Rattle.refusal.proofs.Checks.{both_true}
use Rattle.sequence.specs.Numbers.{packet}
use Rattle.window.specs.declared.sender.Sender.{Sender}
use Rattle.window.specs.declared.receiver.Receiver.{Receiver}
use Rattle.little.specs.Little.{flag}
use Rattle.window_bytes.specs.Stored.{is_sender, sender_in, sender_bytes, is_receiver, receiver_in, receiver_bytes}

-- ---- lists of three

-- what holds of x ∷ y ∷ z ∷ [] holds of every list of three
of_three : (P : List ℕ → Type 0) → ((x y z : ℕ) → P (x ∷ y ∷ z ∷ [])) → (b : List ℕ) → length b ≡ 3 → P b
of_three P p [] h = absurd (omega arith)
of_three P p (x ∷ []) h = absurd (omega arith)
of_three P p (x ∷ y ∷ []) h = absurd (omega arith)
of_three P p (x ∷ y ∷ z ∷ []) h = p x y z
of_three P p (x ∷ y ∷ z ∷ w ∷ b) h = absurd (omega arith)

three-read : (b : List ℕ) → length b ≡ 3 → get_or b 0 0 ∷ get_or b 1 0 ∷ get_or b 2 0 ∷ [] ≡ b
three-read = of_three (λ b. get_or b 0 0 ∷ get_or b 1 0 ∷ get_or b 2 0 ∷ [] ≡ b) (λ x y z. refl)

pub three-written : (b : List ℕ) (x y z : ℕ) → length b ≡ 3 → set (set (set b 0 x) 1 y) 2 z ≡ x ∷ y ∷ z ∷ []
three-written b x y z = of_three (λ l. set (set (set l 0 x) 1 y) 2 z ≡ x ∷ y ∷ z ∷ []) (λ u v w. refl) b

-- only the first and the last byte are written
pub ends-written : (b : List ℕ) (x z : ℕ) → length b ≡ 3 → set (set b 0 x) 2 z ≡ x ∷ get_or b 1 0 ∷ z ∷ []
ends-written b x z = of_three (λ l. set (set l 0 x) 2 z ≡ x ∷ get_or l 1 0 ∷ z ∷ []) (λ u v w. refl) b

-- only the middle byte is written
middle-written : (b : List ℕ) (y : ℕ) → length b ≡ 3 → set b 1 y ≡ get_or b 0 0 ∷ y ∷ get_or b 2 0 ∷ []
middle-written b y = of_three (λ l. set l 1 y ≡ get_or l 0 0 ∷ y ∷ get_or l 2 0 ∷ []) (λ u v w. refl) b

-- only the last byte is written
last_written : (b : List ℕ) (z : ℕ) → length b ≡ 3 → set b 2 z ≡ get_or b 0 0 ∷ get_or b 1 0 ∷ z ∷ []
last_written b z = of_three (λ l. set l 2 z ≡ get_or l 0 0 ∷ get_or l 1 0 ∷ z ∷ []) (λ u v w. refl) b

-- ---- the mark

-- a byte that is 0 or 1 is the flag that it encodes
flag-back : (n : ℕ) → n ≤ 1 → flag (eqb n 1) ≡ n
flag-back zero h = refl
flag-back (suc zero) h = refl
flag-back (suc (suc n)) h = absurd (omega arith)

flag-read : (b : Bool) → eqb (flag b) 1 ≡ b
flag-read true = refl
flag-read false = refl

flag_small : (b : Bool) → leb (flag b) 1 ≡ true
flag_small true = refl
flag_small false = refl

-- bytes with a mark at i: there are 3, and the mark is written back as it was read
marked : (b : List ℕ) (i : ℕ) → (eqb (length b) 3 && leb (get_or b i 0) 1) ≡ true → (length b ≡ 3) × (flag (eqb (get_or b i 0) 1) ≡ get_or b i 0)
marked b i h =
    let both = both_true (eqb (length b) 3) (leb (get_or b i 0) 1) h in
    (eqb-true (length b) 3 both.0, flag-back (get_or b i 0) (leb-true (get_or b i 0) 1 both.1))

-- ---- the sending end

sender-marked : (b : List ℕ) → is_sender b ≡ true → (length b ≡ 3) × (flag (sender_in b).held ≡ get_or b 2 0)
unfolding is_sender
sender-marked b h = marked b 2 h

pub sender-length : (b : List ℕ) → is_sender b ≡ true → length b ≡ 3
sender-length b h = (sender-marked b h).0

pub sender-encoded : (s : Sender) → is_sender (sender_bytes s) ≡ true
unfolding is_sender
sender-encoded s = flag_small s.held

pub sender-back : (s : Sender) → sender_in (sender_bytes s) ≡ s
sender-back s = ap (λ (b : Bool). record { edge = s.edge; ps = s.ps; held = b }) (flag-read s.held)

pub sender_bytes_back : (b : List ℕ) → is_sender b ≡ true → sender_bytes (sender_in b) ≡ b
sender_bytes_back b h =
    let k = sender-marked b h in ap (λ (m : ℕ). get_or b 0 0 ∷ get_or b 1 0 ∷ m ∷ []) k.1 ∙ three-read b k.0

-- the end with another next PS, if only the byte of the next PS is written
pub next-written : (b : List ℕ) (n : ℕ) → is_sender b ≡ true
    → set b 1 n ≡ sender_bytes (record { edge = (sender_in b).edge; ps = packet n; held = (sender_in b).held })
next-written b n h =
    let k = sender-marked b h in middle-written b n k.0 ∙ ap (λ (m : ℕ). get_or b 0 0 ∷ n ∷ m ∷ []) (sym k.1)

-- ---- the receiving end

receiver-marked : (b : List ℕ) → is_receiver b ≡ true → (length b ≡ 3) × (flag (receiver_in b).first ≡ get_or b 1 0)
unfolding is_receiver
receiver-marked b h = marked b 1 h

pub receiver-length : (b : List ℕ) → is_receiver b ≡ true → length b ≡ 3
receiver-length b h = (receiver-marked b h).0

pub receiver-encoded : (r : Receiver) → is_receiver (receiver_bytes r) ≡ true
unfolding is_receiver
receiver-encoded r = flag_small r.first

pub receiver-back : (r : Receiver) → receiver_in (receiver_bytes r) ≡ r
receiver-back r = ap (λ (b : Bool). record { expected = r.expected; first = b; untold = r.untold }) (flag-read r.first)

pub receiver_bytes_back : (b : List ℕ) → is_receiver b ≡ true → receiver_bytes (receiver_in b) ≡ b
receiver_bytes_back b h =
    let k = receiver-marked b h in ap (λ (m : ℕ). get_or b 0 0 ∷ m ∷ get_or b 2 0 ∷ []) k.1 ∙ three-read b k.0

-- the end with another count, if only the byte of the count is written
pub count-written : (b : List ℕ) (n : ℕ) → is_receiver b ≡ true
    → set b 2 n ≡ receiver_bytes (record { expected = (receiver_in b).expected; first = (receiver_in b).first; untold = n })
count-written b n h =
    let k = receiver-marked b h in last_written b n k.0 ∙ ap (λ (m : ℕ). get_or b 0 0 ∷ m ∷ n ∷ []) (sym k.1)
