-- The claims about the ends in lent bytes: encoding loses nothing, and refusals change nothing
-- (document 01, "Refusal numbers"). proofs/Claims.antt proves them.
-- Assumes nothing.
use Rattle.std.specs.Prelude.{◌≡◌, true, List, ◌≢◌, ℕ, ◌/◌, ◌%◌}
use Rattle.window.specs.declared.sender.Sender.{Sender}
use Rattle.window.specs.declared.receiver.Receiver.{Receiver}
use Rattle.window.specs.History.{Carrier}
use Rattle.window_bytes.specs.Stored.{is_sender, sender_in, sender_bytes, is_receiver, receiver_in, receiver_bytes, fresh_sender_answer, fresh_sender_bytes, send_answer, send_bytes, pr_answer, pr_bytes, fresh_receiver_answer, fresh_receiver_bytes, receive_answer, receive_bytes, tell_answer, tell_bytes}

-- the bytes of an end encode that end (`..-encoded`, `..-back`), and bytes that encode an end are
-- the bytes of that end (`..-bytes-back`)
pub record RoundTrips : Type 0 where
  pub sender-encoded : (s : Sender) → is_sender (sender_bytes s) ≡ true
  pub sender-back : (s : Sender) → sender_in (sender_bytes s) ≡ s
  pub sender-bytes-back : (b : List ℕ) → is_sender b ≡ true → sender_bytes (sender_in b) ≡ b
  pub receiver-encoded : (r : Receiver) → is_receiver (receiver_bytes r) ≡ true
  pub receiver-back : (r : Receiver) → receiver_in (receiver_bytes r) ≡ r
  pub receiver-bytes-back : (b : List ℕ) → is_receiver b ≡ true → receiver_bytes (receiver_in b) ≡ b

-- "A refusal returns its number, counts of 0, unused places 0 and the same state; no lent byte
-- changes": if the refusal number of the answer is not 0, its value is 0 and the bytes `after` the
-- call are those `before` it
abbrev pub Unchanged : ℕ → List ℕ → List ℕ → Type 0
Unchanged answer after before = answer % 256 ≢ 0 → (answer / 256 ≡ 0) × (after ≡ before)

-- this holds of every call that writes
pub record RefusalsChangeNothing : Type 0 where
  pub sender-fresh : (b : List ℕ) → Unchanged (fresh_sender_answer b) (fresh_sender_bytes b) b
  pub send : (b : List ℕ) → Unchanged (send_answer b) (send_bytes b) b
  pub take-pr : (carrier : Carrier) (b : List ℕ) (pr : ℕ) → Unchanged (pr_answer carrier b pr) (pr_bytes carrier b pr) b
  pub receiver-fresh : (b : List ℕ) → Unchanged (fresh_receiver_answer b) (fresh_receiver_bytes b) b
  pub receive : (b : List ℕ) (ps : ℕ) → Unchanged (receive_answer b ps) (receive_bytes b ps) b
  pub tell : (b : List ℕ) → Unchanged (tell_answer b) (tell_bytes b) b
