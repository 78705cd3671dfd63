-- Refusal 23, "for writing or cutting in the short form, after 1 and before all others" (document
-- 02, Q-14): when writing answers it, and that reading never does. Cutting and joining are in
-- `message_claims`. proofs/Short.antt proves it (`short-not-written`).
-- Assumes nothing.
use Rattle.std.specs.Prelude.{◌≡◌, true, cond, List, ◌≢◌, ◌⊎◌, ℕ, ◌%◌, ◌≤◌, Err}
use Rattle.refusal.specs.declared.Refusal.TheVariants.{OutOfRange, ShortForm}
use Rattle.frame_form.specs.declared.Form.{Form}
use Rattle.frame_form.specs.declared.Form.TheVariants.{ShortUplink}
use Rattle.frame_form.specs.Forms.{is_long}
use Rattle.frame_reader.specs.Reading.{read_answer}
use Rattle.frame_writer.specs.Writing.{write_answer}
use Rattle.frame.specs.declared.Packet.{Packet}
use Rattle.frame.specs.Packets.{packet_bytes}
use Rattle.frame.specs.Writing.{fits, write_of}
use Rattle.frame.specs.Reading.{read_of}
use Rattle.refusal.specs.Numbers.{refusal_number}
use Rattle.refusal.specs.Positions.{fault_number}

pub record ShortNotWritten : Type 0 where
  -- in the short form, whatever the length of the packet and the room: 1 if a value does not fit
  -- its field, else 23
  pub in-short : (p : Packet) (user room : ℕ) → write_of ShortUplink p user room ≡ Err (cond (fits ShortUplink p user) ShortForm OutOfRange)
  -- in every long form, never
  pub in-long : (form : Form) (p : Packet) (user room : ℕ) → is_long form ≡ true → refusal_number (write_of form p user room) ≢ 23
  -- by reading, never, in any form
  pub reading : (form : Form) (frame : List ℕ) → fault_number (read_of form frame) ≢ 23

-- the same of the calls on lent bytes, where the short form has the number 0
pub record ShortBytesNotWritten : Type 0 where
  -- ten bytes that are a packet: 1 if a value does not fit its field, else 23
  pub in-short : (p : Packet) (user room : ℕ) → write_answer 0 (packet_bytes p) user room ≡ cond (fits ShortUplink p user) 23 1
  -- any bytes: one of the two
  pub never-written : (packet : List ℕ) (user room : ℕ) → (write_answer 0 packet user room ≡ 1) ⊎ (write_answer 0 packet user room ≡ 23)
  pub in-long : (form : ℕ) (packet : List ℕ) (user room : ℕ) → 1 ≤ form → write_answer form packet user room % 256 ≢ 23
  pub reading : (form : ℕ) (frame : List ℕ) (places : ℕ) → read_answer form frame places % 256 ≢ 23
