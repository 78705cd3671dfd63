-- Demand 2 of the calls on lent bytes, `write` of `frame_writer` and `read` of `frame_reader`: "A
-- frame written is read back to the same fields, and a frame read is written back to the same
-- bytes." A form is a number, a packet is ten bytes, and what a call did is read off the number
-- that it returns and the lent bytes. Reading is claimed for every form, what is written for the
-- long ones, with the numbers 1 to 17 (document 02, Q-14). proofs/Bytes.antt proves it
-- (`read-back-of-bytes`).
-- Assumes nothing.
use Rattle.std.specs.Prelude.{◌≡◌, List, ◌≢◌, ℕ, ◌*◌, ◌/◌, ◌%◌, ◌≤◌, length, get_or, take, drop}
use Rattle.lists.specs.Lists.{over}
use Rattle.frame_fields.specs.Rows.{AreBytes}
use Rattle.frame_form.specs.Forms.{form_at}
use Rattle.frame_kinds.specs.Kinds.{route_number}
use Rattle.frame_reader.specs.Reading.{read_answer, read_bytes}
use Rattle.frame_writer.specs.Writing.{write_answer, write_bytes}
use Rattle.frame.specs.declared.Packet.{Packet}
use Rattle.frame.specs.Packets.{packet_bytes}
use Rattle.frame.specs.Writing.{frame_of}
use Rattle.frame_claims.specs.ByLayout.{CanHold}

-- the frame that `write` left at the front of the lent output: its length is in the bits of the
-- answer from 8 up
abbrev pub frame_written : ℕ → List ℕ → List ℕ → List ℕ → List ℕ
frame_written form packet user out = take (write_answer form packet (length user) (length out) / 256) (write_bytes form packet user out)

-- the user data that an answer of `read` names: the index is in bits 8 to 15, the length in the
-- bits from 16 up
abbrev pub user_named : ℕ → List ℕ → List ℕ
user_named answer frame = take (answer / 65536) (drop (answer / 256 % 256) frame)

-- ten bytes `packet` were written with this user data; the frame is then read into `places`
pub record BytesRead (form : ℕ) (packet user out places : List ℕ) : Type 0 where
  -- reading is done
  pub done : read_answer form (frame_written form packet user out) (length places) % 256 ≡ 0
  -- it gives the same ten bytes, and places past them keep what they held
  pub packet-back : read_bytes form (frame_written form packet user out) places ≡ over packet places
  -- it names the same user data
  pub user-back : user_named (read_answer form (frame_written form packet user out) (length places)) (frame_written form packet user out) ≡ user

-- a frame was read into `places`; the ten bytes and the user data are then written to `out`
pub record BytesWritten (form : ℕ) (frame places out : List ℕ) : Type 0 where
  -- writing is done, with the length of the frame
  pub done : write_answer form (take 10 (read_bytes form frame places)) (length (user_named (read_answer form frame (length places)) frame)) (length out)
      ≡ 256 * length frame
  -- the output holds the same frame, and the bytes beyond it are unchanged
  pub bytes : write_bytes form (take 10 (read_bytes form frame places)) (user_named (read_answer form frame (length places)) frame) out ≡ over frame out

-- a frame was read into `places`: the ten bytes are those of a packet, and the frame is the one of
-- this packet and the user data, by the layout
pub record BytesAreFrame (form : ℕ) (frame places : List ℕ) : Type 0 where
  pub packet : Packet
  pub ten : take 10 (read_bytes form frame places) ≡ packet_bytes packet
  pub same : frame ≡ frame_of (form_at form) packet (user_named (read_answer form frame (length places)) frame)

-- the frame of packet p and this user data, by the layout, is read into `places`
pub record FrameIsBytes (form : ℕ) (p : Packet) (user places : List ℕ) : Type 0 where
  pub done : read_answer form (frame_of (form_at form) p user) (length places) % 256 ≡ 0
  pub packet-back : read_bytes form (frame_of (form_at form) p user) places ≡ over (packet_bytes p) places
  pub user-back : user_named (read_answer form (frame_of (form_at form) p user) (length places)) (frame_of (form_at form) p user) ≡ user

-- the ten bytes are not those of a ROUTE, which has strings in the place of user data: the first is
-- another number than that of ROUTE
abbrev pub NoRoute : List ℕ → Type 0
NoRoute ten = get_or ten 0 0 ≢ route_number

pub record ReadBackOfBytes : Type 0 where
  -- by the layout, in every form: every frame that `read` accepts; and the frame of every packet
  -- that a frame of the form can hold, if there are ten places to read it into
  pub read-is-frame : (form : ℕ) (frame places : List ℕ) → AreBytes frame → read_answer form frame (length places) % 256 ≡ 0
      → NoRoute (read_bytes form frame places) → BytesAreFrame form frame places
  pub frame-is-read : (form : ℕ) (p : Packet) (user places : List ℕ) → CanHold (form_at form) p (length user) → 10 ≤ length places → FrameIsBytes form p user places
  -- every frame that `write` has written, if there are ten places to read it into; and every frame
  -- of a long form that `read` accepts, if the output has room for it
  pub written-is-read : (form : ℕ) (packet user out places : List ℕ) → write_answer form packet (length user) (length out) % 256 ≡ 0
      → 10 ≤ length places → BytesRead form packet user out places
  pub read-is-written : (form : ℕ) (frame places out : List ℕ) → 1 ≤ form → AreBytes frame → read_answer form frame (length places) % 256 ≡ 0
      → NoRoute (read_bytes form frame places) → length frame ≤ length out → BytesWritten form frame places out
