-- Claims about packets in bytes: a packet stored in its ten bytes comes back the same, ten bytes
-- that are taken as a packet are those of that packet, and a refusal writes nothing (document 01,
-- "Refusal numbers"). proofs/Stored.antt proves them (`round-trips`,
-- `refused-bytes-change-nothing`).
-- Assumes nothing.
use Rattle.std.specs.Prelude.{◌≡◌, true, ◌≢◌, List, ℕ, ◌%◌, ◌/◌, length, get_or, drop}
use Rattle.frame_form.specs.declared.Form.{Form}
use Rattle.frame_kinds.specs.declared.Kind.{Kind}
use Rattle.frame_kinds.specs.declared.Found.TheVariants.{Known}
use Rattle.frame_kinds.specs.Kinds.{kind_at}
use Rattle.frame_reader.specs.Reading.{read_answer, read_bytes}
use Rattle.frame_writer.specs.Writing.{places_fit, write_answer, write_bytes}
use Rattle.frame.specs.declared.Packet.{Packet}
use Rattle.frame.specs.Packets.{kind_of, packet_bytes, packet_at}
use Rattle.frame.specs.Writing.{fits}

-- the ten bytes of the packet p are ten, name its kind, fit their places exactly if the packet fits
-- its fields, and give p again
pub record PacketBack (p : Packet) : Type 0 where
  pub ten : length (packet_bytes p) ≡ 10
  pub kind : kind_at (get_or (packet_bytes p) 0 0) ≡ Known (kind_of p)
  pub places : (form : Form) (user : ℕ) → places_fit form (kind_of p) (drop 1 (packet_bytes p)) user ≡ fits form p user
  pub back : packet_at (packet_bytes p) ≡ p

-- this holds for every packet; and ten bytes that `write` takes as a packet of kind k are the bytes
-- of that packet
pub record RoundTrips : Type 0 where
  pub packet-back : (p : Packet) → PacketBack p
  pub bytes_back : (form : Form) (bytes : List ℕ) (k : Kind) (user : ℕ) → length bytes ≡ 10 → kind_at (get_or bytes 0 0) ≡ Known k
      → places_fit form k (drop 1 bytes) user ≡ true → packet_bytes (packet_at bytes) ≡ bytes

-- "A refusal returns its number, counts of 0 .. no lent byte changes": where the lowest byte of an
-- answer is not 0, every lent byte is as it was, and the rest of the answer is 0
pub record RefusedBytesChangeNothing : Type 0 where
  pub write : (form : ℕ) (bytes user out : List ℕ) → write_answer form bytes (length user) (length out) % 256 ≢ 0
      → (write_bytes form bytes user out ≡ out) × (write_answer form bytes (length user) (length out) / 256 ≡ 0)
  pub read : (form : ℕ) (frame bytes : List ℕ) → read_answer form frame (length bytes) % 256 ≢ 0
      → (read_bytes form frame bytes ≡ bytes) × (read_answer form frame (length bytes) / 256 ≡ 0)
