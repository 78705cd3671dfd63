-- Where joining is refused: document 02, Q-5, "Joining gives the position within all its data".
-- proofs/Faults.antt proves it (`join-faults`).
-- Assumes nothing.
use Rattle.std.specs.Prelude.{◌≡◌, false, List, [], ◌∷◌, ◌++◌, ◌⊎◌, ℕ, ◌+◌, ◌≤◌, length, Ok, Err, Option, None}
use Rattle.refusal.specs.declared.Refusal.{Refusal}
use Rattle.refusal.specs.declared.Refusal.TheVariants.{OutOfRange, FormatError}
use Rattle.refusal.specs.Positions.{refused_at, fault_position}
use Rattle.lists.specs.Frames.{bytes_in, parts_of, sum, is_none}
use Rattle.frame_form.specs.declared.Form.{Form}
use Rattle.frame.specs.declared.Packet.{Packet}
use Rattle.frame.specs.declared.UserData.{UserData}
use Rattle.frame.specs.declared.Route.{Route}
use Rattle.frame.specs.Packets.{as_data}
use Rattle.frame.specs.Reading.{read_of, data_in}
use Rattle.message.specs.Joining.{packet_verdict, turn_checks, frames_checks, join_of}
use Rattle.frame.specs.declared.Contents.TheVariants.{Packet as PacketIn, Route as RouteIn}
use Rattle.frame.specs.declared.Data.{Data as DataFields}

-- each of these frames passes its checks, and none is the last of the message; the first is
-- compared with the packet `run`, each other one with the packet of the frame before it
pub data AllPass (form : Form) : Option DataFields → List (List ℕ) → Type 0 where
  none : {run : Option DataFields} → AllPass form run []
  more : {run : Option DataFields} {f : List ℕ} {fs : List (List ℕ)} → turn_checks run false (read_of form f) ≡ Ok tt → AllPass form (data_in (read_of form f)) fs
      → AllPass form run (f ∷ fs)

-- the packet with which the frame after these is compared
abbrev pub run_after : Form → Option DataFields → List (List ℕ) → Option DataFields
run_after form run [] = run
run_after form run (f ∷ fs) = run_after form (data_in (read_of form f)) fs

-- one of the frames is refused with `why`, at the position `at` within all their bytes: there is a
-- first bad frame. The first of all is compared with the packet `run`
pub record FirstBad (form : Form) (run : Option DataFields) (frames : List (List ℕ)) (why : Refusal) (at : ℕ) : Type 0 where
  pub before : List (List ℕ)
  pub bad : List ℕ
  pub after : List (List ℕ)
  -- the frames are those before it, the bad one, and those after it
  pub split : frames ≡ before ++ (bad ∷ after)
  -- each frame before it passes its checks
  pub before-pass : AllPass form run before
  -- reading the bad frame is refused with `why` at its byte q, and `at` is that byte, counted from
  -- the start of all bytes; or the bad frame reads, its packet is refused with `why`, and `at` is
  -- its first byte; or it is a ROUTE, which is not DATA, so `why` is 3, and `at` is its first byte
  pub place : ((q : ℕ) × (read_of form bad ≡ refused_at why q) × (at ≡ length (bytes_in before) + q))
      ⊎ (((p : Packet) × (user : UserData) × (read_of form bad ≡ Ok (PacketIn p user))
      × (packet_verdict (run_after form run before) (is_none after) (as_data p) ≡ Err why) × (at ≡ length (bytes_in before)))
      ⊎ ((route : Route) × (read_of form bad ≡ Ok (RouteIn route)) × (why ≡ FormatError) × (at ≡ length (bytes_in before))))

pub record JoinFaults : Type 0 where
  -- a message that is joined has the position 0
  pub joined-at-zero : (form : Form) (lengths bytes : List ℕ) (room n : ℕ) → join_of form lengths bytes room ≡ Ok n → fault_position (join_of form lengths bytes room) ≡ 0
  -- a position is never past the end of the bytes
  pub within : (form : Form) (lengths bytes : List ℕ) (room : ℕ) (why : Refusal) (at : ℕ) → join_of form lengths bytes room ≡ refused_at why at → at ≤ length bytes
  -- if a frame is refused, the position is in the first bad frame
  pub first-bad-frame : (form : Form) (lengths bytes : List ℕ) (why : Refusal) (at : ℕ) → sum lengths ≡ length bytes
      → frames_checks form None 0 (parts_of lengths bytes) ≡ refused_at why at → FirstBad form None (parts_of lengths bytes) why at
  -- and frames with a first bad one are refused so
  pub bad-is-refused : (form : Form) (frames : List (List ℕ)) (why : Refusal) (at : ℕ) → FirstBad form None frames why at
      → frames_checks form None 0 frames ≡ refused_at why at
  -- every refusal is 1 at the position 0, or one at the end of the bytes, or that of the first bad
  -- frame
  pub placed : (form : Form) (lengths bytes : List ℕ) (room : ℕ) (why : Refusal) (at : ℕ) → join_of form lengths bytes room ≡ refused_at why at
      → ((why ≡ OutOfRange) × (at ≡ 0)) ⊎ ((at ≡ length bytes) ⊎ FirstBad form None (parts_of lengths bytes) why at)
