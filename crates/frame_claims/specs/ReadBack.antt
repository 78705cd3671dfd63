-- Demand 2: "A frame written is read back to the same fields, and a frame read is written back to
-- the same bytes." For every kind of packet of document 01, "Forms and frames", and every long
-- form: "demand 2's read-back then holds for long forms" (document 02, Q-14); no frame is written
-- in the short form. The claims are about the answers of the calls (`write_of`, `read_of`) and
-- about the lent output (`write_output`); they follow from those by the layout,
-- specs/ByLayout.antt. proofs/ReadBack.antt proves them (`read_back`).
-- Assumes nothing.
use Rattle.std.specs.Prelude.{◌≡◌, true, List, ℕ, ◌≤◌, length, take, Ok}
use Rattle.lists.specs.Lists.{over}
use Rattle.frame_fields.specs.Rows.{AreBytes}
use Rattle.frame_form.specs.declared.Form.{Form}
use Rattle.frame_form.specs.Forms.{is_long}
use Rattle.frame.specs.declared.Packet.{Packet}
use Rattle.frame.specs.declared.UserData.{UserData}
use Rattle.frame.specs.Writing.{write_of, write_output}
use Rattle.frame.specs.Reading.{read_of, part_of, place_of}
use Rattle.frame.specs.declared.Contents.TheVariants.{Packet as PacketIn}

-- packet p was written with this user data, and the writer answered that it wrote n bytes to the
-- lent output
pub record WrittenIsRead (form : Form) (p : Packet) (user out : List ℕ) (n : ℕ) : Type 0 where
  -- reading these n bytes gives the same packet, and the place of its user data
  pub fields : read_of form (take n (write_output form p user out)) ≡ Ok (PacketIn p (place_of p (length user)))
  -- the bytes at this place are the same user data
  pub data-kept : part_of (take n (write_output form p user out)) (place_of p (length user)) ≡ user

-- the reader answered that the frame holds packet p, with its user data at `place`; both are
-- written to the lent output `out`
pub record ReadIsWritten (form : Form) (frame : List ℕ) (p : Packet) (place : UserData) (out : List ℕ) : Type 0 where
  -- the writer answers that it is done, with the length of the frame
  pub answer : write_of form p place.len (length out) ≡ Ok (length frame)
  -- the output holds the same frame, and the bytes beyond it are unchanged
  pub bytes : write_output form p (part_of frame place) out ≡ over frame out

-- every frame that the writer has written, which it does in long forms only (specs/Short.antt); and
-- every frame of a long form that the reader accepts, if the output has room for it
pub record ReadBack : Type 0 where
  pub written-is-read : (form : Form) (p : Packet) (user out : List ℕ) (n : ℕ)
      → write_of form p (length user) (length out) ≡ Ok n → WrittenIsRead form p user out n
  pub read-is-written : (form : Form) (frame : List ℕ) (p : Packet) (place : UserData) (out : List ℕ)
      → is_long form ≡ true → AreBytes frame → read_of form frame ≡ Ok (PacketIn p place) → length frame ≤ length out → ReadIsWritten form frame p place out
