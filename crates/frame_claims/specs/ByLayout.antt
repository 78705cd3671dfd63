-- Reading by the layout alone, in every form. Document 02, Q-14: "for a short frame reading alone
-- is promised, by the same layout". The two claims together say that the reader accepts exactly the
-- frames, by the layout, of the packets that a frame of the form can hold, and that it answers this
-- packet and its user data. No writer is needed to say so; what a writer adds in the long forms is
-- specs/ReadBack.antt. proofs/ByLayout.antt proves them (`by_layout`).
-- Assumes nothing.
use Rattle.std.specs.Prelude.{◌≡◌, true, List, ℕ, ◌≤◌, length, Ok}
use Rattle.frame_fields.specs.Rows.{AreBytes}
use Rattle.frame_form.specs.declared.Form.{Form}
use Rattle.frame_form.specs.Forms.{most_of, form_valid}
use Rattle.frame.specs.declared.Packet.{Packet}
use Rattle.frame.specs.declared.UserData.{UserData}
use Rattle.frame.specs.Writing.{length_of, fits, frame_of}
use Rattle.frame.specs.Reading.{read_of, part_of, place_of}
use Rattle.frame.specs.declared.Contents.TheVariants.{Packet as PacketIn}

-- a frame of this form can hold packet p with `user` bytes of user data: the form is valid, every
-- value fits its field, and the packet is no longer than the form's largest
pub record CanHold (form : Form) (p : Packet) (user : ℕ) : Type 0 where
  pub good : form_valid form ≡ true
  pub fit : fits form p user ≡ true
  pub most : length_of p user ≤ most_of form

-- the reader answered that the frame holds packet p, with its user data at `place`
pub record ReadIsFrame (form : Form) (frame : List ℕ) (p : Packet) (place : UserData) : Type 0 where
  -- the frame is the one of p and this user data, by the layout
  pub same : frame ≡ frame_of form p (part_of frame place)
  -- they are a packet and user data that such a frame can hold
  pub holds : CanHold form p (length (part_of frame place))
  -- the place is right after the header, and all of it is in the frame
  pub place_is : place ≡ place_of p (length (part_of frame place))

-- the frame of packet p and this user data, by the layout
pub record FrameIsRead (form : Form) (p : Packet) (user : List ℕ) : Type 0 where
  -- it reads as p, and gives the place of the user data
  pub fields : read_of form (frame_of form p user) ≡ Ok (PacketIn p (place_of p (length user)))
  -- the bytes at this place are the user data
  pub data-kept : part_of (frame_of form p user) (place_of p (length user)) ≡ user
  -- it is made of bytes if the user data is
  pub are-bytes : AreBytes user → AreBytes (frame_of form p user)

-- every frame that the reader accepts, and the frame of every packet that a frame of the form can
-- hold
pub record ByLayout : Type 0 where
  pub read-is-frame : (form : Form) (frame : List ℕ) (p : Packet) (place : UserData)
      → AreBytes frame → read_of form frame ≡ Ok (PacketIn p place) → ReadIsFrame form frame p place
  pub frame-is-read : (form : Form) (p : Packet) (user : List ℕ) → CanHold form p (length user) → FrameIsRead form p user
