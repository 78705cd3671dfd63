-- The numbers of a message's frames stay in range.
-- Assumes nothing.
use mathlib.Core.Path.{◌≡◌}
use mathlib.Core.Bool.{Bool, true, false, ◌&&◌}
use Prim.Native.Nat.{ℕ}
use lib.Dec.{ltb}
use Rattle.frame_form.specs.declared.Form.{Form}
use Rattle.frame.specs.declared.Data.{Data}
use Rattle.frame.specs.declared.Packet.TheVariants.{Data as DataPacket}
use Rattle.little.specs.Little.{flag}
use Rattle.frame_writer.specs.Writing.{values_fit}
use Rattle.frame.specs.Writing.{fits}
use Rattle.message.specs.declared.cutting.Start.{Start}
use Rattle.message.proofs.Sizes.{in-range, fits_all, next-in-range}
use Rattle.message.specs.Cutting.{data_of, next_start}

-- neither M nor the user data's length matters
pub start_fits : (form : Form) (s : Start) (more : Bool) (n : ℕ) → fits form (data_of s false) 0 ≡ true → fits form (data_of s more) n ≡ true
start_fits form s more n e = fits_all form s more n (in-range form s e)

pub next_fits : (form : Form) (s : Start) → fits form (data_of s false) 0 ≡ true → fits form (data_of (next_start s) false) 0 ≡ true
next_fits form s e = fits_all form (next_start s) false 0 (next-in-range s (in-range form s e))

-- cutting may start from the numbers of a packet that was read
any_flag : (m x : Bool) → ((ltb (flag m) 2 && x) && true) ≡ true → ((ltb (flag false) 2 && x) && true) ≡ true
any_flag true x e = e
any_flag false x e = e

pub fits-start : (form : Form) (d : Data) (n : ℕ) → fits form (DataPacket d) n ≡ true → fits form (data_of (record { sn = d.sn; ps = d.ps; pr = d.pr; ch = d.ch }) false) 0 ≡ true
unfolding values_fit
fits-start form d n e = any_flag d.m (ltb d.sn.0 64 && (ltb d.ps.0 16 && (ltb d.pr.0 16 && (ltb d.ch 16 && true)))) e
