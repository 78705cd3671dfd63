-- `message::joining::copy_users` meets its contract: what was copied, and the user data of the
-- frames from place i on, are the message.
-- Assumes nothing.
use Rattle.message.proofs.Copying.{Copying}
use Rattle.message.proofs.joining.copy_users.Given as goal

abbrev pub invariant-loop-i : goal.invariant-loop-i
invariant-loop-i l = Copying l.form l.lengths l.frames l.initial.out l.out l.at l.p l.i
