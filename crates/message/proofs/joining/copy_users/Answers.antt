-- `message::joining::copy_users` meets its contract: what was copied, and the user data of the
-- frames from place i on, are the message.
-- Assumes nothing.
use Rattle.message.proofs.Copying.{is-data, asks, ends}
use Rattle.message.proofs.joining.copy_users.Goals as goal

pub copy_user-at-requires : goal.copy_user-at-requires
copy_user-at-requires c =
    let l = c.loop-i in
    let a = c.args in
    let t = c.loop-i-test.true in (
      is-data a.form a.lengths.now a.frames.now a.out.now l.out l.at l.p l.i l.invariant t,
      (asks a.form a.lengths.now a.frames.now a.out.now l.out l.at l.p l.i l.invariant t c.requires.fits-room).0,
    )

pub returns : goal.returns
returns c =
    let l = c.loop-i in
    let a = c.args in
    ends a.form a.lengths.now a.frames.now a.out.now l.out l.at l.p l.i l.invariant c.loop-i-test.false
