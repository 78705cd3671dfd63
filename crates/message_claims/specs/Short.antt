-- Refusal 23, "for writing or cutting in the short form, after 1 and before all others" (document
-- 02, Q-14): when cutting answers it, and that joining never does. Writing and reading are in
-- `frame_claims`. proofs/Short.antt proves it (`short-not-cut`).
-- Assumes nothing.
use Rattle.std.specs.Prelude.{◌≡◌, true, false, cond, List, ◌≢◌, ℕ, Err}
use Rattle.refusal.specs.declared.Refusal.TheVariants.{OutOfRange, ShortForm}
use Rattle.frame_form.specs.declared.Form.{Form}
use Rattle.frame_form.specs.declared.Form.TheVariants.{ShortUplink}
use Rattle.frame_form.specs.Forms.{is_long}
use Rattle.frame.specs.Writing.{fits}
use Rattle.message.specs.declared.cutting.Start.{Start}
use Rattle.message.specs.Cutting.{data_of, cut_of}
use Rattle.message.specs.Joining.{join_of}
use Rattle.refusal.specs.Numbers.{refusal_number}
use Rattle.refusal.specs.Positions.{fault_number}

pub record ShortNotCut : Type 0 where
  -- in the short form, whatever the message and the room: 1 if a number does not fit its field,
  -- else 23
  pub in-short : (s : Start) (message : List ℕ) (room places : ℕ)
      → cut_of ShortUplink s message room places ≡ Err (cond (fits ShortUplink (data_of s false) 0) ShortForm OutOfRange)
  -- in every long form, never
  pub in-long : (form : Form) (s : Start) (message : List ℕ) (room places : ℕ) → is_long form ≡ true → refusal_number (cut_of form s message room places) ≢ 23
  -- by joining, never, in any form
  pub joining : (form : Form) (lengths bytes : List ℕ) (room : ℕ) → fault_number (join_of form lengths bytes room) ≢ 23
