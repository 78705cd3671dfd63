-- The claim about the rule of `transfer_demo` (specs/Rule.antt): its events are allowed and leave
-- no frame out, so the claims of specs/Claims.antt apply, and joining what is handed on gives the
-- message. proofs/Within.antt proves it.
-- Assumes nothing.
use Rattle.std.specs.Prelude.{◌≡◌, true, false, List, ℕ, ◌≤◌, length}
use Rattle.frame.specs.Writing.{fits}
use Rattle.message.specs.declared.cutting.Start.{Start}
use Rattle.message.specs.Cutting.{data_of, frames_of}
use Rattle.transfer_claims.specs.Circuit.{frames_handed_on}
use Rattle.transfer_claims.specs.Claims.{FramesAllowedList, Complete, JoinTo}
use Rattle.transfer_claims.specs.Rule.{demo_form, all_calls}

-- of one message, whose first frame has the numbers of s
pub record Within (s : Start) (message : List ℕ) : Type 0 where
  pub allowed : FramesAllowedList demo_form (frames_of demo_form s message) (all_calls (length (frames_of demo_form s message)))
  pub complete : Complete (frames_of demo_form s message) (all_calls (length (frames_of demo_form s message)))
  pub comes-out : JoinTo demo_form (frames_handed_on demo_form (frames_of demo_form s message) (all_calls (length (frames_of demo_form s message)))) message

-- of every message of at most 4,096 bytes that is cut from SN 0, with numbers that fit their fields
abbrev pub WithinClaim : Type 0
WithinClaim = (s : Start) (message : List ℕ) → fits demo_form (data_of s false) 0 ≡ true → s.sn.0 ≡ 0 → length message ≤ 4096 → Within s message
