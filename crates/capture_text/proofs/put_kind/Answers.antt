-- `capture_text::put_kind` meets its contract: each arm is a case of `kind_text`.
-- Assumes nothing.
use Rattle.capture_text.proofs.Texts.{kind-written}
use native.Mathlib.Omega.{arith}
use borrow.Author.Rules.{rules}
use Rattle.capture_text.proofs.put_kind.Goals as goal

pub returns-in-Data : goal.returns-in-Data
returns-in-Data c = kind-written c.in-Data.is (search rules) (c.put_word.ensures.written (omega arith))

pub returns-in-ClearRequest : goal.returns-in-ClearRequest
returns-in-ClearRequest c = kind-written c.in-ClearRequest.is (search rules) (c.put_word-in-ClearRequest.ensures.written (omega arith))

pub returns-in-ClearConfirmation : goal.returns-in-ClearConfirmation
returns-in-ClearConfirmation c = kind-written c.in-ClearConfirmation.is (search rules) (c.put_word-in-ClearConfirmation.ensures.written (omega arith))

pub returns-in-CallRequest : goal.returns-in-CallRequest
returns-in-CallRequest c = kind-written c.in-CallRequest.is (search rules) (c.put_word-in-CallRequest.ensures.written (omega arith))

pub returns-in-CallAccept : goal.returns-in-CallAccept
returns-in-CallAccept c = kind-written c.in-CallAccept.is (search rules) (c.put_word-in-CallAccept.ensures.written (omega arith))

pub returns-in-ReceiveReady : goal.returns-in-ReceiveReady
returns-in-ReceiveReady c = kind-written c.in-ReceiveReady.is (search rules) (c.put_word-in-ReceiveReady.ensures.written (omega arith))

pub returns-in-ReceiveNotReady : goal.returns-in-ReceiveNotReady
returns-in-ReceiveNotReady c = kind-written c.in-ReceiveNotReady.is (search rules) (c.put_word-in-ReceiveNotReady.ensures.written (omega arith))

pub returns-in-Reject : goal.returns-in-Reject
returns-in-Reject c = kind-written c.in-Reject.is (search rules) (c.put_word-in-Reject.ensures.written (omega arith))

pub returns-in-Interrupt : goal.returns-in-Interrupt
returns-in-Interrupt c = kind-written c.in-Interrupt.is (search rules) (c.put_word-in-Interrupt.ensures.written (omega arith))

pub returns-in-InterruptConfirmation : goal.returns-in-InterruptConfirmation
returns-in-InterruptConfirmation c = kind-written c.in-InterruptConfirmation.is (search rules) (c.put_word-in-InterruptConfirmation.ensures.written (omega arith))

pub returns-in-Reset : goal.returns-in-Reset
returns-in-Reset c = kind-written c.in-Reset.is (search rules) (c.put_word-in-Reset.ensures.written (omega arith))

pub returns-in-ResetConfirmation : goal.returns-in-ResetConfirmation
returns-in-ResetConfirmation c = kind-written c.in-ResetConfirmation.is (search rules) (c.put_word-in-ResetConfirmation.ensures.written (omega arith))
