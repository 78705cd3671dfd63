-- `replay_script::Replay::run_part` meets its contract: after each turn one more byte of the part
-- is run.
-- Assumes nothing.
use Rattle.replay_script.proofs.Feeding.{Ran}
use Rattle.replay_script.proofs.Replay.run_part.Given as goal

abbrev pub invariant-loop-byte : goal.invariant-loop-byte
invariant-loop-byte l =
    Ran (record { state = l.initial.state; line = l.initial.line; have = l.initial.have }) l.part l.initial.out l.out (record { state = l.state; line = l.line; have = l.have }) l.end l.byte-index
