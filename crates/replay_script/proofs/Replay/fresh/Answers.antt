-- `replay_script::Replay::fresh` meets its contract: the resequencer is fresh, and nothing is kept.
-- Assumes nothing.
use mathlib.Core.Path.{ap}
use lib.ListN.{replicate}
use Rattle.replay_script.proofs.Replay.fresh.Goals as goal

pub returns : goal.returns
returns c = ap (λ s. record { state = s; line = replicate 14 0; have = 0 }) c.fresh.ensures
