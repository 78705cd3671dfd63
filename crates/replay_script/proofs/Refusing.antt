-- Refusals change nothing: a call that is done has the number 0, and the definition of a refused
-- one returns the given `Replay` and the given output.
-- Assumes nothing.
use mathlib.Core.Path.{◌≡◌, refl}
use mathlib.Core.List.{List}
use mathlib.Core.Logic.{◌≢◌}
use Prim.Native.Nat.{ℕ}
use Rattle.refusal.specs.Numbers.{refusal_number, Verdict}
use Rattle.replay_script.specs.declared.Replay.{Replay}
use Rattle.replay_script.specs.Feeding.{feed_verdict, feed_by, feed_of, feed_out_by, feed_out, finish_verdict, finish_by, finish_of, finish_out_by, finish_out}
use Rattle.replay_script.specs.Refusing.{RefusalsChangeNothing}
use Rattle.std.specs.Prelude.{Ok, Err}

feed-by : (v : Verdict) (r : Replay) (part out : List ℕ) → refusal_number (feed_by v r part).verdict ≢ 0
    → ((feed_by v r part).written ≡ 0) × ((feed_by v r part).next ≡ r) × (feed_out_by v r part out ≡ out)
feed-by (Ok tt) r part out h = absurd (h refl)
feed-by (Err why) r part out h = (refl, refl, refl)

finish-by : (v : Verdict) (r : Replay) (out : List ℕ) → refusal_number (finish_by v r).verdict ≢ 0
    → ((finish_by v r).written ≡ 0) × ((finish_by v r).next ≡ r) × (finish_out_by v r out ≡ out)
finish-by (Ok tt) r out h = absurd (h refl)
finish-by (Err why) r out h = (refl, refl, refl)

pub refusals-change-nothing : RefusalsChangeNothing
unfolding feed_of feed_out finish_of finish_out
refusals-change-nothing = record {
  feed = λ r part out. feed-by (feed_verdict part out) r part out;
  finish = λ r out. finish-by (finish_verdict out) r out;
}
