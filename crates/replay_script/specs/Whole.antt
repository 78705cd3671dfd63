-- The claim about the whole report (document 01, "The replay program"): however the script is cut
-- into parts, the header and what `feed` writes for the parts and `finish` at the end are the
-- report of the whole script. proofs/Whole.antt proves it.
-- Assumes nothing.
use Rattle.std.specs.Prelude.{◌≡◌, List, [], ◌∷◌, ◌++◌, ℕ}
use Rattle.replay_script.specs.declared.Replay.{Replay}
use Rattle.replay_script.specs.Lines.{report_header, script_report}
use Rattle.replay_script.specs.Feeding.{fresh_replay, feed_next, feed_text, finish_text}

-- the parts put together
unfoldable pub joined : List (List ℕ) → List ℕ
joined [] = []
joined (p ∷ ps) = p ++ joined ps

-- what `feed` writes for the parts in turn, each starting with what the one before it kept, and
-- then what `finish` writes
unfoldable pub written_for : Replay → List (List ℕ) → List ℕ
written_for r [] = finish_text r
written_for r (p ∷ ps) = feed_text r p ++ written_for (feed_next r p) ps

-- the claim, for any list of parts
abbrev pub AnyParts : Type 0
AnyParts = (parts : List (List ℕ)) → report_header ++ written_for fresh_replay parts ≡ script_report (joined parts)
