-- A script that comes in parts: what `feed` and `finish` write and keep. The report is that of
-- document 01, "The replay program" (Whole.antt claims it); that the script comes in parts, and how
-- much room the output needs, are decisions of this library (docs/DECISIONS.md).
-- Assumes nothing.
use Rattle.std.specs.Prelude.{cond, List, [], ◌∷◌, ◌++◌, ℕ, ◌+◌, ◌*◌, eqb, leb, ltb, length, set, take, replicate, Ok, Err}
use Rattle.lists.specs.Lists.{over}
use Rattle.refusal.specs.declared.Refusal.TheVariants.{OutputTooShort}
use Rattle.refusal.specs.Numbers.{check, Verdict}
use Rattle.resequencer.specs.State.{fresh_state}
use Rattle.replay_script.specs.declared.Replay.{Replay}
use Rattle.replay_script.specs.declared.Fed.{Fed}
use Rattle.replay_script.specs.declared.Finished.{Finished}
use Rattle.replay_script.specs.Lines.{line_text, line_next}

-- the start: a fresh resequencer and no unfinished line
abbrev pub fresh_replay : Replay
fresh_replay = record { state = fresh_state; line = replicate 14 0; have = 0 }

-- the unfinished line, or its first 14 bytes if it is longer
abbrev pub pending : Replay → List ℕ
pending r = take r.have r.line

-- the room that `feed` and `finish` require for one line of the report; a line has at most 210
-- bytes
abbrev pub line_room : ℕ
line_room = 256

-- ---- one byte

-- a byte added to the unfinished line. The 15th and later bytes are dropped: a well-formed line has
-- at most 13 bytes, so such a line is malformed either way
abbrev pub keep_byte : Replay → ℕ → Replay
keep_byte r b = cond (ltb r.have 14) (record { state = r.state; line = set r.line r.have b; have = r.have + 1 }) r

-- after the unfinished line was run
abbrev pub run_line : Replay → Replay
run_line r = record { state = line_next r.state (pending r); line = r.line; have = 0 }

-- after one byte: a line end (10) runs the line, any other byte is kept
unfoldable pub byte_next : Replay → ℕ → Replay
byte_next r b = cond (eqb b 10) (run_line r) (keep_byte r b)

-- the report written for one byte: that of the line which the byte ends, if it ends one
unfoldable pub byte_text : Replay → ℕ → List ℕ
byte_text r b = cond (eqb b 10) (line_text r.state (pending r)) []

-- ---- a part

-- what is kept after the bytes of a part
unfoldable pub feed_next : Replay → List ℕ → Replay
feed_next r [] = r
feed_next r (b ∷ bs) = feed_next (byte_next r b) bs

-- the report written for the bytes of a part
unfoldable pub feed_text : Replay → List ℕ → List ℕ
feed_text r [] = []
feed_text r (b ∷ bs) = byte_text r b ++ feed_text (byte_next r b) bs

-- whether `feed` is refused: 5 if the lent output has no room for a line of report for each byte of
-- the part, as each byte may end a line
unfoldable pub feed_verdict : List ℕ → List ℕ → Verdict
feed_verdict part out = check (leb (length part * line_room) (length out)) OutputTooShort (Ok tt)

-- the answer of `feed` by that verdict: a refusal writes 0 bytes and keeps the same `Replay`
abbrev pub feed_by : Verdict → Replay → List ℕ → Fed
feed_by (Ok tt) r part = record { verdict = Ok tt; written = length (feed_text r part); next = feed_next r part }
feed_by (Err why) r part = record { verdict = Err why; written = 0; next = r }

-- the answer of `feed`
unfoldable pub feed_of : Replay → List ℕ → List ℕ → Fed
feed_of r part out = feed_by (feed_verdict part out) r part

-- the lent output afterwards: the report at its front, the rest unchanged; after a refusal all of
-- it unchanged
abbrev pub feed_out_by : Verdict → Replay → List ℕ → List ℕ → List ℕ
feed_out_by (Ok tt) r part out = over (feed_text r part) out
feed_out_by (Err why) r part out = out

unfoldable pub feed_out : Replay → List ℕ → List ℕ → List ℕ
feed_out r part out = feed_out_by (feed_verdict part out) r part out

-- ---- the end of the script: an unfinished line is the last line, as "the last line may lack its
-- line end"

-- the report written at the end: that of the unfinished line, if there is one
unfoldable pub finish_text : Replay → List ℕ
finish_text r = cond (eqb r.have 0) [] (line_text r.state (pending r))

-- whether `finish` is refused: 5 if the lent output has no room for a line of report
unfoldable pub finish_verdict : List ℕ → Verdict
finish_verdict out = check (leb line_room (length out)) OutputTooShort (Ok tt)

-- what is kept afterwards: the unfinished line, if there is one, has been run
abbrev pub finish_next : Replay → Replay
finish_next r = cond (eqb r.have 0) r (run_line r)

-- the answer of `finish` by that verdict: a refusal writes 0 bytes and keeps the same `Replay`
abbrev pub finish_by : Verdict → Replay → Finished
finish_by (Ok tt) r = record { verdict = Ok tt; written = length (finish_text r); next = finish_next r }
finish_by (Err why) r = record { verdict = Err why; written = 0; next = r }

-- the answer of `finish`
unfoldable pub finish_of : Replay → List ℕ → Finished
finish_of r out = finish_by (finish_verdict out) r

-- the lent output afterwards: the report at its front, the rest unchanged; after a refusal all of
-- it unchanged
abbrev pub finish_out_by : Verdict → Replay → List ℕ → List ℕ
finish_out_by (Ok tt) r out = over (finish_text r) out
finish_out_by (Err why) r out = out

unfoldable pub finish_out : Replay → List ℕ → List ℕ
finish_out r out = finish_out_by (finish_verdict out) r out
