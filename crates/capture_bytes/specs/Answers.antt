-- The answers of saving and opening a capture (document 02, Q-12), and the place of a frame, as one
-- number, for callers that have no enums. What is written to the lent output is defined in
-- `capture`: `save_output`.
-- Assumes nothing.
use Rattle.std.specs.Prelude.{ℕ, ◌+◌, ◌*◌, Result}
use Rattle.capture.specs.declared.Place.{Place}
use Rattle.capture.specs.Saving.{saved_bytes}
use Rattle.capture.specs.Opening.{opened_form, opened_count}
use Rattle.capture.specs.declared.Opened.{Opened}
use Rattle.refusal.specs.Numbers.{refusal_number}
use Rattle.refusal.specs.declared.Refusal.{Refusal}

-- the refusal number, plus 256 times the file's length, which is 0 for a refusal
abbrev pub saved_answer : Result ℕ Refusal → ℕ
saved_answer s = refusal_number s + 256 * saved_bytes s

-- the refusal number, plus 256 times the form's number, plus 65,536 times the count of frames; for
-- a refusal both are 0
abbrev pub opened_answer : Result Opened Refusal → ℕ
opened_answer o = refusal_number o + 256 * opened_form o + 65536 * opened_count o

-- the index of a frame's first byte, plus 2 ^ 32 times its length; there is no refusal number
abbrev pub place_answer : Place → ℕ
place_answer p = p.at + 4294967296 * p.len
