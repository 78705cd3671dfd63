-- What the private functions of `replay_script` compute (document 01, "The replay program"): two
-- limits. That a text was written into lent bytes is a definition of the crate `text`.
-- Assumes nothing.
use Rattle.std.specs.Prelude.{cond, ℕ, leb}

-- n, but at most `most`
unfoldable pub least : ℕ → ℕ → ℕ
least n most = cond (leb n most) n most

-- the sequence number as a byte for the resequencer. Every number over 63 becomes 255; the
-- resequencer refuses them all alike
unfoldable pub narrowed : ℕ → ℕ
narrowed sn = cond (leb sn 63) sn 255
