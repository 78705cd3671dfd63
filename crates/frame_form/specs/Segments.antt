-- How bytes fill segments, for any segment size seg: document 01, "Forms and frames", third
-- paragraph.
-- Assumes nothing.
use Rattle.std.specs.Prelude.{Bool, ◌&&◌, ℕ, ◌+◌, ◌-◌, ◌%◌, leb, eqb}

-- the number of zero bytes that fill n bytes up to whole segments
unfoldable pub padding : ℕ → ℕ → ℕ
padding seg n = (seg - n % seg) % seg

-- LV of a packet of n bytes: "LV is the number of bytes used in the last segment, 1 to the segment
-- size"
unfoldable pub last_used : ℕ → ℕ → ℕ
last_used seg n = seg - padding seg n

-- the length of the frame of a packet of n bytes: "The frame is the packet padded with zero bytes
-- to whole segments."
abbrev pub frame_length : ℕ → ℕ → ℕ
frame_length seg n = n + padding seg n

-- len bytes are whole segments, at least one; false is refusal 2, "a frame is empty or no whole
-- number of segments"
unfoldable pub whole_segments : ℕ → ℕ → Bool
whole_segments seg len = leb 1 len && eqb (len % seg) 0
