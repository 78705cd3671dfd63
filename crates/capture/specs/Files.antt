-- The capture file: document 02, Q-12: "a header with the count of frames, the form, and an offset
-- for each frame from the file's start, with its end as one further offset, all as 32-bit
-- big-endian numbers; then the frames without gaps."
-- Assumes nothing.
use Rattle.std.specs.Prelude.{Bool, true, ◌&&◌, List, [], ◌∷◌, ◌++◌, ℕ, zero, suc, ◌+◌, ◌*◌, leb, length, drop}
use Rattle.frame_fields.specs.Rows.{bytes_of, number_in}

-- ---- 32-bit big-endian numbers: four bytes, the highest first

-- the numbers as bytes, one after the other
unfoldable pub words : List ℕ → List ℕ
words [] = []
words (n ∷ ns) = bytes_of 4 n ++ words ns

-- the first n numbers that the bytes encode
unfoldable pub numbers_in : ℕ → List ℕ → List ℕ
numbers_in zero bytes = []
numbers_in (suc n) bytes = number_in 4 bytes ∷ numbers_in n (drop 4 bytes)

-- ---- the header

-- its length in bytes: two numbers, and an offset for each of `count` frames and for the end
abbrev pub header_size : ℕ → ℕ
header_size count = 8 + 4 * (count + 1)

-- the offsets of frames that lie one after the other from `start` on: where each frame starts, and
-- where the last one ends
unfoldable pub offsets_from : ℕ → List ℕ → List ℕ
offsets_from start [] = start ∷ []
offsets_from start (l ∷ ls) = start ∷ offsets_from (start + l) ls

-- the header of a file with frames of these lengths
unfoldable pub header_of : ℕ → List ℕ → List ℕ
header_of form lengths = words (length lengths ∷ form ∷ offsets_from (header_size (length lengths)) lengths)

-- the whole file: `frames` holds the frames one after the other
unfoldable pub file_of : ℕ → List ℕ → List ℕ → List ℕ
file_of form lengths frames = header_of form lengths ++ frames

-- ---- the limits: "4 for over 512 frames", "4 for a frame over 160 bytes", and "The largest file
-- has 83,980 bytes"
abbrev pub most_frames : ℕ
most_frames = 512

abbrev pub most_bytes : ℕ
most_bytes = 160

abbrev pub largest_file : ℕ
largest_file = 83980

-- whether no number of the list is over `most`
unfoldable pub none_over : ℕ → List ℕ → Bool
none_over most [] = true
none_over most (n ∷ ns) = leb n most && none_over most ns
