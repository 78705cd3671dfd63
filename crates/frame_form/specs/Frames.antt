-- The bytes of a frame, for any segment size: document 01, "Forms and frames", the paragraph that
-- begins "Fill is 0".
-- Assumes nothing.
use Rattle.std.specs.Prelude.{Bool, true, ◌&&◌, List, [], ◌∷◌, ◌++◌, ℕ, ◌+◌, eqb, length, replicate}
use Rattle.frame_form.specs.Segments.{padding}

-- "The frame is the packet padded with zero bytes to whole segments." The packet is the header's
-- bytes, then the user data; `seg` is the segment's size in bytes
unfoldable pub framed : ℕ → List ℕ → List ℕ → List ℕ
framed seg header user = header ++ (user ++ replicate (padding seg (length header + length user)) 0)

-- whether every byte of a list is 0, as padding must be
abbrev pub all_zero : List ℕ → Bool
all_zero [] = true
all_zero (b ∷ bs) = eqb b 0 && all_zero bs
