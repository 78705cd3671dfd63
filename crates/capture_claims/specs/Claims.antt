-- What is claimed of captures beyond single calls: document 02, Q-12: "Frames, even none or empty
-- ones, come back as saved, in order", and "The largest file has 83,980 bytes". proofs/Claims.antt
-- proves it.
-- Assumes nothing.
use Rattle.std.specs.Prelude.{◌≡◌, true, List, [], ◌≢◌, ℕ, ◌+◌, ◌≤◌, ◌<◌, length, take, replicate, Ok}
use Rattle.lists.specs.Frames.{bytes_in, lengths_of}
use Rattle.lists.specs.Lists.{over}
use Rattle.frame_fields.specs.Rows.{AreBytes}
use Rattle.capture.specs.Files.{header_size, file_of, most_frames, most_bytes, largest_file, none_over}
use Rattle.capture.specs.Saving.{saved_bytes, save_of, save_output}
use Rattle.capture.specs.Opening.{opened_as, opened_form, opened_count, open_of, place_in, frame_in, frames_in}
use Rattle.refusal.specs.Numbers.{refusal_number}

-- frames that a capture can hold: at most 512, each of at most 160 bytes
pub record Holds (frames : List (List ℕ)) : Type 0 where
  pub few : length frames ≤ most_frames
  pub short : none_over most_bytes (lengths_of frames) ≡ true

-- the file of these frames
abbrev pub capture_of : ℕ → List (List ℕ) → List ℕ
capture_of form frames = file_of form (lengths_of frames) (bytes_in frames)

-- what saving these frames leaves in the lent output
abbrev pub saved_frames : ℕ → List (List ℕ) → List ℕ → List ℕ
saved_frames form frames out = save_output form (lengths_of frames) (bytes_in frames) out

-- ---- frames that are saved come back: for every form, any frames that a capture can hold, none and
-- empty ones too, and any lent output with room
pub record SavedIsOpened (form : ℕ) (frames : List (List ℕ)) (out : List ℕ) : Type 0 where
  -- they are saved
  pub is-saved : save_of form (lengths_of frames) (bytes_in frames) (length out) ≡ Ok (length (capture_of form frames))
  -- as many bytes of the output as the answer says are a file that opens, with the form and as many
  -- frames
  pub opens : open_of (take (length (capture_of form frames)) (saved_frames form frames out)) ≡ opened_as form (length frames)
  -- and its frames are those that were saved, in order
  pub same-frames : frames_in (take (length (capture_of form frames)) (saved_frames form frames out)) ≡ frames

-- ---- a file that opens, saved again from its frames, is the same file, byte for byte
pub record OpenedIsSaved (file out : List ℕ) : Type 0 where
  -- it has as many frames as it says, and a capture can hold them
  pub count : opened_count (open_of file) ≡ length (frames_in file)
  pub holds : Holds (frames_in file)
  -- they are saved
  pub is-saved : save_of (opened_form (open_of file)) (lengths_of (frames_in file)) (bytes_in (frames_in file)) (length out) ≡ Ok (length file)
  -- to the same bytes
  pub same-file : saved_frames (opened_form (open_of file)) (frames_in file) out ≡ over file out

-- ---- the frames of a file that opens, one by one
pub record FramesLie (file : List ℕ) : Type 0 where
  -- the first starts at the header's end, each next one where the one before it ends: there are no
  -- gaps
  pub first : 0 < opened_count (open_of file) → (place_in file 0).at ≡ header_size (opened_count (open_of file))
  pub next : (i : ℕ) → i + 1 < opened_count (open_of file) → (place_in file (i + 1)).at ≡ (place_in file i).at + (place_in file i).len
  -- the last ends at the file's end
  pub last : (i : ℕ) → i + 1 ≡ opened_count (open_of file) → (place_in file i).at + (place_in file i).len ≡ length file
  -- no other index has a frame
  pub no_more : (i : ℕ) → opened_count (open_of file) ≤ i → frame_in file i ≡ []

-- ---- all of it
pub record CaptureClaim : Type 0 where
  pub saved-is-opened : (form : ℕ) (frames : List (List ℕ)) (out : List ℕ) → form ≤ 17 → Holds frames → length (capture_of form frames) ≤ length out
      → SavedIsOpened form frames out
  pub opened-is-saved : (file out : List ℕ) → AreBytes file → refusal_number (open_of file) ≡ 0 → length file ≤ length out → OpenedIsSaved file out
  -- so the files that open are those of frames that a capture can hold, and no others
  pub no-others : (file : List ℕ) → AreBytes file → refusal_number (open_of file) ≡ 0 → file ≡ capture_of (opened_form (open_of file)) (frames_in file)
  pub frames-lie : (file : List ℕ) → refusal_number (open_of file) ≡ 0 → FramesLie file

-- "The largest file has 83,980 bytes": no file that opens, and none that is saved, has more; and
-- one of so many opens
pub record Largest : Type 0 where
  pub opened : (file : List ℕ) → refusal_number (open_of file) ≡ 0 → length file ≤ largest_file
  pub saved : (form : ℕ) (lengths frames : List ℕ) (room : ℕ) → saved_bytes (save_of form lengths frames room) ≤ largest_file
  pub reached : (form : ℕ) → form ≤ 17
      → (length (capture_of form (replicate 512 (replicate 160 0))) ≡ largest_file)
      × (open_of (capture_of form (replicate 512 (replicate 160 0))) ≡ opened_as form 512)

-- a refused saving has no length and writes nothing; a refused file has no form and no frames
pub record RefusalsChangeNothing : Type 0 where
  pub save : (form : ℕ) (lengths frames out : List ℕ) → refusal_number (save_of form lengths frames (length out)) ≢ 0
      → (saved_bytes (save_of form lengths frames (length out)) ≡ 0) × (save_output form lengths frames out ≡ out)
  pub opened : (file : List ℕ) → refusal_number (open_of file) ≢ 0 → (opened_form (open_of file) ≡ 0) × (opened_count (open_of file) ≡ 0)
