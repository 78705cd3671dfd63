-- The position of a fault, of the calls: document 02, Q-5, "Every frame read must also give the
-- byte position of the first fault". `frame_reader_claims` says which byte is the first wrong one
-- (`IsFirst`), and that the checks of reading give it; here the calls do: the typed one in its
-- answer, and `fault` of `frame_reader` as a number. proofs/Faults.antt proves it
-- (`fault-of-calls`).
-- Assumes nothing.
use Rattle.std.specs.Prelude.{◌≡◌, List, ℕ, suc, ◌%◌, length, take}
use Rattle.refusal.specs.declared.Refusal.TheVariants.{FormatError}
use Rattle.frame_fields.specs.Rows.{AreBytes}
use Rattle.frame_form.specs.declared.Form.{Form}
use Rattle.frame_form.specs.Forms.{most_of, form_at}
use Rattle.frame_reader.specs.Reading.{fault_answer, read_answer}
use Rattle.frame_reader_claims.specs.FirstFault.{IsFirst}
use Rattle.frame.specs.Reading.{read_of}
use Rattle.refusal.specs.Positions.{refused_at}

-- the typed call
pub record FaultOfTyped : Type 0 where
  -- the byte that refusal 3 names is one of the frame and wrong, and none before it is
  pub named-is-first : (form : Form) (frame : List ℕ) (at : ℕ) → read_of form frame ≡ refused_at FormatError at → IsFirst form frame at
  -- the bytes up to and including it decide that: a frame of the same length that agrees with them
  -- is refused with 3 at the same byte
  pub told-by-the-front : (form : Form) (frame other : List ℕ) (at : ℕ) → AreBytes frame → AreBytes other → read_of form frame ≡ refused_at FormatError at
      → length other ≡ length frame → take (suc at) other ≡ take (suc at) frame → read_of form other ≡ refused_at FormatError at

-- the calls on lent bytes: the number that `read` answers, with any number of places for the
-- packet, says what `fault` answers
pub record FaultOfBytes (form : ℕ) (frame : List ℕ) (places : ℕ) : Type 0 where
  -- 0, done: 0
  pub of-0 : read_answer form frame places % 256 ≡ 0 → fault_answer form frame ≡ 0
  -- 1, no such form: 0
  pub of-1 : read_answer form frame places % 256 ≡ 1 → fault_answer form frame ≡ 0
  -- 2, no whole segments: the frame's length
  pub of-2 : read_answer form frame places % 256 ≡ 2 → fault_answer form frame ≡ length frame
  -- 3, a wrong byte: the first one
  pub of-3 : read_answer form frame places % 256 ≡ 3 → IsFirst (form_at form) frame (fault_answer form frame)
  -- 5, fewer than ten places for a frame that reads: 0
  pub of-5 : read_answer form frame places % 256 ≡ 5 → fault_answer form frame ≡ 0
  -- 13, a packet that is too long: the form's largest size
  pub of-13 : read_answer form frame places % 256 ≡ 13 → fault_answer form frame ≡ most_of (form_at form)

pub record FaultOfCalls : Type 0 where
  pub typed : FaultOfTyped
  pub of-bytes : (form : ℕ) (frame : List ℕ) (places : ℕ) → FaultOfBytes form frame places
