-- The forms of frames and their sizes: document 01, "Forms and frames", first paragraph.
-- Assumes nothing.
use Rattle.std.specs.Prelude.{◌≡◌, Bool, true, false, cond, ◌&&◌, ℕ, ◌*◌, ◌≤◌, ◌<◌, leb, eqb}
use Rattle.frame_form.specs.declared.Form.{Form}
use Rattle.frame_form.specs.declared.Form.TheVariants.{ShortUplink, LongUplink, LongDownlink}

-- the size of a segment: "Short uplink: segments of 7 bytes .. Long uplink: segments of 10 .. Long
-- downlink with n segments: segments of 10"
abbrev pub long_segment : ℕ
long_segment = 10

abbrev pub seg_of : Form → ℕ
seg_of ShortUplink = 7
seg_of LongUplink = long_segment
seg_of (LongDownlink n) = long_segment

-- the size of the largest packet: "packet at most 28 .. at most 152 .. at most 10n"
abbrev pub most_of : Form → ℕ
most_of ShortUplink = 28
most_of LongUplink = 152
most_of (LongDownlink n) = 10 * n

-- the form is valid; false is refusal 1, "downlink segments not 1 to 16"
abbrev pub form_valid : Form → Bool
form_valid ShortUplink = true
form_valid LongUplink = true
form_valid (LongDownlink n) = leb 1 n && leb n 16

-- a long form: one in which frames are written and messages cut; for the short uplink, "23 for
-- writing or cutting in the short form" (document 02, Q-14), "Reading, joining .. keep it"
abbrev pub is_long : Form → Bool
is_long ShortUplink = false
is_long LongUplink = true
is_long (LongDownlink n) = true

-- the direction: frames of an uplink form go up to the aircraft, those of a downlink form come down
-- from it. Two packets have a layout for each (document 02, Q-4: "its ground form on uplink frames
-- and its air form on downlink frames, so the frame's form says which")
abbrev pub is_uplink : Form → Bool
is_uplink ShortUplink = true
is_uplink LongUplink = true
is_uplink (LongDownlink n) = false

-- the form with the number n, the one numbering that every call with a number for a form uses: 0 is
-- the short uplink, 1 to 16 the long downlink with that many segments, 17 the long uplink; every
-- other number gives a form that is not valid
unfoldable pub form_at : ℕ → Form
form_at n = cond (eqb n 0) ShortUplink (cond (eqb n 17) LongUplink (LongDownlink n))

-- the number of a valid form
abbrev pub form_number : Form → ℕ
form_number ShortUplink = 0
form_number LongUplink = 17
form_number (LongDownlink n) = n

-- the number by which any form is handed on: that of a valid form, and 255, which is none, for
-- every other
unfoldable pub form_code : Form → ℕ
form_code f = cond (form_valid f) (form_number f) 255

-- the claim about numbers of forms: the numbers 0 to 17 are those of the valid forms, one each
pub record FormNumbers : Type 0 where
  pub form-back : (f : Form) → form_valid f ≡ true → (form_number f ≤ 17) × (form_at (form_number f) ≡ f)
  pub number-back : (n : ℕ) → n ≤ 17 → (form_valid (form_at n) ≡ true) × (form_number (form_at n) ≡ n)
  pub others : (n : ℕ) → 17 < n → form_valid (form_at n) ≡ false
