-- Writing a frame from ten bytes: document 01, "Forms and frames": "Writing checks 1, 13, 5, and
-- bytes beyond the frame keep what they held"; and document 02, Q-14: "23 for writing or cutting in
-- the short form, after 1 and before all others". A form is a number (`form_at`), a packet is ten
-- bytes (`ten_bytes`), an answer is one number. `user` is the user data or its length, `room` the
-- length of the lent output.
-- Assumes nothing.
use Rattle.std.specs.Prelude.{Bool, cond, ◌&&◌, ◌||◌, List, [], ◌∷◌, ℕ, ◌+◌, ◌*◌, leb, eqb, length, get_or, take, drop, Ok, Err}
use Rattle.refusal.specs.declared.Refusal.TheVariants.{OutOfRange, PacketTooLong, OutputTooShort, ShortForm}
use Rattle.refusal.specs.Numbers.{number_of, value_by, check, refusal_number, Verdict}
use Rattle.lists.specs.Lists.{over}
use Rattle.frame_fields.specs.Layouts.{fields, has_lv, within, header}
use Rattle.frame_form.specs.declared.Form.{Form}
use Rattle.frame_form.specs.Forms.{seg_of, most_of, form_valid, is_long, form_at}
use Rattle.frame_form.specs.Segments.{last_used, frame_length}
use Rattle.frame_form.specs.Frames.{framed, all_zero}
use Rattle.frame_kinds.specs.declared.Kind.{Kind}
use Rattle.frame_kinds.specs.declared.Found.{Found}
use Rattle.frame_kinds.specs.declared.Found.TheVariants.{Known, Route, Unknown}
use Rattle.frame_kinds.specs.Kinds.{size_of, layout_of, kind_at, value_count}

-- the packet's length in bytes: the header and `user` bytes of user data
abbrev pub packet_size : Kind → ℕ → ℕ
packet_size k user = size_of k + user

-- whether every value fits its field, else refusal 1; so a value that a direction has no place for
-- is 0. A packet without LV has no field for user data: if some is given, that is refusal 1 too, as
-- it could not be read back
unfoldable pub values_fit : Form → Kind → List ℕ → ℕ → Bool
values_fit form k values user = within (fields (layout_of form k)) values && (has_lv (fields (layout_of form k)) || eqb user 0)

-- the bytes of the frame, in any form: the header with LV, which is the number of bytes used in the
-- last segment, the user data, and zero bytes to whole segments
unfoldable pub frame_by : Form → Kind → List ℕ → List ℕ → List ℕ
frame_by form k values user = framed (seg_of form) (header (layout_of form k) (last_used (seg_of form) (packet_size k (length user))) values) user

-- the checks of writing a packet of `n` bytes into `room` bytes, in the order 1, 23, 13, 5: the
-- form is valid, every value `fits` its field, the form is a long one, the packet is no longer than
-- the form's largest, and its frame has room
unfoldable pub write_verdict : Form → Bool → ℕ → ℕ → Verdict
write_verdict form fits n room =
    check (form_valid form) OutOfRange
    (check fits OutOfRange
    (check (is_long form) ShortForm
    (check (leb n (most_of form)) PacketTooLong
    (check (leb (frame_length (seg_of form) n) room) OutputTooShort
    (Ok tt)))))

-- the lent output afterwards: the frame, and beyond it what `out` held before; a refusal leaves all
-- of `out` as it was
abbrev pub output_by : Verdict → List ℕ → List ℕ → List ℕ
output_by (Ok tt) frame out = over frame out
output_by (Err why) frame out = out

-- a writer's answer as one number: the refusal number plus 256 times the frame's length, which is 0
-- after a refusal
abbrev pub answer_by : Verdict → ℕ → ℕ
answer_by v len = refusal_number v + 256 * value_by v len

-- ---- the call. `places` are the nine bytes after the first of a packet's ten

-- whether they are the values of a packet of kind k: every value fits its field, the bytes that the
-- kind has no use for are 0, so that they are read back as they were, and there is no user data
-- without LV
unfoldable pub places_fit : Form → Kind → List ℕ → ℕ → Bool
places_fit form k places user = values_fit form k (take (value_count k) places) user && all_zero (drop (value_count k) places)

-- the nine bytes of a DATA packet with these values
abbrev pub data_places : ℕ → ℕ → ℕ → ℕ → ℕ → List ℕ
data_places m sn ps pr ch = m ∷ sn ∷ ps ∷ pr ∷ ch ∷ 0 ∷ 0 ∷ 0 ∷ 0 ∷ []

-- the checks
abbrev pub places_verdict : Form → Kind → List ℕ → ℕ → ℕ → Verdict
places_verdict form k places user room = write_verdict form (places_fit form k places user) (packet_size k user) room

-- the answer, once the kind is known or not; 1, "an argument exceeds its field", for no kind, and
-- for ROUTE, whose strings are no user data: it has a call of its own
abbrev pub write_answer_by : Found → ℕ → List ℕ → ℕ → ℕ → ℕ
write_answer_by (Known k) form places user room = answer_by (places_verdict (form_at form) k places user room) (frame_length (seg_of (form_at form)) (packet_size k user))
write_answer_by Route form places user room = number_of OutOfRange
write_answer_by Unknown form places user room = number_of OutOfRange

-- the answer of `write`; `packet` are its ten bytes, and 1 if they are not ten
unfoldable pub write_answer : ℕ → List ℕ → ℕ → ℕ → ℕ
write_answer form packet user room =
    cond (eqb (length packet) 10) (write_answer_by (kind_at (get_or packet 0 0)) form (drop 1 packet) user room) (number_of OutOfRange)

-- the lent output afterwards, once the kind is known or not
abbrev pub write_bytes_by : Found → ℕ → List ℕ → List ℕ → List ℕ → List ℕ
write_bytes_by (Known k) form places user out =
    output_by (places_verdict (form_at form) k places (length user) (length out)) (frame_by (form_at form) k (take (value_count k) places) user) out
write_bytes_by Route form places user out = out
write_bytes_by Unknown form places user out = out

-- the lent output after `write`
unfoldable pub write_bytes : ℕ → List ℕ → List ℕ → List ℕ → List ℕ
write_bytes form packet user out = cond (eqb (length packet) 10) (write_bytes_by (kind_at (get_or packet 0 0)) form (drop 1 packet) user out) out
