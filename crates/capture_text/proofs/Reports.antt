-- The lines of all frames, and the report of a whole file.
-- Assumes nothing.
use mathlib.Core.Path.{◌≡◌, refl, sym, ap, ◌∙◌}
use mathlib.Core.Bool.{Bool, true, false}
use mathlib.Core.List.{List, [], ◌∷◌, ◌++◌, append_assoc, append-nil}
use Prim.Native.Nat.{ℕ, zero, suc, ◌+◌, ◌*◌, ◌≤◌, ◌<◌}
use native.Mathlib.Nat.{add-zero}
use native.Mathlib.Numerals.{add-one}
use native.Mathlib.Decide.{dec_le}
use native.Mathlib.Omega.{arith}
use lib.Dec.{leb}
use lib.ListN.{length, drop}
use borrow.Author.Tests.{le-leb, lt-leb}
use Rattle.refusal.specs.declared.Refusal.{Refusal}
use Rattle.refusal.specs.declared.Refusal.TheVariants.{OutOfRange, Malformed, MessageTooLong, OutputTooShort}
use Rattle.refusal.specs.Numbers.{number_of, check, refusal_number, Verdict}
use Rattle.text.specs.Writing.{Wrote}
use Rattle.text.proofs.Writing.{none, then, meant, in-front}
use Rattle.frame_form.specs.declared.Form.{Form}
use Rattle.frame_form.specs.Forms.{form_at, form_valid}
use Rattle.capture.specs.Saving.{output_by}
use Rattle.capture.specs.Opening.{opened_form, opened_count, form_in, count_in, open_verdict, open_by, open_of, frame_in, frames_from, opened_as}
use Rattle.capture_text.specs.declared.Report.{Report}
use Rattle.capture_text.specs.Report.{line_text, lines_text, file_verdict, report_by, report_text, room_verdict, answer_by, report_of, report_output}
use Rattle.capture_text.specs.Parts.{refused_line}
use Rattle.capture.specs.declared.Opened.{Opened}
use Rattle.std.specs.Prelude.{Result, Ok, Err}

-- ---- the lines

frames-more : (file : List ℕ) (k n : ℕ) → frames_from file k n ++ (frame_in file (k + n) ∷ []) ≡ frames_from file k (suc n)
unfolding frames_from
frames-more file k zero = ap (λ j. frame_in file j ∷ []) (add-zero k)
frames-more file k (suc n) =
    let e : k + suc n ≡ suc k + n = omega arith in
    ap (λ l. frame_in file k ∷ l) (ap (λ j. frames_from file (suc k) n ++ (frame_in file j ∷ [])) e ∙ frames-more file (suc k) n)

lines_more : (hex : Bool) (form : Form) (xs : List (List ℕ)) (y : List ℕ) → lines_text hex form xs ++ line_text hex form y ≡ lines_text hex form (xs ++ (y ∷ []))
unfolding lines_text
lines_more hex form [] y = sym (append-nil (line_text hex form y))
lines_more hex form (x ∷ xs) y = append_assoc (line_text hex form x) (lines_text hex form xs) (line_text hex form y) ∙ ap (λ l. line_text hex form x ++ l) (lines_more hex form xs y)

module _ (hex : Bool) (form : Form) (file : List ℕ) where
  pub lines_none : (o : List ℕ) → Wrote o o 0 0 (128 * 0) (lines_text hex form (frames_from file 0 0))
  unfolding lines_text frames_from
  lines_none o = none o 0 (128 * 0)

  pub lines-turn : (o out out' frame : List ℕ) (w w' i : ℕ) → frame ≡ frame_in file i → Wrote o out 0 w (128 * i) (lines_text hex form (frames_from file 0 i))
      → Wrote out out' w w' 128 (line_text hex form frame) → Wrote o out' 0 w' (128 * (i + 1)) (lines_text hex form (frames_from file 0 (i + 1)))
  lines-turn o out out' frame w w' i e a b =
      let z : i ≡ 0 + i = omega arith in
      meant (then a b)
      (ap (λ f. lines_text hex form (frames_from file 0 i) ++ line_text hex form f) (e ∙ ap (frame_in file) z)
      ∙ lines_more hex form (frames_from file 0 i) (frame_in file (0 + i))
      ∙ ap (lines_text hex form) (frames-more file 0 i ∙ ap (frames_from file 0) (sym (add-one i)))) (omega arith)

-- ---- whether the file opens

pub too_long : (file : List ℕ) → 83980 < length file → Err MessageTooLong ≡ open_by (file_verdict file) (form_in file) (count_in file)
unfolding file_verdict
too_long file h = rw (lt-leb (length file) 83980 h)

pub opens : (file : List ℕ) → length file ≤ 83980 → open_of file ≡ open_by (file_verdict file) (form_in file) (count_in file)
unfolding file_verdict open_of
opens file h = rw (le-leb (length file) 83980 h)

count_kept : (v : Verdict) (f c : ℕ) → opened_count (open_by v f c) ≤ c
count_kept (Ok tt) f c = omega arith
count_kept (Err why) f c = omega arith

none-opened : (a b : Bool) (f c : ℕ) → opened_count (open_by (check a Malformed (check b OutOfRange (Err MessageTooLong))) f c) ≤ 512
none-opened true true f c = omega arith
none-opened true false f c = omega arith
none-opened false b f c = omega arith

many : (file : List ℕ) → 512 < count_in file → opened_count (open_of file) ≤ 512
unfolding open_of open_verdict
many file h = rw (lt-leb (count_in file) 512 h) (none-opened (leb 8 (length file)) (form_valid (form_at (form_in file))) (form_in file) (count_in file))

few-by : (file : List ℕ) → count_in file ≤ 512 → opened_count (open_of file) ≤ 512
unfolding open_of
few-by file h =
    let k = count_kept (open_verdict file) (form_in file) (count_in file) in
    omega (arith, k, h)

pub few : (file : List ℕ) → opened_count (open_of file) ≤ 512
few file = elim (dec_le (count_in file) 512) [
  | yes h ↦ few-by file h
  | no h ↦ many file (omega arith)
]

-- ---- the report

-- the text of a file that opened, and of one that was refused; and which it is
pub record Says (hex : Bool) (file : List ℕ) (v : Verdict) (said : List ℕ) (n : Verdict) : Type 0 where
  pub text : said ≡ report_by v hex file
  pub number : n ≡ v

capture-says : (v : Verdict) (hex : Bool) (file : List ℕ) (f c : ℕ) → open_by v (form_in file) (count_in file) ≡ opened_as f c
    → Says hex file v (lines_text hex (form_at f) (frames_from file 0 c)) (Ok tt)
capture-says (Ok tt) hex file f c e = record {
  text = ap (λ k. lines_text hex (form_at k) (frames_from file 0 c)) (sym (ap opened_form e))
      ∙ ap (λ k. lines_text hex (form_at (form_in file)) (frames_from file 0 k)) (sym (ap opened_count e));
  number = refl;
}
capture-says (Err why) hex file f c e =
    let z : ◌≡◌ {A = ℕ} 0 1 = cc in
    absurd (omega arith)

refusal-says : (v : Verdict) (hex : Bool) (file : List ℕ) (why : Refusal) → open_by v (form_in file) (count_in file) ≡ Err why
    → Says hex file v (refused_line why) (Err why)
refusal-says (Ok tt) hex file why e =
    let z : ◌≡◌ {A = ℕ} 0 1 = cc in
    absurd (omega arith)
refusal-says (Err w) hex file why e =
    let s : w ≡ why = cc in
    record { text = ap refused_line (sym s); number = ap Err (sym s) }

-- what the contract of the call asks
pub record Reported (hex : Bool) (file o o' : List ℕ) (r : Report) : Type 0 where
  pub answer : r ≡ report_of hex file (length o)
  pub number : refusal_number r.verdict ≡ refusal_number (room_verdict (length o))
  pub written : o' ≡ report_output hex file o
  pub inside : r.written ≤ length o

room-there : (n : ℕ) → 65536 ≤ n → (Ok tt) ≡ room_verdict n
unfolding room_verdict
room-there n h = rw (le-leb 65536 n h)

room-not : (n : ℕ) → n < 65536 → Err OutputTooShort ≡ room_verdict n
unfolding room_verdict
room-not n h = rw (lt-leb 65536 n h)

pub no_room : (hex : Bool) (file o : List ℕ) → length o < 65536
    → Reported hex file o o (record { verdict = Err OutputTooShort; written = 0; file = Ok tt })
unfolding report_of report_output
no_room hex file o h =
    let e : Err OutputTooShort ≡ room_verdict (length o) = room-not (length o) h in
    record {
      answer = ap (λ v. answer_by v hex file) e;
      number = ap refusal_number e;
      written = ap (λ v. output_by v (report_text hex file) o) e;
      inside = omega arith;
    }

reported : (hex : Bool) (file o o' text : List ℕ) (r : ℕ) (n : Verdict) (m : ℕ) → 65536 ≤ length o → m ≤ 65536 → Wrote o o' 0 r m text → Says hex file (file_verdict file) text n
    → Reported hex file o o' (record { verdict = Ok tt; written = r; file = n })
unfolding report_of report_output report_text
reported hex file o o' text r n m h k w s =
    let e : (Ok tt) ≡ room_verdict (length o) = room-there (length o) h in
    let l : r ≡ length text = omega (arith, w.end) in
    record {
      answer =
          ap (λ j. record { verdict = Ok tt; written = j; file = n }) (l ∙ ap length s.text)
          ∙ ap (λ j. record { verdict = Ok tt; written = length (report_text hex file); file = j }) s.number
          ∙ ap (λ v. answer_by v hex file) e;
      number = ap refusal_number e;
      written = in-front w (omega arith) ∙ ap (λ t. t ++ drop (length t) o) s.text ∙ ap (λ v. output_by v (report_text hex file) o) e;
      inside = omega (arith, w.within);
    }

module _ (hex : Bool) (file o o' : List ℕ) (r : ℕ) (opened : (Result Opened Refusal)) (room : 65536 ≤ length o)
    (judged : opened ≡ open_by (file_verdict file) (form_in file) (count_in file)) where
  pub lines-reported : (f c : ℕ) (form : Form) → opened ≡ opened_as f c → form ≡ form_at f → Wrote o o' 0 r 65536 (lines_text hex form (frames_from file 0 c))
      → Reported hex file o o' (record { verdict = Ok tt; written = r; file = Ok tt })
  lines-reported f c form e ef w =
      reported hex file o o' (lines_text hex (form_at f) (frames_from file 0 c)) r (Ok tt) 65536 room (omega arith)
      (meant w (ap (λ k. lines_text hex k (frames_from file 0 c)) ef) (omega arith)) (capture-says (file_verdict file) hex file f c (sym judged ∙ e))

  pub refused-reported : (why : Refusal) → opened ≡ Err why → Wrote o o' 0 r 14 (refused_line why)
      → Reported hex file o o' (record { verdict = Ok tt; written = r; file = Err why })
  refused-reported why e w =
      let s = refusal-says (file_verdict file) hex file why (sym judged ∙ e) in
      reported hex file o o' (refused_line why) r (Err why) 14 room (omega arith) w s
