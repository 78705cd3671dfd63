-- Saving: the sum of the lengths, and the loop that writes the offsets.
-- Assumes nothing.
use mathlib.Core.Path.{◌≡◌, refl, sym, ap, ap₂, ◌∙◌}
use mathlib.Core.Bool.{Bool, true, ◌&&◌}
use mathlib.Core.List.{List, [], ◌∷◌, ◌++◌, append_assoc, append-nil}
use Prim.Native.Nat.{ℕ, ◌+◌, ◌-◌, ◌*◌, ◌<◌, ◌≤◌}
use native.Mathlib.Nat.{suc-mul}
use native.Mathlib.Numerals.{add-one}
use native.Mathlib.Omega.{arith}
use Rattle.std.specs.List.{list_all}
use lib.Dec.{leb, eqb}
use lib.ListN.{length, take, drop, get_or, drop_of_length-le, length-append, length-drop, take-append-drop}
use lib.Seq.{paste, drop-cons, take_at, drop_at, take_all, drop-drop, drop-append-add, length-take-le}
use borrow.Author.Tests.{leb-true, eqb-true}
use Rattle.refusal.specs.declared.Refusal.TheVariants.{OutOfRange, Malformed, MessageTooLong, OutputTooShort}
use Rattle.refusal.specs.Numbers.{check}
use Rattle.refusal.proofs.Checks.{check_done, both_true}
use Rattle.frame_form.specs.Forms.{form_at, form_valid}
use Rattle.lists.specs.Frames.{sum}
use Rattle.lists.proofs.Frames.{sum-here}
use Rattle.lists.specs.Lists.{over}
use Rattle.frame_fields.specs.Rows.{bytes_of}
use Rattle.capture.specs.Files.{words, header_size, offsets_from, header_of, file_of, most_frames, most_bytes, none_over}
use Rattle.capture.specs.Saving.{file_size, save_verdict, save_of, save_output}
use Rattle.capture.specs.Parts.{Saveable, with_offsets}
use Rattle.capture.proofs.Numbers.{grows}
use Rattle.std.specs.Prelude.{Ok}

-- numbers of at most `most` have a small sum
pub sum-most : (most : ℕ) (ns : List ℕ) → none_over most ns ≡ true → sum ns ≤ length ns * most
unfolding none_over
sum-most most [] e = omega arith
sum-most most (n ∷ ns) e =
    let t = both_true (leb n most) (none_over most ns) e in
    omega (arith, leb-true n most t.0, sum-most most ns t.1, suc-mul (length ns) most)

-- no number is over `most` where each passes the test
pub all-is : (most : ℕ) (ns : List ℕ) → list_all (λ n. leb n most) ns ≡ none_over most ns
unfolding none_over
all-is most [] = refl
all-is most (n ∷ ns) = ap (λ (b : Bool). leb n most && b) (all-is most ns)

-- ---- the lengths from place i on

pub offsets-here : (ls : List ℕ) (offset i : ℕ) → i < length ls
    → words (offsets_from offset (drop i ls)) ≡ bytes_of 4 offset ++ words (offsets_from (offset + get_or ls i 0) (drop (i + 1) ls))
unfolding words offsets_from
offsets-here ls offset i h = rw (add-one, drop-cons ls i 0 h) refl

pub offsets-end : (ls : List ℕ) (offset i : ℕ) → length ls ≤ i → words (offsets_from offset (drop i ls)) ≡ bytes_of 4 offset
unfolding words offsets_from
offsets-end ls offset i h = ap (λ (x : List ℕ). words (offsets_from offset x)) (drop_of_length-le ls {i = i} h) ∙ append-nil (bytes_of 4 offset)

-- ---- the loop

pub record Heading (ls o₀ o : List ℕ) (offset i : ℕ) : Type 0 where
  pub sums : offset + sum (drop i ls) ≡ header_size (length ls) + sum ls
  pub done : List ℕ
  pub long : length done ≡ 8 + 4 * i
  pub text : o ≡ done ++ drop (8 + 4 * i) o₀
  pub whole : done ++ words (offsets_from offset (drop i ls)) ≡ take 8 o₀ ++ words (offsets_from (header_size (length ls)) ls)

pub starts : (ls o₀ : List ℕ) (offset : ℕ) → offset ≡ header_size (length ls) → 8 ≤ length o₀ → Heading ls o₀ o₀ offset 0
starts ls o₀ offset e h = record {
  sums = ap (λ (x : ℕ). x + sum ls) e;
  done = take 8 o₀;
  long = length-take-le 8 o₀ h;
  text = sym (take-append-drop 8 o₀);
  whole = ap (λ (x : ℕ). take 8 o₀ ++ words (offsets_from x ls)) e;
}

module _ (ls o₀ o : List ℕ) (offset i : ℕ) (v : Heading ls o₀ o offset i) where
  pub turns : (out : List ℕ) → i < length ls → out ≡ paste o (8 + 4 * i) (bytes_of 4 offset) 4 → Heading ls o₀ out (offset + get_or ls i 0) (i + 1)
  turns out h e =
      let g = grows v.done o₀ o out (8 + 4 * i) offset v.long v.text e in
      let next : 8 + 4 * i + 4 ≡ 8 + 4 * (i + 1) = omega arith in
      record {
        sums = omega (arith, v.sums, sum-here ls i h);
        done = v.done ++ bytes_of 4 offset;
        long = g.long ∙ next;
        text = g.text ∙ ap (λ (k : ℕ). (v.done ++ bytes_of 4 offset) ++ drop k o₀) next;
        whole =
            append_assoc v.done (bytes_of 4 offset) (words (offsets_from (offset + get_or ls i 0) (drop (i + 1) ls)))
            ∙ ap (λ (x : List ℕ). v.done ++ x) (sym (offsets-here ls offset i h))
            ∙ v.whole;
      }

  pub ends : (out : List ℕ) → i ≡ length ls → out ≡ paste o (8 + 4 * length ls) (bytes_of 4 offset) 4 → out ≡ with_offsets ls o₀
  unfolding with_offsets
  ends out h e =
      let g = grows v.done o₀ o out (8 + 4 * i) offset v.long v.text (e ∙ ap (λ (k : ℕ). paste o (8 + 4 * k) (bytes_of 4 offset) 4) (sym h)) in
      let all : v.done ++ bytes_of 4 offset ≡ take 8 o₀ ++ words (offsets_from (header_size (length ls)) ls) = ap (λ (x : List ℕ). v.done ++ x) (sym (offsets-end ls offset i (omega (arith, h)))) ∙ v.whole in
      let to : 8 + 4 * i + 4 ≡ header_size (length ls) = omega (arith, h) in
      g.text ∙ ap₂ (λ (x : List ℕ) (k : ℕ). x ++ drop k o₀) all to

-- ---- the whole header

words-length : (ns : List ℕ) → length (words ns) ≡ 4 * length ns
unfolding words
words-length [] = refl
words-length (n ∷ ns) = length-append (bytes_of 4 n) (words ns) ∙ omega (arith, words-length ns)

offsets-length : (start : ℕ) (ls : List ℕ) → length (offsets_from start ls) ≡ length ls + 1
unfolding offsets_from
offsets-length start [] = refl
offsets-length start (l ∷ ls) = omega (arith, offsets-length (start + l) ls)

pub header-length : (form : ℕ) (ls : List ℕ) → length (header_of form ls) ≡ header_size (length ls)
unfolding header_of
header-length form ls =
    words-length (length ls ∷ form ∷ offsets_from (header_size (length ls)) ls) ∙ omega (arith, offsets-length (header_size (length ls)) ls)

pub headed : (form : ℕ) (ls o o₁ o₂ out : List ℕ) → header_size (length ls) ≤ length o → o₁ ≡ paste o 0 (bytes_of 4 (length ls)) 4 → o₂ ≡ paste o₁ 4 (bytes_of 4 form) 4
    → out ≡ with_offsets ls o₂ → out ≡ over (header_of form ls) o
unfolding with_offsets header_of words
headed form ls o o₁ o₂ out h e1 e2 e =
    let g1 = grows [] o o o₁ 0 (length ls) refl refl e1 in
    let front = bytes_of 4 (length ls) ++ bytes_of 4 form in
    let g2 : o₂ ≡ front ++ drop 8 o = (grows (bytes_of 4 (length ls)) o o₁ o₂ 4 form refl g1.text e2).text in
    let offsets = words (offsets_from (header_size (length ls)) ls) in
    let first : take 8 o₂ ≡ front = ap (take 8) g2 ∙ take_at front (drop 8 o) 8 refl in
    let size : header_size (length ls) ≡ 8 + 4 * (length ls + 1) = refl in
    let rest : drop (header_size (length ls)) o₂ ≡ drop (header_size (length ls)) o =
    ap (drop (header_size (length ls))) g2 ∙ drop-append-add front (drop 8 o) (4 * (length ls + 1)) ∙ drop-drop (4 * (length ls + 1)) 8 o in
    e ∙ ap₂ (λ (x y : List ℕ). (x ++ offsets) ++ y) first rest ∙ ap (λ (k : ℕ). header_of form ls ++ drop k o) (sym (header-length form ls))

-- ---- the checks

-- short frames, and few of them, have small data
pub small : (ls frames : List ℕ) → sum ls ≡ length frames → length ls ≤ most_frames → none_over most_bytes ls ≡ true → length frames ≤ 81920
small ls frames sums few short = omega (arith, sum-most most_bytes ls short, few, sums)

-- what the verdict `Ok tt` tells
pub saveable : (form : ℕ) (ls frames : List ℕ) (room : ℕ) → save_verdict form ls frames room ≡ Ok tt → Saveable form ls frames room
unfolding save_verdict
saveable form ls frames room e =
    let r3 = check (leb (file_size ls frames) room) OutputTooShort (Ok tt) in
    let r2 = check (none_over most_bytes ls) MessageTooLong r3 in
    let r1 = check (leb (length ls) most_frames) MessageTooLong r2 in
    let r0 = check (eqb (sum ls) (length frames)) Malformed r1 in
    let a = check_done (form_valid (form_at form)) OutOfRange r0 e in
    let b = check_done (eqb (sum ls) (length frames)) Malformed r1 a.1 in
    let c = check_done (leb (length ls) most_frames) MessageTooLong r2 b.1 in
    let d = check_done (none_over most_bytes ls) MessageTooLong r3 c.1 in
    let f = check_done (leb (file_size ls frames) room) OutputTooShort (Ok tt) d.1 in
    let few = leb-true (length ls) most_frames c.0 in
    record {
      valid = a.0;
      sums = eqb-true (sum ls) (length frames) b.0;
      few = few;
      short = d.0;
      small = small ls frames (eqb-true (sum ls) (length frames) b.0) few d.0;
      room-enough = leb-true (file_size ls frames) room f.0;
    }

-- ---- the whole file

-- the frames are copied behind the header, into the rest of the output as it is lent
pub filed : (form : ℕ) (ls frames o h ys : List ℕ) (k : ℕ) → k ≡ header_size (length ls) → k + length frames ≤ length o → h ≡ over (header_of form ls) o
    → ys ≡ over (take (length (take (length h - k) (drop k h))) frames) (take (length h - k) (drop k h))
    → take k h ++ (ys ++ drop (length h - k) (drop k h)) ≡ over (file_of form ls frames) o
unfolding file_of
filed form ls frames o h ys k ek room eh ey =
    let header = header_of form ls in
    let long : length header ≡ k = header-length form ls ∙ sym ek in
    let front : take k h ≡ header = ap (take k) eh ∙ take_at header (drop (length header) o) k long in
    let back : drop k h ≡ drop k o = ap (drop k) eh ∙ drop_at header (drop (length header) o) k long ∙ ap (λ (n : ℕ). drop n o) long in
    let part : take (length h - k) (drop k h) ≡ drop k o = take_all (length h - k) (drop k h) (omega (arith, length-drop k h)) ∙ back in
    let none : drop (length h - k) (drop k h) ≡ [] = drop_of_length-le (drop k h) {i = length h - k} (omega (arith, length-drop k h)) in
    let fits : length frames ≤ length (drop k o) = omega (arith, length-drop k o, room) in
    let all : take (length (drop k o)) frames ≡ frames = take_all (length (drop k o)) frames fits in
    let rest : ys ≡ frames ++ drop (length frames) (drop k o) = ey ∙ ap (λ (x : List ℕ). over (take (length x) frames) x) part ∙ ap (λ (x : List ℕ). over x (drop k o)) all in
    let size : k + length frames ≡ length (header ++ frames) = sym (length-append header frames ∙ ap (λ (n : ℕ). n + length frames) long) in
    ap₂ (λ (x y : List ℕ). x ++ y) front (ap (λ (x : List ℕ). ys ++ x) none ∙ append-nil ys ∙ rest)
    ∙ ap (λ (x : List ℕ). header ++ (frames ++ x)) (drop-drop (length frames) k o ∙ ap (λ (n : ℕ). drop n o) size)
    ∙ sym (append_assoc header frames (drop (length (header ++ frames)) o))

pub file-length : (form : ℕ) (ls frames : List ℕ) → length (file_of form ls frames) ≡ file_size ls frames
unfolding file_of
file-length form ls frames = length-append (header_of form ls) frames ∙ ap (λ (n : ℕ). n + length frames) (header-length form ls)

-- ---- the answer

module _ (form : ℕ) (ls frames out : List ℕ) where
  pub saved : (last : List ℕ) (n : ℕ) → save_verdict form ls frames (length out) ≡ Ok tt → n ≡ file_size ls frames → last ≡ over (file_of form ls frames) out
      → (Ok n ≡ save_of form ls frames (length out)) × (last ≡ save_output form ls frames out)
  unfolding save_of save_output
  saved last n e en el = rw e (ap Ok en, el)
