-- The texts of a line, written one part after the other.
-- Assumes nothing.
use mathlib.Core.Path.{◌≡◌, refl, sym, ap, ◌∙◌}
use mathlib.Core.Bool.{Bool, true, false}
use mathlib.Core.List.{List, [], ◌∷◌, ◌++◌, append_assoc}
use Prim.Native.Nat.{ℕ, zero, suc, ◌+◌, ◌-◌, ◌*◌, ◌/◌, ◌%◌, ◌≤◌, ◌<◌}
use native.Mathlib.Numerals.{add-one}
use native.Mathlib.Omega.{arith}
use lib.ListN.{length, get_or, take, drop, drop_of_length-le}
use lib.Seq.{take-suc, drop-cons}
use borrow.Author.Tests.{lt-ltb, le-ltb, le-leb}
use Rattle.refusal.specs.declared.Refusal.{Refusal}
use Rattle.refusal.specs.Numbers.{number_of}
use Rattle.text.specs.Decimal.{digit_at, decimal, spaced}
use Rattle.text.specs.Writing.{Wrote, Puts}
use Rattle.text.proofs.Writing.{none, then, meant, room_after, put_then}
use Rattle.frame_form.specs.declared.Form.{Form}
use Rattle.frame.specs.declared.Packet.{Packet}
use Rattle.frame.specs.declared.UserData.{UserData}
use Rattle.frame.specs.declared.Route.{Route}
use Rattle.frame.specs.Packets.{kind_of, sn_of, Read}
use Rattle.frame.specs.Reading.{read_of}
use Rattle.capture_text.specs.Report.{kind_text, refused_text, read_text, hex_digit, hex_byte, hex_bytes, marked, around, fault_text, line_text}
use Rattle.capture_text.specs.Parts.{packet_text, not_read_text, refused_line, from_here, column}
use Rattle.frame.specs.declared.Contents.TheVariants.{Packet as PacketIn, Route as RouteIn}
use Rattle.std.specs.Prelude.{Ok, Err}
use Rattle.refusal.specs.declared.Fault.{Fault}
use Rattle.frame.specs.declared.Contents.{Contents}

-- ---- bytes in hexadecimal

pub low_digit : (d : ℕ) → d < 10 → 48 + d ≡ hex_digit d
unfolding hex_digit
low_digit d h = rw (lt-ltb d 10 h)

pub high_digit : (d : ℕ) → 10 ≤ d → 55 + d ≡ hex_digit d
unfolding hex_digit
high_digit d h = rw (le-ltb d 10 h)

pub byte-written : {o o₁ o₂ : List ℕ} {from r₁ r₂ h l : ℕ} (b : ℕ) → h ≡ hex_digit (b / 16) → l ≡ hex_digit (b % 16) → from + 2 ≤ length o
    → Puts o o₁ from r₁ 1 (h ∷ []) → Puts o₁ o₂ r₁ r₂ 1 (l ∷ []) → Wrote o o₂ from r₂ 2 (hex_byte b)
byte-written {l = l} b eh el room x y =
    meant (put_then (x.written (omega arith)) y (omega arith)) (ap (λ k. k ∷ l ∷ []) eh ∙ ap (λ k. hex_digit (b / 16) ∷ k ∷ []) el) (omega arith)

pub marked-written : {o o₁ o₂ o₃ : List ℕ} {from r₁ r₂ r₃ : ℕ} (b : ℕ) → from + 5 ≤ length o
    → Puts o o₁ from r₁ 2 (32 ∷ 91 ∷ []) → Wrote o₁ o₂ r₁ r₂ 2 (hex_byte b) → Puts o₂ o₃ r₂ r₃ 1 (93 ∷ []) → Wrote o o₃ from r₃ 5 (marked (b ∷ []))
marked-written b room x y z = meant (put_then (then (x.written (omega arith)) y) z (omega arith)) refl (omega arith)

-- the room for the next text, after a call that had room for its own
pub room_next : {o o₁ : List ℕ} {from r₁ m₁ : ℕ} {xs : List ℕ} (m₂ : ℕ) → from + (m₁ + m₂) ≤ length o → Puts o o₁ from r₁ m₁ xs → r₁ + m₂ ≤ length o₁
room_next m₂ room x = room_after m₂ (x.written (omega arith)) room

-- the first i elements and the next one are the first i + 1
grown : (l : List ℕ) (i : ℕ) → i < length l → take i l ++ (get_or l i 0 ∷ []) ≡ take (i + 1) l
grown l i h = sym (ap (λ k. take k l) (add-one i) ∙ take-suc l i 0 h)

hex-more : (xs : List ℕ) (y : ℕ) → hex_bytes xs ++ (32 ∷ hex_byte y) ≡ hex_bytes (xs ++ (y ∷ []))
unfolding hex_bytes
hex-more [] y = refl
hex-more (x ∷ xs) y = ap (λ l. 32 ∷ hex_digit (x / 16) ∷ hex_digit (x % 16) ∷ l) (hex-more xs y)

pub hex-none : (o bs : List ℕ) (from : ℕ) → Wrote o o from from (3 * 0) (hex_bytes (take 0 bs))
unfolding hex_bytes
hex-none o bs from = none o from (3 * 0)

module _ (o out out₁ bs : List ℕ) (from w w₁ i : ℕ) where
  pub hex-turn : (out₂ : List ℕ) (w₂ : ℕ) → i < length bs → length bs ≤ 4 → from + 12 ≤ length o → Wrote o out from w (3 * i) (hex_bytes (take i bs))
      → Puts out out₁ w w₁ 1 (32 ∷ []) → Wrote out₁ out₂ w₁ w₂ 2 (hex_byte (get_or bs i 0)) → Wrote o out₂ from w₂ (3 * (i + 1)) (hex_bytes (take (i + 1) bs))
  hex-turn out₂ w₂ h few room a b c =
      meant (then (put_then a b (omega arith)) c)
      (append_assoc (hex_bytes (take i bs)) (32 ∷ []) (hex_byte (get_or bs i 0)) ∙ hex-more (take i bs) (get_or bs i 0) ∙ ap hex_bytes (grown bs i h)) (omega arith)

-- ---- the column of the fault

-- a list of which at most n elements are taken has at most n
short : (n : ℕ) (l : List ℕ) → length (take n l) ≤ n
short zero l = omega arith
short (suc n) [] = omega arith
short (suc n) (x ∷ xs) = omega (arith, short n xs)

pub few-before : {bs : List ℕ} (at start : ℕ) (frame : List ℕ) → bs ≡ take (at - start) (drop start frame) → start ≡ at - 4 → length bs ≤ 4
few-before at start frame e h =
    let k : length (take (at - start) (drop start frame)) ≤ at - start = short (at - start) (drop start frame) in
    omega (arith, k, ap length e, h)

pub few-after : {bs : List ℕ} (at : ℕ) (frame : List ℕ) → bs ≡ take 4 (drop (at + 1) frame) → length bs ≤ 4
few-after at frame e =
    let k : length (take 4 (drop (at + 1) frame)) ≤ 4 = short 4 (drop (at + 1) frame) in
    omega (arith, k, ap length e)

pub here-written : {o o₁ o₂ bs : List ℕ} {from r₁ r₂ : ℕ} (at : ℕ) (frame : List ℕ) → at < length frame → bs ≡ take 4 (drop (at + 1) frame)
    → Wrote o o₁ from r₁ 5 (marked (get_or frame at 0 ∷ [])) → Wrote o₁ o₂ r₁ r₂ 12 (hex_bytes bs) → Wrote o o₂ from r₂ 17 (from_here at frame)
unfolding from_here
here-written {bs = bs} at frame h e a b =
    let d : marked (get_or frame at 0 ∷ []) ≡ marked (drop at frame) = ap marked (sym (drop-cons frame at 0 h)) in
    meant (then a b) (ap (λ l. l ++ hex_bytes bs) d ∙ ap (λ l. marked (drop at frame) ++ hex_bytes l) e) (omega arith)

nothing-here : (at : ℕ) (frame : List ℕ) → length frame ≤ at → 32 ∷ 91 ∷ 93 ∷ [] ≡ from_here at frame
unfolding from_here hex_bytes
nothing-here at frame h =
    sym (ap (λ l. marked l ++ hex_bytes (take 4 (drop (at + 1) frame))) (drop_of_length-le frame {i = at} h)
    ∙ ap (λ l. marked [] ++ hex_bytes (take 4 l)) (drop_of_length-le frame {i = at + 1} (omega arith)))

pub end-written : {o o₁ : List ℕ} {from r₁ : ℕ} (at : ℕ) (frame : List ℕ) → length frame ≤ at → Wrote o o₁ from r₁ 3 (32 ∷ 91 ∷ 93 ∷ [])
    → Wrote o o₁ from r₁ 17 (from_here at frame)
end-written at frame h a = meant a (nothing-here at frame h) (omega arith)

pub around-written : {o o₁ o₂ o₃ bs : List ℕ} {from r₁ r₂ r₃ start : ℕ} (n at : ℕ) (frame : List ℕ) → spaced n ≡ spaced at → start ≡ at - 4
    → bs ≡ take (at - start) (drop start frame) → from + 35 ≤ length o
    → Puts o o₁ from r₁ 6 (spaced n) → Wrote o₁ o₂ r₁ r₂ 12 (hex_bytes bs) → Wrote o₂ o₃ r₂ r₃ 17 (from_here at frame)
    → Wrote o o₃ from r₃ 35 (spaced at ++ around at frame)
unfolding around from_here
around-written {bs = bs} n at frame en es e room x y z =
    meant (then (x.written (omega arith)) (then y z))
    (ap (λ l. l ++ (hex_bytes bs ++ from_here at frame)) en
    ∙ ap (λ l. spaced at ++ (hex_bytes l ++ from_here at frame)) (e ∙ ap (λ s. take (at - s) (drop s frame)) es)) (omega arith)

-- the five last digits of a number over 99,999
digit-same : (p n m : ℕ) → p ≤ n → p ≤ m → m / p % 10 ≡ n / p % 10 → digit_at p m ≡ digit_at p n
unfolding digit_at
digit-same p n m h k e = rw (le-leb p n h, le-leb p m k, e)

pub same-printed : (n : ℕ) → 100000 ≤ n → spaced (100000 + n % 100000) ≡ spaced n
unfolding spaced decimal
same-printed n h =
    let m = 100000 + n % 100000 in
    let a : digit_at 10000 m ≡ digit_at 10000 n = digit-same 10000 n m (omega arith) (omega arith) (omega arith) in
    let b : digit_at 1000 m ≡ digit_at 1000 n = digit-same 1000 n m (omega arith) (omega arith) (omega arith) in
    let c : digit_at 100 m ≡ digit_at 100 n = digit-same 100 n m (omega arith) (omega arith) (omega arith) in
    let d : digit_at 10 m ≡ digit_at 10 n = digit-same 10 n m (omega arith) (omega arith) (omega arith) in
    let e : m % 10 ≡ n % 10 = omega arith in
    rw (a, b, c, d, e)

-- ---- what reading answers

-- the case of an enum that was found, put for the enum
pub kind-written : {o o' : List ℕ} {from r m : ℕ} {p q : Packet} → p ≡ q → m ≤ 22 → Wrote o o' from r m (kind_text (kind_of q))
    → Wrote o o' from r 22 (kind_text (kind_of p))
kind-written e h w = meant w (ap (λ k. kind_text (kind_of k)) (sym e)) h

module _ {o o' : List ℕ} {from r : ℕ} {contents : Contents} where
  pub packet-read : (p : Packet) (user : UserData) → contents ≡ PacketIn p user → Wrote o o' from r 30 (packet_text p) → Wrote o o' from r 40 (read_text (Ok contents))
  unfolding read_text
  packet-read p user e w = meant w (ap (λ k. read_text (Ok k)) (sym e)) (omega arith)

  pub route-read : (route : Route) → contents ≡ RouteIn route → Wrote o o' from r 9 (45 ∷ 32 ∷ 82 ∷ 79 ∷ 85 ∷ 84 ∷ 69 ∷ 32 ∷ 48 ∷ [])
      → Wrote o o' from r 40 (read_text (Ok contents))
  unfolding read_text spaced decimal digit_at
  route-read route e w = meant w (ap (λ k. read_text (Ok k)) (sym e)) (omega arith)

module _ {o o' : List ℕ} {from r : ℕ} {read : Read} where
  pub contents-read : (contents : Contents) → read ≡ Ok contents → Wrote o o' from r 40 (read_text (Ok contents)) → Wrote o o' from r 40 (read_text read)
  contents-read contents e w = meant w (ap read_text (sym e)) (omega arith)

  pub not-read : (fault : Fault) → read ≡ Err fault → Wrote o o' from r 9 (not_read_text fault.why) → Wrote o o' from r 40 (read_text read)
  unfolding read_text
  not-read fault e w = meant w (ap read_text (sym e)) (omega arith)

  pub read-fault : (frame : List ℕ) (contents : Contents) → read ≡ Ok contents → Wrote o o' from r 2 (32 ∷ 45 ∷ [])
      → Wrote o o' from r 35 (fault_text read frame)
  unfolding fault_text
  read-fault frame contents e w = meant w (ap (λ k. fault_text k frame) (sym e)) (omega arith)

  pub refused-fault : (frame : List ℕ) (fault : Fault) → read ≡ Err fault → Wrote o o' from r 35 (spaced fault.at ++ around fault.at frame)
      → Wrote o o' from r 35 (fault_text read frame)
  unfolding fault_text
  refused-fault frame fault e w = meant w (ap (λ k. fault_text k frame) (sym e)) (omega arith)

pub not-read-written : {o o₁ o₂ : List ℕ} {from r₁ r₂ n : ℕ} (why : Refusal) → n ≡ number_of why → from + 9 ≤ length o
    → Puts o o₁ from r₁ 3 (45 ∷ 32 ∷ 45 ∷ []) → Puts o₁ o₂ r₁ r₂ 6 (spaced n) → Wrote o o₂ from r₂ 9 (not_read_text why)
not-read-written why e room a b =
    meant (put_then (a.written (omega arith)) b (omega arith)) (ap (λ k. 45 ∷ 32 ∷ 45 ∷ spaced k) e) (omega arith)

zero-printed : 32 ∷ 48 ∷ [] ≡ spaced 0
unfolding spaced decimal digit_at
zero-printed = refl

module _ {o o₁ o₂ : List ℕ} {from r₁ r₂ : ℕ} {xs : List ℕ} (room : from + 30 ≤ length o) (a : Puts o o₁ from r₁ 5 xs) (b : Puts o₁ o₂ r₁ r₂ 1 (32 ∷ [])) where
  pub kind-room : r₂ + 22 ≤ length o₂
  kind-room = room_after 22 (put_then (a.written (omega arith)) b (omega arith)) (omega arith)

  pub packet-written : {o₃ o₄ : List ℕ} {r₃ r₄ : ℕ} (p : Packet) → xs ≡ decimal (sn_of p).0 → Wrote o₂ o₃ r₂ r₃ 22 (kind_text (kind_of p))
      → Puts o₃ o₄ r₃ r₄ 2 (32 ∷ 48 ∷ []) → Wrote o o₄ from r₄ 30 (packet_text p)
  packet-written p e c d =
      meant (put_then (then (put_then (a.written (omega arith)) b (omega arith)) c) d (omega arith))
      (append_assoc (xs ++ (32 ∷ [])) (kind_text (kind_of p)) (32 ∷ 48 ∷ []) ∙ append_assoc xs (32 ∷ []) (kind_text (kind_of p) ++ (32 ∷ 48 ∷ []))
      ∙ ap (λ l. l ++ (32 ∷ (kind_text (kind_of p) ++ (32 ∷ 48 ∷ [])))) e
      ∙ ap (λ l. decimal (sn_of p).0 ++ (32 ∷ (kind_text (kind_of p) ++ l))) zero-printed) (omega arith)

-- ---- lines

pub refused-written : {o o₁ o₂ o₃ : List ℕ} {r₁ r₂ r₃ n : ℕ} (why : Refusal) → n ≡ number_of why → 14 ≤ length o
    → Puts o o₁ 0 r₁ 7 refused_text → Puts o₁ o₂ r₁ r₂ 6 (spaced n) → Puts o₂ o₃ r₂ r₃ 1 (10 ∷ []) → Wrote o o₃ 0 r₃ 14 (refused_line why)
refused-written {n = n} why e room a b c =
    meant (put_then (put_then (a.written (omega arith)) b (omega arith)) c (omega arith))
    (append_assoc refused_text (spaced n) (10 ∷ []) ∙ ap (λ k. refused_text ++ (spaced k ++ (10 ∷ []))) e) (omega arith)

pub line-written : {o o₁ o₂ o₃ : List ℕ} {from r₁ r₂ r₃ : ℕ} {read : Read} (hex : Bool) (form : Form) (frame : List ℕ) → read ≡ read_of form frame
    → from + 128 ≤ length o → Wrote o o₁ from r₁ 40 (read_text read) → Wrote o₁ o₂ r₁ r₂ 35 (column hex read frame) → Puts o₂ o₃ r₂ r₃ 1 (10 ∷ [])
    → Wrote o o₃ from r₃ 128 (line_text hex form frame)
unfolding line_text
line-written {read = read} hex form frame e room a b c =
    meant (put_then (then a b) c (omega arith))
    (append_assoc (read_text read) (column hex read frame) (10 ∷ []) ∙ ap (λ k. read_text k ++ (column hex k frame ++ (10 ∷ []))) e) (omega arith)

pub column-written : {o o' : List ℕ} {from r : ℕ} {hex : Bool} (read : Read) (frame : List ℕ) → hex ≡ true → Wrote o o' from r 35 (fault_text read frame)
    → Wrote o o' from r 35 (column hex read frame)
column-written read frame e w = meant w (ap (λ h. column h read frame) (sym e)) (omega arith)

pub no-column : {hex : Bool} (o : List ℕ) (from : ℕ) (read : Read) (frame : List ℕ) → hex ≡ false → Wrote o o from from 35 (column hex read frame)
no-column o from read frame e = meant (none o from 35) (ap (λ h. column h read frame) (sym e)) (omega arith)
