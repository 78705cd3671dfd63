-- Texts written one after another into lent bytes.
-- Assumes nothing.
use mathlib.Core.Path.{◌≡◌, refl, sym, ap, ◌∙◌}
use mathlib.Core.List.{List, [], ◌∷◌, ◌++◌}
use Prim.Native.Nat.{ℕ, suc, ◌+◌, ◌≤◌, ◌<◌}
use native.Mathlib.Nat.{add-zero}
use native.Mathlib.Omega.{arith}
use lib.ListN.{length, set, take, drop, length-set, length-append}
use lib.Seq.{sets, sets-eq, take-length, paste, length-paste}
use Rattle.text.specs.Writing.{put, Wrote, Puts}

-- ---- one text after another

put-put : (o : List ℕ) (from : ℕ) (xs ys : List ℕ) → put (put o from xs) (from + length xs) ys ≡ put o from (xs ++ ys)
unfolding put
put-put o from [] ys = rw add-zero
put-put o from (x ∷ xs) ys =
    let e : from + suc (length xs) ≡ suc from + length xs = omega arith in
    ap (λ k. put (put (set o from x) (suc from) xs) k ys) e ∙ put-put (set o from x) (suc from) xs ys

put_is : (o : List ℕ) (from : ℕ) (ys : List ℕ) → put o from ys ≡ sets o from ys
unfolding put
put_is o from [] = refl
put_is o from (y ∷ ys) = put_is (set o from y) (suc from) ys

-- a text written at the front leaves the rest unchanged
pub in-front : {o o' : List ℕ} {r most : ℕ} {ys : List ℕ} → Wrote o o' 0 r most ys → most ≤ length o → o' ≡ ys ++ drop (length ys) o
in-front {o} {o'} {r} {most} {ys} w h =
    let k : 0 + length ys ≤ length o = omega (arith, w.end, w.within) in
    let z : 0 + length ys ≡ length ys = omega arith in
    w.bytes ∙ put_is o 0 ys ∙ sets-eq ys o 0 k ∙ ap (λ n. ys ++ drop n o) z

-- nothing, one byte, and two texts one after the other
pub none : (o : List ℕ) (from most : ℕ) → Wrote o o from from most []
unfolding put
none o from most = record { end = omega arith; within = omega arith; size = refl; bytes = refl }

pub one : (o : List ℕ) (from b r : ℕ) → r ≡ from + 1 → Wrote o (set o from b) from r 1 (b ∷ [])
unfolding put
one o from b r e = record { end = e; within = omega arith; size = length-set o from b; bytes = refl }

pub then : {o o₁ o₂ : List ℕ} {from r₁ r₂ m₁ m₂ : ℕ} {xs ys : List ℕ} → Wrote o o₁ from r₁ m₁ xs → Wrote o₁ o₂ r₁ r₂ m₂ ys
    → Wrote o o₂ from r₂ (m₁ + m₂) (xs ++ ys)
then {o} {o₁} {o₂} {from} {r₁} {r₂} {m₁} {m₂} {xs} {ys} a b =
    let e : length (xs ++ ys) ≡ length xs + length ys = length-append xs ys in
    record {
      end = omega (arith, a.end, b.end, e);
      within = omega (arith, a.within, b.within);
      size = b.size ∙ a.size;
      bytes = b.bytes ∙ ap (λ k. put o₁ k ys) a.end ∙ ap (λ l. put l (from + length xs) ys) a.bytes ∙ put-put o from xs ys;
    }

-- the same for an equal text and a larger bound
pub meant : {o o' : List ℕ} {from r m n : ℕ} {xs ys : List ℕ} → Wrote o o' from r m xs → xs ≡ ys → m ≤ n → Wrote o o' from r n ys
meant {o} {o'} {from} {r} {m} {n} {xs} {ys} a e h = record {
  end = a.end ∙ ap (λ l. from + length l) e;
  within = omega (arith, a.within, h);
  size = a.size;
  bytes = a.bytes ∙ ap (put o from) e;
}

-- a text copied to its place
pub word-written : (o out text : List ℕ) (from : ℕ) → from + length text ≤ length o → out ≡ paste o from text (length text)
    → Wrote o out from (from + length text) (length text) text
word-written o out text from room e = record {
  end = refl;
  within = omega arith;
  size = ap length e ∙ length-paste o from text (length text) room (omega arith);
  bytes =
      e ∙ ap (λ l. take from o ++ l ++ drop (from + length text) o) (take-length text)
      ∙ sym (put_is o from text ∙ sets-eq text o from room);
}

-- ---- calls that test the room

-- the two ways out of a call: there is room and the text was written; there is none and nothing was
pub puts : {o o' : List ℕ} {from r most : ℕ} {text : List ℕ} → from + most ≤ length o → Wrote o o' from r most text → Puts o o' from r most text
puts room w = record { written = λ _. w; no_room = λ h. absurd (omega arith) }

pub puts-not : (o : List ℕ) (from most : ℕ) (text : List ℕ) → length o < from + most → Puts o o from from most text
puts-not o from most text h = record { written = λ k. absurd (omega arith); no_room = λ _. (refl, refl) }

-- where there is room for two texts, there is room for the second after the first
pub room_after : {o o₁ : List ℕ} {from r₁ m₁ : ℕ} {xs : List ℕ} (m₂ : ℕ) → Wrote o o₁ from r₁ m₁ xs → from + (m₁ + m₂) ≤ length o → r₁ + m₂ ≤ length o₁
room_after m₂ a room = omega (arith, a.within, a.size)

-- and a call writes it
pub put_then : {o o₁ o₂ : List ℕ} {from r₁ r₂ m₁ m₂ : ℕ} {xs ys : List ℕ} → Wrote o o₁ from r₁ m₁ xs → Puts o₁ o₂ r₁ r₂ m₂ ys
    → from + (m₁ + m₂) ≤ length o → Wrote o o₂ from r₂ (m₁ + m₂) (xs ++ ys)
put_then {m₂ = m₂} a b room = then a (b.written (room_after m₂ a room))
