-- Reading numbers and words byte by byte.
-- Assumes nothing.
use Prim.Native.Nat.{ℕ, suc, ◌+◌, ◌-◌, ◌*◌, ◌≤◌, ◌<◌}
use mathlib.Core.Path.{◌≡◌, refl, sym, ap, ◌∙◌, subst}
use mathlib.Core.Bool.{Bool, true, false, not, cond, ◌&&◌}
use mathlib.Core.List.{List, [], ◌∷◌}
use mathlib.Core.Logic.{inl, inr}
use native.Mathlib.Decide.{dec_le}
use native.Mathlib.Omega.{arith}
use native.Mathlib.Numerals.{add-one}
use lib.Dec.{leb, eqb}
use lib.ListN.{length, get_or, take, drop, drop_of_length-le}
use lib.Seq.{drop-cons}
use borrow.Author.Tests.{le-leb, lt-leb, le-ltb, lt-ltb}
use Rattle.replay_script.specs.Text.{is_blank, is_digit, all_digits, value_from, is_number, decimal_in}
use Rattle.replay_script.specs.Lines.{word, after_word}
use Rattle.std.specs.Prelude.{Some, None, position}
use Rattle.std.specs.List.{position_or_len}
use Rattle.std.specs.Char.{IsNotAsciiDigit}

-- ---- numbers

and-false : (a b : Bool) → b ≡ false → a && b ≡ false
and-false true b e = e
and-false false b e = refl

no_number : (t : List ℕ) → is_number t ≡ false → None ≡ decimal_in t
unfolding decimal_in
no_number t e = rw e

empty-isnt : (t : List ℕ) → length t ≡ 0 → is_number t ≡ false
unfolding is_number
empty-isnt t e = rw e

pub empty-none : (t : List ℕ) → length t ≡ 0 → None ≡ decimal_in t
empty-none t e = no_number t (empty-isnt t e)

long-isnt : (t : List ℕ) → 5 < length t → is_number t ≡ false
unfolding is_number
long-isnt t h = and-false (leb 1 (length t)) _ (rw (lt-leb (length t) 5 h))

pub long-none : (t : List ℕ) → 5 < length t → None ≡ decimal_in t
long-none t h = no_number t (long-isnt t h)

digits-isnt : (t : List ℕ) → all_digits t ≡ false → is_number t ≡ false
unfolding is_number
digits-isnt t e = and-false (leb 1 (length t)) _ (and-false (leb (length t) 5) _ (rw e))

not-digits : (t : List ℕ) → all_digits t ≡ false → None ≡ decimal_in t
not-digits t e = no_number t (digits-isnt t e)

large-isnt : (t : List ℕ) → 65535 < value_from 0 t → is_number t ≡ false
unfolding is_number
large-isnt t h = and-false (leb 1 (length t)) _ (and-false (leb (length t) 5) _ (and-false (all_digits t) _ (lt-leb (value_from 0 t) 65535 h)))

too_large : (t : List ℕ) → 65535 < value_from 0 t → None ≡ decimal_in t
too_large t h = no_number t (large-isnt t h)

digits-at : (t : List ℕ) (i : ℕ) → i < length t → all_digits (drop i t) ≡ is_digit (get_or t i 0) && all_digits (drop (i + 1) t)
unfolding all_digits
digits-at t i h = rw (add-one, drop-cons t i 0)

pub value-at : (t : List ℕ) (v i : ℕ) → i < length t → value_from v (drop i t) ≡ value_from (v * 10 + (get_or t i 0 - 48)) (drop (i + 1) t)
unfolding value_from
value-at t v i h = rw (add-one, drop-cons t i 0)

low : (b : ℕ) → b < 48 → is_digit b ≡ false
unfolding is_digit
low b h = rw (lt-leb 48 b h)

high : (b : ℕ) → 57 < b → is_digit b ≡ false
unfolding is_digit
high b h = and-false (leb 48 b) (leb b 57) (lt-leb b 57 h)

is : (b : ℕ) → 48 ≤ b → b ≤ 57 → is_digit b ≡ true
unfolding is_digit
is b h k = rw (le-leb 48 b h, le-leb b 57 k)

bad-digit : (t : List ℕ) (i : ℕ) → i < length t → is_digit (get_or t i 0) ≡ false → all_digits (drop i t) ≡ all_digits t → None ≡ decimal_in t
bad-digit t i h e inv = not-digits t (sym inv ∙ digits-at t i h ∙ ap (λ b. b && all_digits (drop (i + 1) t)) e)

pub digit-none : (t : List ℕ) (i : ℕ) → i < length t → IsNotAsciiDigit (get_or t i 0) → all_digits (drop i t) ≡ all_digits t → None ≡ decimal_in t
digit-none t i h (inl b) inv = bad-digit t i h (low (get_or t i 0) b) inv
digit-none t i h (inr b) inv = bad-digit t i h (high (get_or t i 0) b) inv

pub digits-turn : (t : List ℕ) (i : ℕ) → i < length t → 48 ≤ get_or t i 0 → get_or t i 0 ≤ 57 → all_digits (drop i t) ≡ all_digits t
    → all_digits (drop (i + 1) t) ≡ all_digits t
digits-turn t i h b d inv = sym (ap (λ x. x && all_digits (drop (i + 1) t)) (is (get_or t i 0) b d)) ∙ sym (digits-at t i h) ∙ inv

pub value-turn : (t : List ℕ) (v w i : ℕ) → i < length t → w ≡ v * 10 + (get_or t i 0 - 48) → value_from v (drop i t) ≡ value_from 0 t
    → value_from w (drop (i + 1) t) ≡ value_from 0 t
value-turn t v w i h e inv = ap (λ x. value_from x (drop (i + 1) t)) e ∙ sym (value-at t v i h) ∙ inv

grows : (v : ℕ) (bs : List ℕ) → 65535 < v → 65535 < value_from v bs
unfolding value_from
grows v [] h = h
grows v (b ∷ bs) h = grows (v * 10 + (b - 48)) bs (omega arith)

pub over_none : (t : List ℕ) (v i : ℕ) → i < length t → 65535 < v * 10 + (get_or t i 0 - 48) → value_from v (drop i t) ≡ value_from 0 t
    → None ≡ decimal_in t
over_none t v i h b inv =
    too_large t (subst (λ x. 65535 < x) (sym (value-at t v i h) ∙ inv) (grows (v * 10 + (get_or t i 0 - 48)) (drop (i + 1) t) b))

value-nil : (v : ℕ) → value_from v [] ≡ v
unfolding value_from
value-nil v = refl

digits-nil : all_digits [] ≡ true
unfolding all_digits
digits-nil = refl

number_read : (t : List ℕ) (v : ℕ) → (length t ≡ 0 → ⊥) → length t ≤ 5 → v ≤ 65535 → v ≡ value_from 0 t → all_digits t ≡ true → Some v ≡ decimal_in t
unfolding decimal_in is_number
number_read t v h₁ h₅ b e d =
    let p : 1 ≤ length t = omega arith in
    let q : value_from 0 t ≤ 65535 = omega arith in
    rw (le-leb 1 (length t) p, le-leb (length t) 5 h₅, d, le-leb (value_from 0 t) 65535 q) (ap Some e)

pub number_is : (t : List ℕ) (v i : ℕ) → (length t ≡ 0 → ⊥) → length t ≤ 5 → length t ≤ i → v ≤ 65535
    → value_from v (drop i t) ≡ value_from 0 t → all_digits (drop i t) ≡ all_digits t → Some v ≡ decimal_in t
number_is t v i h₁ h₅ k b val dig =
    let nil : drop i t ≡ [] = drop_of_length-le t k in
    number_read t v h₁ h₅ b (sym (ap (value_from v) nil ∙ value-nil v) ∙ val) (sym dig ∙ ap all_digits nil ∙ digits-nil)

-- ---- words

one-add : (n : ℕ) → 1 + n ≡ suc n
one-add n = omega arith

pub word-to : (s : List ℕ) → take (position_or_len is_blank s) s ≡ word s
unfolding word
word-to [] = refl
word-to (b ∷ bs) = go (eqb b 32) (word-to bs)
  where
    go : (x : Bool) → take (position_or_len is_blank bs) bs ≡ word bs → take (cond (not x) (1 + position_or_len is_blank bs) 0) (b ∷ bs) ≡ cond x [] (b ∷ word bs)
    go true h = refl
    go false h = simp one-add (ap (λ l. b ∷ l) h)

pub word-after : (s : List ℕ) → drop (position_or_len is_blank s + 1) s ≡ after_word s
unfolding after_word
word-after [] = refl
word-after (b ∷ bs) = go (eqb b 32) (word-after bs)
  where
    go : (x : Bool) → drop (position_or_len is_blank bs + 1) bs ≡ after_word bs → drop (cond (not x) (1 + position_or_len is_blank bs) 0 + 1) (b ∷ bs) ≡ cond x bs (after_word bs)
    go true h = refl
    go false h = simp (one-add, add-one) (simp add-one at h)

-- the index of the first blank, as the code finds it
module _ (s : List ℕ) where
  pub no-blank : None ≡ position is_blank s → after_word s ≡ []
  no-blank e = elim (dec_le (length s) (position_or_len is_blank s)) [
    | yes h ↦
        let k : length s ≤ position_or_len is_blank s + 1 = omega arith in
        sym (word-after s) ∙ drop_of_length-le s k
    | no h ↦
        let k : position_or_len is_blank s < length s = omega arith in
        let found : position is_blank s ≡ Some (position_or_len is_blank s) = rw (lt-ltb (position_or_len is_blank s) (length s) k) in
        cc
  ]

  blank-is : (i : ℕ) → Some i ≡ position is_blank s → i ≡ position_or_len is_blank s
  blank-is i e = elim (dec_le (length s) (position_or_len is_blank s)) [
    | yes h ↦
        let none : position is_blank s ≡ None = rw (le-ltb (position_or_len is_blank s) (length s) h) in
        cc
    | no h ↦
        let k : position_or_len is_blank s < length s = omega arith in
        let found : position is_blank s ≡ Some (position_or_len is_blank s) = rw (lt-ltb (position_or_len is_blank s) (length s) k) in
        cc
  ]

  pub before-blank : (i : ℕ) → Some i ≡ position is_blank s → take i s ≡ word s
  before-blank i e = ap (λ k. take k s) (blank-is i e) ∙ word-to s

  pub behind-blank : (i : ℕ) → Some i ≡ position is_blank s → drop (i + 1) s ≡ after_word s
  behind-blank i e = ap (λ k. drop (k + 1) s) (blank-is i e) ∙ word-after s
