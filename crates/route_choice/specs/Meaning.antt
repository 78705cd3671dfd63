-- What a choice means (document 01, "Interrogators and ground addresses", second paragraph): a
-- chosen code is present and has not failed; it is the last-used one if that is usable, else the
-- lowest usable one; and each of the refusals 1, 8 and 15 is given exactly for its reason.
-- proofs/Meaning.antt proves it (`choice-means`).
-- Assumes nothing.
use Rattle.std.specs.Prelude.{◌≡◌, ◌≢◌, true, false, ℕ, ◌^◌, ◌<◌, Ok, Err, Option, Some}
use Rattle.refusal.specs.declared.Refusal.TheVariants.{OutOfRange, NoInterrogator, AllFailed}
use Rattle.wordset.specs.Sets.{member}
use Rattle.route_choice.specs.Choosing.{choice_code, last_in_range, choose_of}
use Rattle.refusal.specs.Numbers.{refusal_number}

-- c is one of the 16 codes, is in `codes` and is not in `failed`
abbrev pub Usable : ℕ → ℕ → ℕ → Type 0
Usable codes failed c = (c < 16) × (member codes c ≡ true) × (member failed c ≡ false)

-- a choice from the set `codes`, with the last-used code `last` and the set `failed`
pub record ChoiceClaim (codes : ℕ) (last : Option ℕ) (failed : ℕ) : Type 0 where
  -- a chosen code is usable
  pub can-be-used : (c : ℕ) → choose_of codes last failed ≡ Ok c → Usable codes failed c
  -- if the last-used code d is usable, the chosen code c is d
  pub last-used-first : (c d : ℕ) → last ≡ Some d → Usable codes failed d → choose_of codes last failed ≡ Ok c → c ≡ d
  -- if there is no last-used code or it is not usable, no usable code d is lower than the chosen
  -- code c
  pub else-lowest : (c d : ℕ) → ((e : ℕ) → last ≡ Some e → Usable codes failed e → ⊥) → choose_of codes last failed ≡ Ok c → Usable codes failed d
      → d < c → ⊥
  -- refusal 1 is given exactly for a last-used code over 15
  pub out_of_range : choose_of codes last failed ≡ Err OutOfRange → (c : ℕ) × (last ≡ Some c) × (15 < c)
  pub out-of-range-given : (c : ℕ) → last ≡ Some c → 15 < c → choose_of codes last failed ≡ Err OutOfRange
  -- else refusal 8 is given exactly if the set of codes is empty
  pub no-interrogator : choose_of codes last failed ≡ Err NoInterrogator → (c : ℕ) → member codes c ≡ true → ⊥
  pub no-interrogator-given : last_in_range last ≡ true → ((c : ℕ) → member codes c ≡ false) → choose_of codes last failed ≡ Err NoInterrogator
  -- else refusal 15 is given exactly if no code is usable; a code is then present, and it has
  -- failed
  pub all-failed : choose_of codes last failed ≡ Err AllFailed → (c : ℕ) → Usable codes failed c → ⊥
  pub all-failed-present : codes < 2 ^ 16 → choose_of codes last failed ≡ Err AllFailed
      → (c : ℕ) × (c < 16) × (member codes c ≡ true) × (member failed c ≡ true)
  pub all-failed-given : (c : ℕ) → last_in_range last ≡ true → member codes c ≡ true → ((d : ℕ) → Usable codes failed d → ⊥)
      → choose_of codes last failed ≡ Err AllFailed
  -- a refusal names no code
  pub none_named : refusal_number (choose_of codes last failed) ≢ 0 → choice_code (choose_of codes last failed) ≡ 0
  -- if the last-used code is not over 15 and some code is usable, a code is chosen
  pub always : (c : ℕ) → last_in_range last ≡ true → Usable codes failed c → (d : ℕ) × (choose_of codes last failed ≡ Ok d)

-- this holds of every choice
abbrev pub ChoiceMeans : Type 0
ChoiceMeans = (codes : ℕ) (last : Option ℕ) (failed : ℕ) → ChoiceClaim codes last failed
