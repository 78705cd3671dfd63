-- The walk along a route list: what one entry takes, and what the loop over the entries keeps.
-- Assumes nothing.
use mathlib.Core.Path.{◌≡◌, refl, sym, ap, ap₂, ◌∙◌}
use mathlib.Core.List.{List, [], ◌∷◌}
use mathlib.Core.Bool.{true, false, false≢true}
use Prim.Native.Nat.{ℕ, zero, suc, zero-le, ◌+◌, ◌-◌, ◌%◌, ◌≤◌, ◌<◌}
use native.Mathlib.Numerals.{add-one}
use native.Mathlib.Decide.{dec_le}
use native.Mathlib.Omega.{arith}
use lib.ListN.{length, get_or, drop, set, length-drop, drop_of_length-le}
use lib.Seq.{drop-cons, drop-drop}
use borrow.Author.Tests.{lt-leb, le-leb}
use Rattle.wordset.specs.Sets.{with}
use Rattle.route.specs.Entries.{Entry, entry, Parsed, cut, whole, follow, parse, entries_in}
use Rattle.route.specs.Parts.{Change, Taken, Collected, mark, step, collect, no_change, taken_of, collected_by, Found}

-- ---- the addresses of an entry, one after another

pub mark-next : (code i : ℕ) (xs w : List ℕ) → i < length xs
    → mark code (drop i xs) w ≡ mark code (drop (i + 1) xs) (set w (get_or xs i 0) (with 16 (get_or w (get_or xs i 0) 0) code))
unfolding mark
mark-next code i xs w h = rw (add-one, drop-cons xs i 0)

pub mark-end : (code i : ℕ) (xs w : List ℕ) → length xs ≤ i → mark code (drop i xs) w ≡ w
unfolding mark
mark-end code i xs w h = rw (drop_of_length-le xs h)

-- ---- the first entry of what is left of a list

module _ (xs : List ℕ) (c : Change) where
  pub taken-cut : length xs < get_or xs 0 0 % 8 + 2 → record { size = 0; change = c } ≡ taken_of xs c
  unfolding taken_of
  taken-cut h = simp (lt-leb _ _ h)

-- ---- what one entry adds to the parsed list

parse-follow : (e : Entry) (p : Parsed) (c : Change) → collected_by (follow e p) c ≡ collected_by p (step e c)
unfolding collect
parse-follow e cut c = refl
parse-follow e (whole es) c = refl

parse-whole : (f : ℕ) (ys : List ℕ) (c : Change) → get_or ys 0 0 % 8 + 2 ≤ length ys
    → collected_by (parse (suc f) ys) c ≡ collected_by (parse f (drop (get_or ys 0 0 % 8 + 2) ys)) (step (entry (get_or ys 0 0) (drop 1 ys)) c)
unfolding parse
parse-whole f [] c h = absurd (omega arith)
parse-whole f (b ∷ rest) c h =
    let n : b % 8 + 2 ≡ suc (b % 8 + 1) = omega arith in
    let l : b % 8 + 1 ≤ length rest = omega arith in
    simp (le-leb _ _ l, n) (parse-follow _ (parse f (drop (b % 8 + 1) rest)) c)

parse-cut : (f : ℕ) (ys : List ℕ) (c : Change) → 0 < length ys → length ys < get_or ys 0 0 % 8 + 2
    → collected_by (parse (suc f) ys) c ≡ record { whole = false; change = no_change }
unfolding parse
parse-cut f [] c p h = absurd (omega arith)
parse-cut f (b ∷ rest) c p h =
    let l : length rest < b % 8 + 1 = omega arith in
    simp (lt-leb _ _ l)

parse-end : (f : ℕ) (c : Change) → collected_by (parse f []) c ≡ record { whole = true; change = c }
unfolding parse collect
parse-end zero c = refl
parse-end (suc f) c = refl

-- ---- the invariant of the walk: reading on from here, with the change as it is now, has the same
-- result as reading the whole list

pub record Going (xs : List ℕ) (start : Change) (at : ℕ) (c : Change) : Type 0 where
  pub within : at ≤ length xs
  pub fuel : ℕ
  pub enough : length xs - at ≤ fuel
  pub same : collected_by (parse fuel (drop at xs)) c ≡ collected_by (entries_in xs) start

-- what holds after an entry was read
pub record Stepped (xs : List ℕ) (start : Change) (at : ℕ) (t : Taken) : Type 0 where
  pub going : Going xs start (at + t.size) t.change
  pub some : 0 < t.size
  pub inside : at + t.size ≤ length xs

pub going_start : (xs : List ℕ) (c : Change) → Going xs c 0 c
unfolding entries_in
going_start xs c = record { within = zero-le; fuel = length xs; enough = omega arith; same = refl }

module _ (xs : List ℕ) (start : Change) (at : ℕ) (c : Change) (g : Going xs start at c) where
  pub going_end : length xs ≤ at → Found (collected_by (entries_in xs) start) true c
  going_end h = record { told = ap (λ (r : Collected). r.whole) all; gathered = λ e. ap (λ (r : Collected). r.change) all }
    where
      all : record { whole = true; change = c } ≡ collected_by (entries_in xs) start
      all = sym (parse-end g.fuel c) ∙ ap (λ (l : List ℕ). collected_by (parse g.fuel l) c) (sym (drop_of_length-le xs h)) ∙ g.same

  module _ (more : at < length xs) (t : Taken) (e : t ≡ taken_of (drop at xs) c) where
    fuelled : (f : ℕ) → length xs - at ≤ f → (k : ℕ) × (f ≡ suc k)
    fuelled zero h = absurd (omega arith)
    fuelled (suc k) h = (k, refl)

    left : length (drop at xs) ≡ length xs - at
    left = length-drop at xs

    need : ℕ
    need = get_or (drop at xs) 0 0 % 8 + 2

    was-cut : length (drop at xs) < need → t ≡ record { size = 0; change = c }
    unfolding need
    was-cut h = e ∙ sym (taken-cut (drop at xs) c h)

    was-whole : need ≤ length (drop at xs) → t ≡ record { size = need; change = step (entry (get_or (drop at xs) 0 0) (drop 1 (drop at xs))) c }
    unfolding need taken_of
    was-whole h = e ∙ simp (le-leb _ _ h)

    was-all : t.size ≡ 0 → record { whole = false; change = no_change } ≡ collected_by (entries_in xs) start
    unfolding need
    was-all z =
        elim (dec_le need (length (drop at xs))) [
          | yes h ↦ absurd (omega (arith, ap (λ (r : Taken). r.size) (was-whole h)))
          | no h ↦
              let k = fuelled g.fuel g.enough in
              sym (parse-cut k.0 (drop at xs) c (omega (arith, left)) (omega arith))
              ∙ ap (λ (f : ℕ). collected_by (parse f (drop at xs)) c) (sym k.1) ∙ g.same
        ]

    pub going-cut : (d : Change) → t.size ≡ 0 → Found (collected_by (entries_in xs) start) false d
    going-cut d z = record { told = ap (λ (r : Collected). r.whole) (was-all z); gathered = λ e. absurd (false≢true e) }

    pub going_next : (t.size ≡ 0 → ⊥) → Stepped xs start at t
    unfolding need
    going_next z =
        elim (dec_le need (length (drop at xs))) [
          | yes h ↦
              let k = fuelled g.fuel g.enough in
              let w = was-whole h in
              let s : t.size ≡ need = ap (λ (r : Taken). r.size) w in
              record {
                going = record {
                  within = omega (arith, left);
                  fuel = k.0;
                  enough = omega (arith, left, k.1);
                  same =
                      ap₂ (λ (n : ℕ) (d : Change). collected_by (parse k.0 (drop (at + n) xs)) d) s (ap (λ (r : Taken). r.change) w)
                      ∙ ap (λ (l : List ℕ). collected_by (parse k.0 l) (step (entry (get_or (drop at xs) 0 0) (drop 1 (drop at xs))) c)) (sym (drop-drop need at xs))
                      ∙ sym (parse-whole k.0 (drop at xs) c h)
                      ∙ ap (λ (f : ℕ). collected_by (parse f (drop at xs)) c) (sym k.1) ∙ g.same;
                };
                some = omega arith;
                inside = omega (arith, left);
              }
          | no h ↦ absurd (z (ap (λ (r : Taken). r.size) (was-cut (omega arith))))
        ]
