-- Pairs of code and address added to 256 sets: the result of all steps of reading a list.
-- Assumes nothing.
use mathlib.Core.Path.{◌≡◌, refl, sym, ap, ap₂, ◌∙◌}
use mathlib.Core.Bool.{Bool, true, false, not, cond, ◌&&◌, ◌||◌, or-false, or_assoc, and-true, and-false}
use mathlib.Core.List.{List, [], ◌∷◌}
use Prim.Native.Nat.{ℕ, ◌^◌, ◌<◌}
use lib.Dec.{eqb, lit<}
use lib.ListN.{length, get_or, set, replicate, length-replicate, get_or-replicate}
use borrow.Author.Tests.{eqb-true}
use Rattle.lists.specs.Lists.{list_from}
use Rattle.lists.proofs.Lists.{length_from, from_at, is-from, from-same, set-from}
use Rattle.wordset.specs.Sets.{member, set_of, with}
use Rattle.wordset.proofs.Sets.{member-none, set_of-lt, member-set_of, set_of-same}
use Rattle.wordset.proofs.Words.{is_set}
use Rattle.route.specs.declared.Table.{Table}
use Rattle.route.specs.Entries.{Entry, is_in, names, adds, deletes}
use Rattle.route.specs.Updating.{codes_after, table_after}
use Rattle.route.specs.Parts.{Change, mark, step_to, step, collect, no_change, settled_at, settled}

-- a change by its two tables
abbrev pairs : List ℕ → List ℕ → Change
pairs a d = record { added = a; deleted = d }

-- 256 sets of 16 codes
record Sets (w : List ℕ) : Type 0 where
  places : length w ≡ 256
  fits : (a : ℕ) → a < 256 → get_or w a 0 < 2 ^ 16

-- 256 sets, with every pair of code i and address a added for which f is true
unfoldable joined : (ℕ → ℕ → Bool) → List ℕ → List ℕ
joined f w = list_from 0 256 (λ a. set_of 16 (λ i. member (get_or w a 0) i || f i a))

module _ (f : ℕ → ℕ → Bool) (w : List ℕ) where
  joined-sets : Sets (joined f w)
  unfolding joined
  joined-sets = record { places = length_from 0 256 _; fits = λ a h. rw (from_at 256 _ a h) (set_of-lt 16 _) }

  member-joined : (a i : ℕ) → a < 256 → i < 16 → member (get_or (joined f w) a 0) i ≡ (member (get_or w a 0) i || f i a)
  unfolding joined
  member-joined a i h l = ap (λ (x : ℕ). member x i) (from_at 256 _ a h) ∙ member-set_of 16 _ i l

  -- tests that agree join the same pairs
  joined_same : (g : ℕ → ℕ → Bool) → ((i a : ℕ) → f i a ≡ g i a) → joined f w ≡ joined g w
  unfolding joined
  joined_same g e = from-same 256 _ _ (λ a h. set_of-same 16 _ _ (λ i l. ap (λ (b : Bool). member (get_or w a 0) i || b) (e i a)))

  -- pairs joined after others
  joined-twice : (g : ℕ → ℕ → Bool) → joined g (joined f w) ≡ joined (λ i a. f i a || g i a) w
  unfolding joined
  joined-twice g = from-same 256 _ _ (λ a h. set_of-same 16 _ _ (λ i l.
      ap (λ (b : Bool). b || g i a) (member-joined a i h l) ∙ or_assoc (member (get_or w a 0) i) (f i a) (g i a)))

-- one code joined to one address's set
joined-with : (f : ℕ → ℕ → Bool) (w : List ℕ) (x code : ℕ)
    → set (joined f w) x (with 16 (get_or (joined f w) x 0) code) ≡ joined (λ i a. f i a || (eqb i code && eqb a x)) w
unfolding joined
joined-with f w x code = set-from 256 _ x _ ∙ from-same 256 _ _ (λ a h. go a h (eqb a x) refl)
  where
    same : (p q r : Bool) → (p || q || r) ≡ (p || (q || (r && true)))
    same p q r = or_assoc p q r ∙ ap (λ (t : Bool). p || (q || t)) (sym (and-true r))

    other : (p q r : Bool) → (p || q) ≡ (p || (q || (r && false)))
    other p q r = ap (λ (t : Bool). p || t) (sym (or-false q) ∙ ap (λ (t : Bool). q || t) (sym (and-false r)))

    go : (a : ℕ) → a < 256 → (t : Bool) → eqb a x ≡ t
        → cond t (with 16 (get_or (joined f w) x 0) code) (set_of 16 (λ i. member (get_or w a 0) i || f i a))
        ≡ set_of 16 (λ i. member (get_or w a 0) i || (f i a || (eqb i code && t)))
    go a h true e =
        ap (λ (y : ℕ). with 16 (get_or (joined f w) y 0) code) (sym (eqb-true a x e))
        ∙ set_of-same 16 _ _ (λ i l. ap (λ (t : Bool). t || eqb i code) (member-joined f w a i h l) ∙ same (member (get_or w a 0) i) (f i a) (eqb i code))
    go a h false e = set_of-same 16 _ _ (λ i l. other (member (get_or w a 0) i) (f i a) (eqb i code))

-- no pair joined
joined-none : (w : List ℕ) → Sets w → w ≡ joined (λ i a. false) w
unfolding joined
joined-none w s = is-from 256 w _ s.places (λ a h. is_set 16 (get_or w a 0) _ (s.fits a h) (λ i l. sym (or-false (member (get_or w a 0) i))))

-- a code joined to the sets of some addresses
mark-joined : (f : ℕ → ℕ → Bool) (w : List ℕ) (code : ℕ) (xs : List ℕ) → mark code xs (joined f w) ≡ joined (λ i a. f i a || (eqb i code && is_in a xs)) w
unfolding mark is_in
mark-joined f w code [] = joined_same f w _ (λ i a. sym (or-false (f i a)) ∙ ap (λ (t : Bool). f i a || t) (sym (and-false (eqb i code))))
mark-joined f w code (x ∷ xs) =
    ap (mark code xs) (joined-with f w x code)
    ∙ mark-joined (λ i a. f i a || (eqb i code && eqb a x)) w code xs
    ∙ joined_same _ w _ (λ i a. place (f i a) (eqb i code) (eqb a x) (is_in a xs))
  where
    place : (p q r s : Bool) → (p || (q && r) || (q && s)) ≡ (p || (q && (r || s)))
    place true q r s = refl
    place false true r s = refl
    place false false r s = refl

-- marking an entry's addresses adds its pairs
mark-is : (e : Entry) (w : List ℕ) → Sets w → mark e.code e.addresses w ≡ joined (names e) w
mark-is e w s = ap (mark e.code e.addresses) (joined-none w s) ∙ mark-joined (λ i a. false) w e.code e.addresses

-- ---- all entries

-- the change after one entry, and after the entries that come next
module _ (e : Entry) (es : List Entry) (c : Change) (s : Sets c.added) (t : Sets c.deleted) where
  step-joined : (b : Bool) → pairs (joined (adds es) (step_to b e c).added) (joined (deletes es) (step_to b e c).deleted)
      ≡ pairs (joined (λ i a. (b && names e i a) || adds es i a) c.added) (joined (λ i a. (not b && names e i a) || deletes es i a) c.deleted)
  step-joined true =
      ap (λ (w : List ℕ). pairs w (joined (deletes es) c.deleted)) (ap (joined (adds es)) (mark-is e c.added s) ∙ joined-twice (names e) c.added (adds es))
  step-joined false =
      ap (pairs (joined (adds es) c.added)) (ap (joined (deletes es)) (mark-is e c.deleted t) ∙ joined-twice (names e) c.deleted (deletes es))

  step_added : (b : Bool) → Sets (step_to b e c).added
  step_added true = rw (mark-is e c.added s) (joined-sets (names e) c.added)
  step_added false = s

  step-deleted : (b : Bool) → Sets (step_to b e c).deleted
  step-deleted true = t
  step-deleted false = rw (mark-is e c.deleted t) (joined-sets (names e) c.deleted)

-- what all entries add and delete
collect-joined : (es : List Entry) (c : Change) → Sets c.added → Sets c.deleted
    → collect es c ≡ pairs (joined (adds es) c.added) (joined (deletes es) c.deleted)
unfolding collect step adds deletes
collect-joined [] c s t = ap₂ pairs (joined-none c.added s) (joined-none c.deleted t)
collect-joined (e ∷ es) c s t =
    collect-joined es (step_to e.adding e c) (step_added e es c s t e.adding) (step-deleted e es c s t e.adding)
    ∙ step-joined e es c s t e.adding

-- the walk starts without any pair
empty-sets : Sets (replicate 256 0)
empty-sets = record { places = length-replicate {A = ℕ} 256 0; fits = λ a h. rw (get_or-replicate {A = ℕ} 256 a 0 0 h) (lit< tt) }

member-empty : (f : ℕ → ℕ → Bool) (a i : ℕ) → a < 256 → i < 16 → member (get_or (joined f (replicate 256 0)) a 0) i ≡ f i a
member-empty f a i h l =
    member-joined f (replicate 256 0) a i h l
    ∙ ap (λ (b : Bool). b || f i a) (ap (λ (x : ℕ). member x i) (get_or-replicate {A = ℕ} 256 a 0 0 h) ∙ member-none i)

-- the table changed by the pairs of the entries is the table after these entries
pub settled-after : (es : List Entry) (t : Table) → settled t.codes (collect es no_change) ≡ (table_after es t).codes
unfolding settled table_after
settled-after es t =
    ap (λ (c : Change). list_from 0 256 (settled_at t.codes c)) (collect-joined es no_change empty-sets empty-sets)
    ∙ from-same 256 _ (codes_after es t) (λ a h. set_of-same 16 _ _ (λ i l.
    ap₂ (λ (p q : Bool). p && not q)
    (member-set_of 16 _ i l ∙ ap (λ (b : Bool). member (get_or t.codes a 0) i || b) (member-empty (adds es) a i h l))
    (member-empty (deletes es) a i h l)))
