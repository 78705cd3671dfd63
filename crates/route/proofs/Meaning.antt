-- What an update means, in sets: `update-claim` proves `UpdateClaim`.
-- Assumes nothing.
use mathlib.Core.Path.{◌≡◌, refl, sym, ap, ap₂, subst, ◌∙◌}
use mathlib.Core.Logic.{◌≢◌, ◌↔◌}
use mathlib.Core.Bool.{Bool, true, false, not, ◌&&◌, ◌||◌, or-false, and-true, not-and_self, false≢true}
use mathlib.Core.List.{List, [], ◌++◌}
use Prim.Native.Nat.{ℕ, ◌+◌, ◌-◌, ◌^◌, ◌≤◌, ◌<◌}
use native.Mathlib.Decide.{dec_lt}
use native.Mathlib.Omega.{arith}
use lib.Dec.{eqb, leb, lit<}
use lib.ListN.{length, get_or, take, replicate, get_or-replicate, get_or-append, get_or-eq_default, length-replicate}
use lib.Seq.{take_at, get_or-append-add}
use borrow.Author.Tests.{eq-eqb, ne_eqb, eqb-true, eqb-false}
use Rattle.refusal.specs.declared.Refusal.TheVariants.{RouteListMalformed}
use Rattle.lists.proofs.Lists.{length_from, from_at, is-from}
use Rattle.wordset.specs.Sets.{member}
use Rattle.wordset.proofs.Sets.{set_of-lt, member-set_of}
use Rattle.wordset.proofs.Words.{is_set}
use Rattle.route.specs.declared.Table.{Table}
use Rattle.route.specs.declared.Updated.{Updated}
use Rattle.route.specs.Entries.{Entry, Parsed, cut, whole, parse, entries_in, is_in, adds, deletes}
use Rattle.route.specs.Updating.{codes_of, codes_after, table_after, is_lost, lost_between, reported, update_by, update_of}
use Rattle.route.specs.Meaning.{IsTable, UpdateDone, UpdateClaim}
use Rattle.route.proofs.Reporting.{those-in, those-rise, those-none}
use Rattle.route.proofs.Cases.{update-long, update-short}
use Rattle.std.specs.Prelude.{Ok, Err}

-- ---- the places of a report past those used are 0

zeros : (m i : ℕ) → ◌≡◌ {A = ℕ} (get_or (replicate m 0) i 0) 0
zeros m i = elim (dec_lt i m) [
  | yes h ↦ get_or-replicate {A = ℕ} m i 0 0 h
  | no h ↦ get_or-eq_default {A = ℕ} (replicate m 0) 0 (omega (arith, length-replicate {A = ℕ} m 0))
]

past-zero : (l : List ℕ) (m j : ℕ) → length l ≤ j → get_or (l ++ replicate m 0) j 0 ≡ 0
past-zero l m j h =
    let e : j ≡ length l + (j - length l) = omega arith in
    ap (λ (k : ℕ). get_or (l ++ replicate m 0) k 0) e ∙ get_or-append-add l (replicate m 0) (j - length l) 0 ∙ zeros m (j - length l)

-- ---- a test of two parts

lost-is : (x y : ℕ) → ((not (eqb x 0) && eqb y 0) ≡ true) ↔ ((x ≢ 0) × (y ≡ 0))
lost-is x y = (λ e. to (eqb x 0) (eqb y 0) refl refl e, λ w. ap₂ (λ (a b : Bool). not a && b) (ne_eqb x 0 w.0) (eq-eqb y 0 w.1))
  where
    to : (a b : Bool) → eqb x 0 ≡ a → eqb y 0 ≡ b → (not a && b) ≡ true → (x ≢ 0) × (y ≡ 0)
    to true b p q e = absurd (false≢true e)
    to false true p q e = (eqb-false x 0 p, eqb-true y 0 q)
    to false false p q e = absurd (false≢true e)

-- ---- the table after some entries

module _ (es : List Entry) (t : Table) where
  after-at : (a : ℕ) → a < 256 → codes_of (table_after es t) a ≡ codes_after es t a
  unfolding table_after
  after-at a h = from_at 256 (codes_after es t) a h

  after_table : IsTable (table_after es t)
  unfolding table_after
  after_table = record { places = length_from 0 256 (codes_after es t); words = words }
    where
      words : (a : ℕ) → codes_of (table_after es t) a < 2 ^ 16
      words a = elim (dec_lt a 256) [
        | yes h ↦ rw (from_at 256 (codes_after es t) a h) (set_of-lt 16 _)
        | no h ↦
            let z : codes_of (table_after es t) a ≡ 0 =
            get_or-eq_default {A = ℕ} (table_after es t).codes 0 (omega (arith, length_from 0 256 (codes_after es t))) in
            rw z (lit< tt)
      ]

-- a list without entries changes nothing
after_none : (t : Table) → IsTable t → table_after [] t ≡ t
unfolding table_after adds deletes
after_none t i =
    let e : t.codes ≡ (table_after [] t).codes =
    is-from 256 t.codes (codes_after [] t) i.places (λ a h.
    is_set 16 (codes_of t a) _ (i.words a) (λ j l. sym (and-true (member (codes_of t a) j || false) ∙ or-false (member (codes_of t a) j)))) in
    λ k. record { codes = sym e k }

none-lost : (t : Table) → lost_between t t ≡ []
unfolding lost_between
none-lost t = those-none (is_lost t t) 256 (λ a. not-and_self (eqb (codes_of t a) 0))

-- ---- the claims

module _ (t : Table) (es : List Entry) where
  -- the addresses reported
  lost : List ℕ
  lost = lost_between t (table_after es t)

  answer : Updated
  answer = reported (Ok tt) (table_after es t) lost

  -- an address is among them exactly if it had a code before and has none after
  lost-in : (a : ℕ) → a < 256 → is_in a (take answer.count answer.lost) ≡ is_lost t (table_after es t) a
  unfolding lost answer lost_between
  lost-in a h = ap (is_in a) (take_at lost _ (length lost) refl) ∙ those-in (is_lost t (table_after es t)) 256 a h

  lost-rise : (j k : ℕ) → j < k → k < answer.count → get_or answer.lost j 0 < get_or answer.lost k 0
  unfolding lost answer lost_between
  lost-rise j k l h =
      let b : j < length lost = omega arith in
      rw (get_or-append lost _ 0 j b, get_or-append lost _ 0 k h) (those-rise (is_lost t (table_after es t)) 256 j k l h)

  accepted : (list : List ℕ) → update_of t list ≡ answer → UpdateDone t list es
  unfolding answer
  accepted list e = record {
    done = ap (λ (u : Updated). u.verdict) e;
    pairs = λ i a hi ha.
        ap (λ (u : Updated). member (codes_of u.next a) i) e ∙ ap (λ (w : ℕ). member w i) (after-at es t a ha) ∙ member-set_of 16 _ i hi;
    reports = λ a h. subst (λ (u : Updated). (is_in a (take u.count u.lost) ≡ true) ↔ ((codes_of t a ≢ 0) × (codes_of u.next a ≡ 0))) (sym e) (
        subst (λ (b : Bool). (b ≡ true) ↔ ((codes_of t a ≢ 0) × (codes_of (table_after es t) a ≡ 0))) (sym (lost-in a h)) (lost-is (codes_of t a) (codes_of (table_after es t) a)));
    rising = λ j k l. subst (λ (u : Updated). k < u.count → get_or u.lost j 0 < get_or u.lost k 0) (sym e) (lost-rise j k l);
    rest-zero = λ j. subst (λ (u : Updated). u.count ≤ j → get_or u.lost j 0 ≡ 0) (sym e) (past-zero lost (256 - length lost) j);
    is-table = subst (λ (u : Updated). IsTable u.next) (sym e) (after_table es t);
  }

cut-refused : (b : Bool) (t : Table) → (update_by b cut t).verdict ≡ Err RouteListMalformed
cut-refused true t = refl
cut-refused false t = refl

refused-unchanged : (b : Bool) (p : Parsed) (t : Table) → (update_by b p t).verdict ≡ Err RouteListMalformed
    → ((update_by b p t).next ≡ t) × ((update_by b p t).count ≡ 0) × ((update_by b p t).lost ≡ replicate 256 0)
refused-unchanged true (whole es) t e = let z : ◌≡◌ {A = ℕ} 0 1 = cc in absurd (omega arith)
refused-unchanged true cut t e = (refl, refl, refl)
refused-unchanged false p t e = (refl, refl, refl)

empty-list : (t : Table) → IsTable t → update_of t [] ≡ reported (Ok tt) t []
unfolding update_of entries_in parse
empty-list t i =
    ap (λ (x : Table). reported (Ok tt) x (lost_between t x)) (after_none t i) ∙ ap (reported (Ok tt) t) (none-lost t)

pub update-claim : UpdateClaim
unfolding update_of
update-claim = record {
  accepted = λ t list es h e. accepted t es list (unfold answer lost in update-short t list (whole es) h e);
  refused = λ t list. (
    λ h. ap (λ (u : Updated). u.verdict) (update-long t list h),
    λ e. ap (λ (p : Parsed). (update_by (leb (length list) 255) p t).verdict) e ∙ cut-refused (leb (length list) 255) t,
  );
  unchanged = λ t list. refused-unchanged (leb (length list) 255) (entries_in list) t;
  empty = λ t i. (ap (λ (u : Updated). u.next) (empty-list t i), ap (λ (u : Updated). u.count) (empty-list t i));
}
