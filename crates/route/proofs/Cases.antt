-- An update, case by case.
-- Assumes nothing.
use mathlib.Core.Path.{◌≡◌, refl, sym, ap, ap₂, ◌∙◌}
use mathlib.Core.Bool.{Bool, true, false, false≢true, ◌&&◌}
use mathlib.Core.List.{List, []}
use Prim.Native.Nat.{ℕ, ◌≤◌, ◌<◌}
use lib.Dec.{leb}
use lib.ListN.{length}
use borrow.Author.Tests.{lt-leb, le-leb}
use Rattle.refusal.specs.declared.Refusal.TheVariants.{RouteListMalformed}
use Rattle.refusal.specs.Numbers.{check, refusal_number}
use Rattle.route.specs.declared.Table.{Table}
use Rattle.route.specs.declared.Updated.{Updated}
use Rattle.route.specs.Entries.{Parsed, cut, whole, entries_in}
use Rattle.route.specs.Updating.{those, table_after, lost_between, reported, is_whole, update_verdict, update_by, update_of}
use Rattle.route.specs.declared.Report.{Report}
use Rattle.route.specs.Parts.{Change, no_change, collected_by, Found, settled, report_of, lost_in}
use Rattle.route.proofs.Joining.{settled-after}
use Rattle.std.specs.Prelude.{Ok, Err}

module _ (t : Table) (xs : List ℕ) where
  pub update-long : 255 < length xs → update_of t xs ≡ reported (Err RouteListMalformed) t []
  unfolding update_of
  update-long h = ap (λ (b : Bool). update_by b (entries_in xs) t) (lt-leb _ _ h)

  pub update-short : (p : Parsed) → length xs ≤ 255 → entries_in xs ≡ p → update_of t xs ≡ update_by true p t
  unfolding update_of
  update-short p h e = ap₂ (λ (b : Bool) (q : Parsed). update_by b q t) (le-leb _ _ h) e

  module _ (w : Bool) (c : Change) (h : length xs ≤ 255) (f : Found (collected_by (entries_in xs) no_change) w c) where
    pub update-cut : w ≡ false → update_of t xs ≡ reported (Err RouteListMalformed) t []
    update-cut e = go (entries_in xs) refl f.told
      where
        go : (p : Parsed) → entries_in xs ≡ p → w ≡ (collected_by p no_change).whole → update_of t xs ≡ reported (Err RouteListMalformed) t []
        go cut q d = update-short cut h q
        go (whole es) q d = absurd (false≢true (sym e ∙ d))

    pub update-done : w ≡ true → (codes : List ℕ) → codes ≡ settled t.codes c → (r : Report) → r ≡ report_of (those 256 (lost_in t.codes codes))
        → record { verdict = Ok tt; next = record { codes = codes }; count = r.count; lost = r.lost } ≡ update_of t xs
    unfolding lost_between
    update-done e codes n r l = go (entries_in xs) refl f.told (f.gathered e)
      where
        answer : List ℕ → Report → Updated
        answer codes r = record { verdict = Ok tt; next = record { codes = codes }; count = r.count; lost = r.lost }

        go : (p : Parsed) → entries_in xs ≡ p → w ≡ (collected_by p no_change).whole → c ≡ (collected_by p no_change).change → answer codes r ≡ update_of t xs
        go cut q d g = absurd (false≢true (sym d ∙ e))
        go (whole es) q d g =
            let after : codes ≡ (table_after es t).codes = n ∙ ap (settled t.codes) g ∙ settled-after es t in
            ap (answer codes) l ∙ ap (λ (x : List ℕ). answer x (report_of (lost_between t (record { codes = x })))) after ∙ sym (update-short (whole es) h q)

-- ---- the number of the answer

number_by : (b : Bool) (p : Parsed) (t : Table) → refusal_number (update_by b p t).verdict ≡ refusal_number (check (b && is_whole p) RouteListMalformed (Ok tt))
number_by true (whole es) t = refl
number_by true cut t = refl
number_by false p t = refl

pub update-number : (t : Table) (xs : List ℕ) (r : Updated) → r ≡ update_of t xs → (r ≡ update_of t xs) × (refusal_number r.verdict ≡ refusal_number (update_verdict xs))
unfolding update_of
update-number t xs r e = (e, ap (λ (x : Updated). refusal_number x.verdict) e ∙ number_by (leb (length xs) 255) (entries_in xs) t)
