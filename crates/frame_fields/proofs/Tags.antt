-- The bits that identify a kind of packet: a header begins with those of its own kind, and not with
-- those of another.
-- Assumes nothing.
use mathlib.Core.Path.{◌≡◌, refl, sym, ap, ap₂, ◌∙◌, subst}
use mathlib.Core.Bool.{Bool, true, false, ◌&&◌, ◌||◌, not, true≢false}
use mathlib.Core.List.{List, [], ◌∷◌, ◌++◌}
use Prim.Native.Nat.{ℕ, zero, suc, ◌+◌, ◌-◌, ◌*◌, ◌/◌, ◌%◌, ◌^◌, ◌<◌, ◌≤◌}
use native.Mathlib.Nat.{mod-eq_of_lt, div-lt_iff_lt-mul}
use native.Mathlib.Omega.{arith}
use lib.Dec.{leb, ltb, eqb}
use lib.ListN.{get_or}
use lib.Pow.{shr-shr, pow-add, pow_pos}
use borrow.Author.Tests.{leb-true, eqb-true, eq-eqb, not-true}
use Rattle.refusal.proofs.Checks.{both_true}
use Rattle.frame_fields.specs.Rows.{total, pack_after, pack, InRange, eights, bytes_of}
use Rattle.frame_fields.specs.Layouts.{Field, fixed, free, lv, Layout, fields, widths, all_values, within, header_number, header, tag_width, tag, opens_with}
use Rattle.frame_fields.proofs.Rows.{pack-leads, pack-lt, total-append, pack-append}
use Rattle.frame_fields.specs.Masks.{in_bytes}
use Rattle.frame_fields.proofs.Headers.{holds, one_lv, values-range}

abbrev pub all_fixed : List Field → Bool
all_fixed [] = true
all_fixed (fixed w v ∷ fs) = all_fixed fs
all_fixed (free w ∷ fs) = false
all_fixed (lv w ∷ fs) = false

-- The conditions on a layout, which computation decides; m is the largest LV.
pub record Sound (m : ℕ) (l : Layout) : Type 0 where
  pub bits : total (widths (fields l)) ≡ total (eights l.size)
  pub values : holds m (fields l) ≡ true
  pub bytes : 1 ≤ l.size
  pub named : all_fixed l.kind ≡ true
  pub bytewise : in_bytes (fields l) 0 ≡ true
  pub single : one_lv (fields l) ≡ true
  pub short : tag_width l.kind ≤ 8

-- whether a layout meets them
abbrev pub is_sound : ℕ → Layout → Bool
is_sound m l =
    eqb (total (widths (fields l))) (total (eights l.size))
    && (holds m (fields l) && (leb 1 l.size && (all_fixed l.kind && (in_bytes (fields l) 0 && (one_lv (fields l) && leb (tag_width l.kind) 8)))))

pub sound-if : (m : ℕ) (l : Layout) → is_sound m l ≡ true → Sound m l
sound-if m l e =
    let a = both_true (eqb (total (widths (fields l))) (total (eights l.size))) _ e in
    let b = both_true (holds m (fields l)) _ a.1 in
    let c = both_true (leb 1 l.size) _ b.1 in
    let d = both_true (all_fixed l.kind) _ c.1 in
    let f = both_true (in_bytes (fields l) 0) _ d.1 in
    let g = both_true (one_lv (fields l)) _ f.1 in
    record {
      bits = eqb-true _ _ a.0;
      values = b.0;
      bytes = leb-true _ _ c.0;
      named = d.0;
      bytewise = f.0;
      single = g.0;
      short = leb-true _ _ g.1;
    }

widths-append : (fs gs : List Field) → widths (fs ++ gs) ≡ widths fs ++ widths gs
widths-append [] gs = refl
widths-append (fixed w v ∷ fs) gs = ap (λ (t : List ℕ). w ∷ t) (widths-append fs gs)
widths-append (free w ∷ fs) gs = ap (λ (t : List ℕ). w ∷ t) (widths-append fs gs)
widths-append (lv w ∷ fs) gs = ap (λ (t : List ℕ). w ∷ t) (widths-append fs gs)

-- fixed fields have their values whatever is put into the others
fixed-first : (fs gs : List Field) (u : ℕ) (vs : List ℕ) → all_fixed fs ≡ true → all_values (fs ++ gs) u vs ≡ all_values fs 0 [] ++ all_values gs u vs
fixed-first [] gs u vs h = refl
fixed-first (fixed w v ∷ fs) gs u vs h = ap (λ (t : List ℕ). v ∷ t) (fixed-first fs gs u vs h)
fixed-first (free w ∷ fs) gs u vs h = let z : ◌≡◌ {A = ℕ} 0 1 = cc in absurd (omega arith)
fixed-first (lv w ∷ fs) gs u vs h = let z : ◌≡◌ {A = ℕ} 0 1 = cc in absurd (omega arith)

-- if the values of fs and gs together fit their widths, so do those of fs and those of gs
parts-range : (fs gs : List Field) (m u : ℕ) (vs : List ℕ) → all_fixed fs ≡ true → holds m (fs ++ gs) ≡ true → InRange (widths (fs ++ gs)) (all_values (fs ++ gs) u vs)
    → InRange (widths fs) (all_values fs 0 []) × InRange (widths gs) (all_values gs u vs)
parts-range [] gs m u vs h s r = (tt, r)
parts-range (fixed w v ∷ fs) gs m u vs h s r =
    let ih = parts-range fs gs m u vs h (both_true (ltb v (2 ^ w)) (holds m (fs ++ gs)) s).1 r.1 in
    ((r.0, ih.0), ih.1)
parts-range (free w ∷ fs) gs m u vs h s r = let z : ◌≡◌ {A = ℕ} 0 1 = cc in absurd (omega arith)
parts-range (lv w ∷ fs) gs m u vs h s r = let z : ◌≡◌ {A = ℕ} 0 1 = cc in absurd (omega arith)

-- the leading bits of the first of k + 1 bytes are those of the number
leading : (n k t r : ℕ) → n < 2 ^ total (eights (suc k)) → t ≤ 8 → t + r ≡ total (eights (suc k)) → n / 2 ^ total (eights k) % 2 ^ 8 / 2 ^ (8 - t) ≡ n / 2 ^ r
leading n k t r lt ht e =
    let low = total (eights k) in
    let below : n < 2 ^ 8 * 2 ^ low = subst (λ (x : ℕ). n < x) (pow-add 2 8 low) lt in
    let byte : n / 2 ^ low < 2 ^ 8 = (div-lt_iff_lt-mul (pow_pos low)).1 below in
    let rest : low + (8 - t) ≡ r = omega (arith, e) in
    ap (λ (x : ℕ). x / 2 ^ (8 - t)) (mod-eq_of_lt byte) ∙ shr-shr n low (8 - t) ∙ ap (λ (x : ℕ). n / 2 ^ x) rest

-- a header begins with the bits that identify its kind
pub header-opens : (m u : ℕ) (l : Layout) (vs rest : List ℕ) → Sound m l → u ≤ m → within (fields l) vs ≡ true
    → get_or (header l u vs ++ rest) 0 0 / 2 ^ (8 - tag_width l.kind) ≡ tag l.kind
header-opens m u l vs rest sound hu fit = go l.size refl
  where
    range : InRange (widths (fields l)) (all_values (fields l) u vs)
    range = values-range m u (fields l) vs hu sound.values fit

    parts : InRange (widths l.kind) (all_values l.kind 0 []) × InRange (widths l.rest) (all_values l.rest u vs)
    parts = parts-range l.kind l.rest m u vs sound.named sound.values range

    number : header_number l u vs ≡ pack_after (tag l.kind) (widths l.rest) (all_values l.rest u vs)
    number =
        ap₂ pack (widths-append l.kind l.rest) (fixed-first l.kind l.rest u vs sound.named)
        ∙ pack-append 0 (widths l.kind) (all_values l.kind 0 []) (widths l.rest) (all_values l.rest u vs) parts.0

    bits : tag_width l.kind + total (widths l.rest) ≡ total (eights l.size)
    bits = sym (total-append (widths l.kind) (widths l.rest)) ∙ ap total (sym (widths-append l.kind l.rest)) ∙ sound.bits

    go : (k : ℕ) → l.size ≡ k → get_or (header l u vs ++ rest) 0 0 / 2 ^ (8 - tag_width l.kind) ≡ tag l.kind
    go zero e = absurd (omega (arith, sound.bytes, e))
    go (suc k) e =
        let n = header_number l u vs in
        let lt : n < 2 ^ total (eights (suc k)) =
        subst (λ (x : ℕ). n < 2 ^ x) (sound.bits ∙ ap (λ (x : ℕ). total (eights x)) e) (pack-lt (widths (fields l)) (all_values (fields l) u vs) range) in
        ap (λ (x : ℕ). get_or (bytes_of x n ++ rest) 0 0 / 2 ^ (8 - tag_width l.kind)) e
        ∙ leading n k (tag_width l.kind) (total (widths l.rest)) lt sound.short (bits ∙ ap (λ (x : ℕ). total (eights x)) e)
        ∙ ap (λ (x : ℕ). x / 2 ^ total (widths l.rest)) number
        ∙ pack-leads (tag l.kind) (widths l.rest) (all_values l.rest u vs) parts.1

-- the first bits distinguish two kinds: l has at most as many such bits as k, and they differ from
-- the first bits of k
abbrev pub apart : List Field → List Field → Bool
apart l k = leb (tag_width l) (tag_width k) && not (eqb (tag k / 2 ^ (tag_width k - tag_width l)) (tag l))

pub opens_not : (l k : List Field) (b : ℕ) → tag_width k ≤ 8 → apart l k ≡ true → b / 2 ^ (8 - tag_width k) ≡ tag k → opens_with l b ≡ false
opens_not l k b short h e =
    let p = both_true (leb (tag_width l) (tag_width k)) (not (eqb (tag k / 2 ^ (tag_width k - tag_width l)) (tag l))) h in
    let wide : tag_width l ≤ tag_width k = leb-true (tag_width l) (tag_width k) p.0 in
    let rest : 8 - tag_width k + (tag_width k - tag_width l) ≡ 8 - tag_width l = omega arith in
    let bits : b / 2 ^ (8 - tag_width l) ≡ tag k / 2 ^ (tag_width k - tag_width l) =
    ap (λ (x : ℕ). b / 2 ^ x) (sym rest) ∙ sym (shr-shr b (8 - tag_width k) (tag_width k - tag_width l)) ∙ ap (λ (x : ℕ). x / 2 ^ (tag_width k - tag_width l)) e in
    ap (λ (x : ℕ). eqb x (tag l)) bits ∙ not-true (eqb (tag k / 2 ^ (tag_width k - tag_width l)) (tag l)) p.1

-- the same, whichever has fewer such bits
abbrev pub distinct : List Field → List Field → Bool
distinct l k = apart l k || apart k l

pub opens-other : (l k : List Field) (b : ℕ) → tag_width l ≤ 8 → tag_width k ≤ 8 → distinct l k ≡ true → b / 2 ^ (8 - tag_width k) ≡ tag k → opens_with l b ≡ false
opens-other l k b few short h e = go (apart l k) (opens_with l b) refl refl
  where
    go : (a o : Bool) → apart l k ≡ a → opens_with l b ≡ o → o ≡ false
    go true o p q = sym q ∙ opens_not l k b short p e
    go false false p q = refl
    go false true p q =
        let other : apart k l ≡ true = sym (ap (λ (x : Bool). x || apart k l) p) ∙ h in
        let not-k : opens_with k b ≡ false = opens_not k l b few other (eqb-true _ _ q) in
        absurd (true≢false (sym (eq-eqb (b / 2 ^ (8 - tag_width k)) (tag k) e) ∙ not-k))
