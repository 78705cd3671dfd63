-- Two frames that agree in their first bytes: the bytes, the header's number, and what tells the
-- packet's length.
-- Assumes nothing.
use mathlib.Core.Path.{◌≡◌, refl, sym, ap, ap₂, ◌∙◌}
use mathlib.Core.Bool.{Bool, true, false, cond, ◌&&◌}
use mathlib.Core.List.{List}
use Prim.Native.Nat.{ℕ, suc, ◌+◌, ◌-◌, ◌*◌, ◌/◌, ◌^◌, ◌<◌, ◌≤◌}
use native.Mathlib.Omega.{arith}
use lib.Dec.{leb, ltb, eqb}
use lib.ListN.{length, take, drop, get_or, length-drop, replicate-append-replicate}
use lib.Seq.{get_or-take, take-take, take-add}
use Rattle.frame_fields.specs.Rows.{pack_after, pack, unpack, eights, number_in, AreBytes}
use Rattle.frame_fields.specs.Layouts.{Layout, fields, widths, has_lv, free_values, lv_in}
use Rattle.frame_fields.proofs.Rows.{pack-leads, pack-append, number-take, bytes-range}
use Rattle.frame_fields.proofs.Masks.{eights-total}
use Rattle.frame_reader.specs.Faults.{last_of, lv_of, first_end, has_second, strings_end, first_right, packet_length, length_right}
use Rattle.frame_reader.proofs.Zeros.{bytes_drop}

-- two lists that agree in n elements agree in fewer, and in each of them
pub fewer : (m n : ℕ) (s t : List ℕ) → m ≤ n → take n s ≡ take n t → take m s ≡ take m t
fewer m n s t h e = sym (take-take m n s h) ∙ ap (take m) e ∙ take-take m n t h

pub same_byte : (i n : ℕ) (s t : List ℕ) → i < n → take n s ≡ take n t → get_or s i 0 ≡ get_or t i 0
same_byte i n s t h e = sym (get_or-take n s i 0 h) ∙ ap (λ (r : List ℕ). get_or r i 0) e ∙ get_or-take n t i 0 h

pub same_number : (k : ℕ) (s t : List ℕ) → take k s ≡ take k t → number_in k s ≡ number_in k t
same_number k s t e = sym (number-take 0 k s) ∙ ap (pack (eights k)) e ∙ number-take 0 k t

-- ---- the number of a header

-- the number of k + j bytes begins with that of the first k
number-front : (k j : ℕ) (s : List ℕ) → AreBytes s → k + j ≤ length s → number_in (k + j) s / 2 ^ (8 * j) ≡ number_in k s
number-front k j s are room =
    let first = bytes-range k s (omega arith) are in
    let later = bytes-range j (drop k s) (omega (arith, length-drop k s)) (bytes_drop k s are) in
    let number : number_in (k + j) s ≡ pack_after (number_in k s) (eights j) (take j (drop k s)) =
    sym (number-take 0 (k + j) s)
    ∙ ap₂ pack (sym (replicate-append-replicate k j 8)) (take-add k j s)
    ∙ pack-append 0 (eights k) (take k s) (eights j) (take j (drop k s)) first
    ∙ ap (λ (a : ℕ). pack_after a (eights j) (take j (drop k s))) (number-take 0 k s) in
    ap₂ (λ (a b : ℕ). a / 2 ^ b) number (sym (eights-total j)) ∙ pack-leads (number_in k s) (eights j) (take j (drop k s)) later

-- so the number of a header, without the bits after its byte i, is told by the bytes up to that one
pub front-number : (size i : ℕ) (s t : List ℕ) → AreBytes s → AreBytes t → size ≤ length s → size ≤ length t → i < size → take (suc i) s ≡ take (suc i) t
    → number_in size s / 2 ^ (8 * (size - suc i)) ≡ number_in size t / 2 ^ (8 * (size - suc i))
front-number size i s t are also room too h e =
    let j = size - suc i in
    let sum : suc i + j ≡ size = omega arith in
    let part : (r : List ℕ) → AreBytes r → size ≤ length r → number_in size r / 2 ^ (8 * j) ≡ number_in (suc i) r =
    λ r b l. ap (λ (x : ℕ). number_in x r / 2 ^ (8 * j)) (sym sum) ∙ number-front (suc i) j r b (omega arith) in
    part s are room ∙ same_number (suc i) s t e ∙ sym (part t also too)

-- ---- the packet

-- two frames of one length, s and t, that agree in their first n bytes, the header among them
module _ (l : Layout) (n : ℕ) (s t : List ℕ) (some : 1 ≤ l.size) (head : l.size ≤ n) (len : length t ≡ length s) (e : take n t ≡ take n s) where
  same-header : number_in l.size t ≡ number_in l.size s
  same-header = same_number l.size t s (fewer l.size n t s head e)

  same-lv : lv_of l t ≡ lv_of l s
  same-lv = ap (λ (h : ℕ). lv_in (fields l) (unpack (widths (fields l)) h)) same-header

  pub same_second : has_second l t ≡ has_second l s
  same_second = ap (λ (h : ℕ). eqb (get_or (free_values (fields l) (unpack (widths (fields l)) h)) 0 0) 1) same-header

  pub same_first : first_end l t ≡ first_end l s
  same_first = ap (λ (h : ℕ). l.size + last_of (free_values (fields l) (unpack (widths (fields l)) h))) same-header

  pub same-first-right : first_right l t ≡ first_right l s
  same-first-right =
      ap₂ (λ (x y : ℕ). cond (has_second l t) (ltb x y) (leb x y)) same_first len
      ∙ ap (λ (b : Bool). cond b (ltb (first_end l s) (length s)) (leb (first_end l s) (length s))) same_second

  -- and in the length of a second string
  module _ (reach : l.strings ≡ true → has_second l s ≡ true → first_end l s < n) where
    pub same_end : l.strings ≡ true → strings_end l t ≡ strings_end l s
    same_end a =
        ap₂ (λ (b : Bool) (x : ℕ). cond b (x + 1 + get_or t x 0) x) same_second same_first ∙ go (has_second l s) refl
      where
        go : (b : Bool) → has_second l s ≡ b → cond b (first_end l s + 1 + get_or t (first_end l s) 0) (first_end l s) ≡ cond b (first_end l s + 1 + get_or s (first_end l s) 0) (first_end l s)
        go true h = ap (λ (x : ℕ). first_end l s + 1 + x) (same_byte (first_end l s) n t s (reach a h) e)
        go false h = refl

    -- the packet's length, and whether it is told rightly, are the same in both
    pub same-right : (seg : ℕ) → length_right seg l t ≡ length_right seg l s
    unfolding length_right
    same-right seg = go l.strings refl
      where
        go : (b : Bool) → l.strings ≡ b → length_right seg l t ≡ length_right seg l s
        go true a = rw a (ap₂ ◌&&◌ same-first-right (ap₂ leb (same_end a) len))
        go false a = rw a (ap₂ (λ (x y : ℕ). cond (has_lv (fields l)) (leb 1 x && (leb x seg && leb l.size (y - seg + x))) true) same-lv len)

    pub same_length : (seg : ℕ) → packet_length seg l t ≡ packet_length seg l s
    unfolding packet_length
    same_length seg = go l.strings refl
      where
        go : (b : Bool) → l.strings ≡ b → packet_length seg l t ≡ packet_length seg l s
        go true a = rw a (same_end a)
        go false a = rw a (ap₂ (λ (x y : ℕ). cond (has_lv (fields l)) (y - seg + x) l.size) same-lv len)
