-- `frame_reader::number_in` meets its contract: at each turn, the number so far followed by the
-- bytes still to be read is the whole number.
-- Assumes nothing.
use mathlib.Core.Path.{◌≡◌, refl, sym, ap, ◌∙◌}
use mathlib.Core.List.{List, [], ◌∷◌}
use Prim.Native.Nat.{ℕ, zero, suc, ◌+◌, ◌-◌, ◌*◌, ◌^◌, ◌<◌, ◌≤◌}
use native.Mathlib.Numerals.{add-one}
use native.Mathlib.Omega.{arith}
use lib.Arith.{digits_lt}
use lib.ListN.{drop, get_or}
use lib.Pow.{pow-add, pow_mono}
use Rattle.frame_fields.specs.Rows.{pack_after, eights}
use Rattle.frame_reader.proofs.number_in.Goals as goal

-- one byte more is read; a byte past the end counts as 0
read_step : (h r i : ℕ) (bs : List ℕ) → pack_after h (eights (suc r)) (drop i bs) ≡ pack_after (h * 256 + get_or bs i 0) (eights r) (drop (suc i) bs)
read_step h r zero [] = ap (λ (x : ℕ). pack_after x (eights r) []) (omega arith)
read_step h r zero (b ∷ bs) = refl
read_step h r (suc i) [] = ap (λ (x : ℕ). pack_after x (eights r) []) (omega arith)
read_step h r (suc i) (b ∷ bs) = read_step h r i bs

read_fits : (h i x : ℕ) → h < 2 ^ (8 * i) → x < 256 → h * 256 + x < 2 ^ (8 * (i + 1))
read_fits h i x a b =
    let e : 8 * (i + 1) ≡ 8 * i + 8 = omega arith in
    rw (e, pow-add 2 (8 * i) 8) (digits_lt a b)

short-fits : (h i : ℕ) → h < 2 ^ (8 * i) → i < 8 → h < 2 ^ 56
short-fits h i a b =
    let q : 8 * i ≤ 56 = omega arith in
    omega (arith, pow_mono q)

pub loop-i-init : goal.loop-i-init
loop-i-init c = (c.args.k, omega arith, omega arith, refl)

pub overflow_mul-h : goal.overflow_mul-h
overflow_mul-h c = let l = c.loop-i in omega (arith, short-fits l.h l.i l.invariant.2 (omega arith))

pub overflow_add-h : goal.overflow_add-h
overflow_add-h c =
    let byte_small : get_or c.args.frame.now c.loop-i.i 0 < 256 = omega (arith, c.type_inv.frame c.loop-i.i) in let l = c.loop-i in omega (arith, short-fits l.h l.i l.invariant.2 (omega arith), byte_small)

pub loop-i-preserved : goal.loop-i-preserved
loop-i-preserved c =
    let byte_small : get_or c.args.frame.now c.loop-i.i 0 < 256 = omega (arith, c.type_inv.frame c.loop-i.i) in
    let l = c.loop-i in
    let frame = c.args.frame.now in
    let r = l.invariant.0 - 1 in
    let e : l.invariant.0 ≡ suc r = omega arith in (
      r,
      omega arith,
      read_fits l.h l.i (get_or frame l.i 0) l.invariant.2 byte_small,
      ap (λ (n : ℕ). pack_after (l.h * 256 + get_or frame l.i 0) (eights r) (drop n frame)) (add-one l.i)
          ∙ sym (read_step l.h r l.i frame)
          ∙ ap (λ (n : ℕ). pack_after l.h (eights n) (drop l.i frame)) (sym e)
          ∙ l.invariant.3,
    )

pub returns : goal.returns
returns c =
    let l = c.loop-i in
    let a = c.args in
    let none : l.invariant.0 ≡ 0 = omega arith in
    ap (λ (n : ℕ). pack_after l.h (eights n) (drop l.i a.frame.now)) (sym none) ∙ l.invariant.3
