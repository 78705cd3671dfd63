-- `frame_reader::ends_in_zeros` meets its contract.
-- Assumes nothing.
use mathlib.Core.Path.{◌≡◌, ap, ◌∙◌, subst}
use Prim.Native.Nat.{ℕ, ◌-◌, ◌*◌, ◌/◌, ◌≤◌}
use native.Mathlib.Omega.{arith}
use lib.Count.{count_trailing_zeros}
use lib.ListN.{length, drop}
use borrow.Author.Tests.{leb-true}
use borrow.Author.Rules.{part_to_end}
use Rattle.frame_fields.specs.Rows.{number_in}
use Rattle.frame_reader.proofs.Zeros.{bytes-all, ends-zero}
use Rattle.frame_reader.proofs.ends_in_zeros.Goals as goal

pub returns : goal.returns
returns c =
    let s = c.args.frame.now in
    let len = length s in
    let at = len - 8 in
    let eight : 8 ≤ len = c.if-len-lt8.false in
    let number : c.number_in.result ≡ number_in 8 (drop at s) = c.number_in.ensures ∙ ap (number_in 8) (part_to_end s at) in
    λ e.
    let few : len - c.args.from ≤ count_trailing_zeros 64 c.number_in.result / 8 = leb-true _ _ e in
    let zeros : 8 * (len - c.args.from) ≤ count_trailing_zeros 64 (number_in 8 (drop at s)) =
    subst (λ (x : ℕ). 8 * (len - c.args.from) ≤ count_trailing_zeros 64 x) number (omega (arith, few)) in
    ends-zero s at c.args.from (bytes-all s (λ i. (c.type_inv.frame i).fits)) (omega (arith, eight)) c.requires zeros
