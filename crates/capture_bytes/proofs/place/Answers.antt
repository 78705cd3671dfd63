-- `capture_bytes::place` meets its contract: an offset has 32 bits, so that nothing overflows.
-- Assumes nothing.
use mathlib.Core.Path.{sym, ap, subst}
use Prim.Native.Nat.{◌<◌}
use native.Mathlib.Omega.{arith}
use Rattle.capture.specs.declared.Place.{Place}
use Rattle.capture_bytes.specs.Answers.{place_answer}
use Rattle.capture_bytes.proofs.Sizes.{bytes-all, place-low}
use Rattle.capture_bytes.proofs.place.Goals as goal

pub overflow_mul-result : goal.overflow_mul-result
overflow_mul-result c =
    let low : (c.place_of-place.result.at < 4294967296) × (c.place_of-place.result.len < 4294967296) = let a = c.args in
    subst (λ (p : Place). (p.at < 4294967296) × (p.len < 4294967296)) (sym c.place_of-place.ensures.value)
    (place-low a.file.now a.i (bytes-all a.file.now (λ i. (c.type_inv.file i).fits))) in omega (arith, low)

pub overflow_add-result : goal.overflow_add-result
overflow_add-result c =
    let low : (c.place_of-place.result.at < 4294967296) × (c.place_of-place.result.len < 4294967296) = let a = c.args in
    subst (λ (p : Place). (p.at < 4294967296) × (p.len < 4294967296)) (sym c.place_of-place.ensures.value)
    (place-low a.file.now a.i (bytes-all a.file.now (λ i. (c.type_inv.file i).fits))) in omega (arith, low)

pub returns : goal.returns
returns c = ap place_answer c.place_of-place.ensures.value
