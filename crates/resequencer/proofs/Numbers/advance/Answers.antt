-- `resequencer::Numbers::advance` meets its contract: field by field.
-- Assumes nothing.
use mathlib.Core.Path.{refl, ap}
use Rattle.resequencer.specs.Numbers.{numbers_of, bare}
use Rattle.resequencer.proofs.Passing.{advanced}
use Rattle.resequencer.proofs.Numbers.advance.Goals as goal

pub returns : goal.returns
returns c =
    ap numbers_of
    (advanced (bare c.args.self) c.args.m _ _ _ _ _ c.passed_numbers-passed.ensures c.difference-held.ensures c.difference.ensures c.hsnr_left.ensures refl)
