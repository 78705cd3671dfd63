-- `resequencer_bytes::put_numbers` meets its contract: the four fields are written one after the
-- other.
-- Assumes nothing.
use Prim.Native.Nat.{◌<◌}
use borrow.Author.Rules.{rules}
use Rattle.resequencer_bytes.proofs.Writing.{numbers-put}
use Rattle.resequencer_bytes.proofs.put_numbers.Goals as goal

pub returns : goal.returns
returns c =
    let nesn-fits : c.args.numbers.nesn.0 < 256 = search rules in
    let hsnr-fits : c.args.numbers.hsnr.0 < 256 = search rules in
    numbers-put c.args.numbers c.args.state.now _ _ _ _ c.told-state nesn-fits hsnr-fits c.put.ensures c.put-2.ensures c.put-3.ensures c.put-4.ensures
