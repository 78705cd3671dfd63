-- `replay::run` meets its contract: after each turn the bytes of one more part are run.
-- Assumes nothing.
use mathlib.Core.Path.{◌≡◌, sym}
use Prim.Native.Nat.{◌+◌, ◌*◌, ◌≤◌}
use native.Mathlib.Omega.{arith}
use lib.ListN.{length, take}
use lib.Seq.{length-take-le}
use borrow.Author.Rules.{rules}
use Rattle.replay_script.specs.Feeding.{feed_next}
use Rattle.replay_script.proofs.Feeding.{feed-fits, feed-runs}
use Rattle.replay.proofs.Parts.{nothing_run, part-run, all-run, part_room, part-fits}
use Rattle.replay.proofs.run.Goals as goal
use Rattle.replay.proofs.run.Goals.{then-end-gt49152+in_ok-print, else-end-gt49152}

pub loop-part-init : goal.loop-part-init
loop-part-init c = (search rules, nothing_run _ c.args.bytes.now)

pub overflow_add-end : goal.overflow_add-end
overflow_add-end c =
    let fits : c.loop-part.end + c.feed-fed.result.written ≤ length c.loop-part.out = part-fits c.loop-part.out c.feed-fed.new.out c.loop-part.end (omega (arith, c.requires, c.loop-part.invariant.0, c.loop-part.auto.out)) c.feed-fed.auto.out
    (feed-fits _ _ _ c.feed-fed.ensures.value c.feed-fed.ensures.written) in search (rules, fits)

pub slice_bounds-print-end : goal.slice_bounds-print-end
slice_bounds-print-end c =
    let fits : c.loop-part.end + c.feed-fed.result.written ≤ length c.loop-part.out = part-fits c.loop-part.out c.feed-fed.new.out c.loop-part.end (omega (arith, c.requires, c.loop-part.invariant.0, c.loop-part.auto.out)) c.feed-fed.auto.out
    (feed-fits _ _ _ c.feed-fed.ensures.value c.feed-fed.ensures.written) in
    omega (arith, fits)

pub slice_bounds-print-end-then-end-gt49152 : goal.slice_bounds-print-end-then-end-gt49152
slice_bounds-print-end-then-end-gt49152 c =
    let fits : c.loop-part.end + c.feed-fed.result.written ≤ length c.loop-part.out = part-fits c.loop-part.out c.feed-fed.new.out c.loop-part.end (omega (arith, c.requires, c.loop-part.invariant.0, c.loop-part.auto.out)) c.feed-fed.auto.out
    (feed-fits _ _ _ c.feed-fed.ensures.value c.feed-fed.ensures.written) in
    sym (length-take-le _ _ (omega (arith, fits)))

pub loop-part-preserved : goal.loop-part-preserved
loop-part-preserved c =
    let runs : c.feed-fed.result.next ≡ feed_next c.args.kept (take (64 * (c.loop-part.part + 1)) c.args.bytes.now) =
    part-run _ _ c.loop-part.part c.min-to.result c.min-to.ensures (omega (arith, c.div_ceil-part-end.ensures, c.loop-part-test.true)) c.loop-part.invariant.1
    (feed-runs _ _ _ (part_room c.args.bytes.now c.loop-part.out (64 * c.loop-part.part) c.min-to.result c.loop-part.end (omega (arith, c.min-to.ensures)) c.loop-part.invariant.0 (omega (arith, c.requires, c.loop-part.auto.out))) c.feed-fed.ensures.value) in
    elim c.if-end-gt49152.branch [
      | then-end-gt49152+in_ok-print w ↦ (omega (arith, w.end-is), runs)
      | else-end-gt49152 w ↦ (omega (arith, w.end-is, w.if-end-gt49152.false), runs)
    ]

pub returns : goal.returns
returns c = all-run _ _ _ (omega (arith, c.div_ceil-part-end.ensures, c.loop-part-test.false)) c.loop-part.invariant.1
