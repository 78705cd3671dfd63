-- `transfer_demo::keep` meets its contract: the frame is copied after those kept before, or there
-- is no room for it.
-- Assumes nothing.
use mathlib.Core.Path.{◌≡◌, ap, ◌∙◌}
use Prim.Native.Nat.{◌+◌, ◌-◌}
use native.Mathlib.Omega.{arith}
use lib.ListN.{length, length-set}
use lib.Seq.{length-paste}
use borrow.Author.Rules.{rules}
use Rattle.lists.proofs.Copying.{copied-part}
use Rattle.transfer_demo.proofs.Keeping.{put, too_long, too_many}
use Rattle.refusal.proofs.Clauses.{two}
use Rattle.transfer_demo.proofs.keep.Goals as goal

pub returns-then-count-sizes : goal.returns-then-count-sizes
returns-then-count-sizes c =
    two (λ p q. record { frames_in_bounds = p; written = q })
    (let a = c.args in
    let at = a.kept.bytes in
    let n = length a.frame.now in
    let few : at + n - at ≡ n = omega arith in
    let copied = copied-part a.received.now a.frame.now _ at (at + n - at) few (omega (arith, c.if-frame-received.true, c.requires.1)) c.copy_in.ensures in
    let long = ap length copied ∙ length-paste a.received.now at a.frame.now n (omega (arith, c.if-frame-received.true, c.requires.1)) (omega arith) in (
      (
        omega (arith, c.if-count-sizes.true, length-set a.sizes.now a.kept.frames n),
        omega (arith, c.if-frame-received.true, c.requires.1, long),
      ),
      λ ks h. put a.received.now a.sizes.now a.frame.now a.kept ks h copied c.if-frame-received.true c.if-count-sizes.true,
    ))

pub returns-else-count-sizes : goal.returns-else-count-sizes
returns-else-count-sizes c =
    two (λ p q. record { frames_in_bounds = p; written = q })
    ((search rules, λ ks h. too_many _ _ _ _ ks h c.if-frame-received.true c.if-count-sizes.false))

pub returns-else-frame-received : goal.returns-else-frame-received
returns-else-frame-received c =
    two (λ p q. record { frames_in_bounds = p; written = q })
    ((search rules, λ ks h. too_long _ _ _ _ ks h c.if-frame-received.false))
