-- `capture::check_offsets` meets its contract: each way out knows the offsets that led there.
-- Assumes nothing.
use mathlib.Core.Path.{◌≡◌, refl, sym, ap, ◌∙◌}
use mathlib.Core.Bool.{Bool, true}
use mathlib.Core.List.{List}
use Prim.Native.Nat.{ℕ, ◌+◌, ◌*◌}
use native.Mathlib.Omega.{arith}
use lib.Dec.{eqb}
use borrow.Author.Tests.{eq-eqb, ne_eqb}
use Rattle.refusal.specs.declared.Refusal.TheVariants.{MessageTooLong}
use Rattle.refusal.specs.Numbers.{check}
use Rattle.capture.specs.Files.{header_size}
use Rattle.capture.specs.Opening.{count_in, offset_at}
use Rattle.capture.proofs.Opening.{starts, fell, turns, not_first, ends, ends-early}
use Rattle.capture.proofs.check_offsets.Goals as goal
use Rattle.std.specs.Prelude.{Ok}

-- the first offset is the header's end
first-is : (file : List ℕ) (count offset : ℕ) → count ≡ count_in file → offset ≡ offset_at file 0 → offset ≡ 12 + 4 * count
    → eqb (offset_at file 0) (header_size (count_in file)) ≡ true
first-is file count offset ec eo eh =
    let e : offset ≡ header_size (count_in file) = omega (arith, ec, eh) in eq-eqb _ _ (sym eo ∙ e)

pub returns-then-offset-header : goal.returns-then-offset-header
returns-then-offset-header c =
    let q : offset_at c.args.file.now 0 ≡ header_size (count_in c.args.file.now) → ⊥ = λ e. c.if-offset-header.true (omega (arith, e, c.number_at-offset.ensures.value, c.requires.2)) in
    not_first c.args.file.now (ne_eqb _ _ q)

pub loop-i-init : goal.loop-i-init
loop-i-init c = starts c.args.file.now c.args.count _ c.requires.2 c.number_at-offset.ensures.value

pub returns-then-next-offset : goal.returns-then-next-offset
returns-then-next-offset c =
    let l = c.loop-i in
    fell c.args.file.now _ l.offset l.short l.i _ l.invariant c.loop-i-test.true c.number_at-next.ensures.value c.if-next-offset.true

pub loop-i-preserved : goal.loop-i-preserved
loop-i-preserved c =
    let l = c.loop-i in
    turns c.args.file.now _ l.offset l.short l.i _ l.invariant c.loop-i-test.true c.number_at-next.ensures.value c.if-next-offset.false _ refl

pub returns-then-short : goal.returns-then-short
returns-then-short c =
    let first = first-is c.args.file.now c.args.count _ c.requires.2 c.number_at-offset.ensures.value c.if-offset-header.false in
    let l = c.loop-i in
    sym (ap (λ (b : Bool). check b MessageTooLong (Ok tt)) c.if-short.true) ∙ ends c.args.file.now _ l.offset l.short l.i l.invariant c.loop-i-test.false first c.if-offset-file.true

pub returns-then-offset-file : goal.returns-then-offset-file
returns-then-offset-file c =
    let first = first-is c.args.file.now c.args.count _ c.requires.2 c.number_at-offset.ensures.value c.if-offset-header.false in
    let l = c.loop-i in
    sym (ap (λ (b : Bool). check b MessageTooLong (Ok tt)) c.if-short.false) ∙ ends c.args.file.now _ l.offset l.short l.i l.invariant c.loop-i-test.false first c.if-offset-file.true

pub returns : goal.returns
returns c =
    let first = first-is c.args.file.now c.args.count _ c.requires.2 c.number_at-offset.ensures.value c.if-offset-header.false in
    let l = c.loop-i in
    ends-early c.args.file.now _ l.offset l.short l.i l.invariant c.loop-i-test.false first c.if-offset-file.false
