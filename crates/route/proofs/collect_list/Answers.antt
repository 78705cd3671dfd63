-- `route::collect_list` meets its contract. The loop's invariant is `Going`: reading on from here
-- has the same result as reading the whole list.
-- Assumes nothing.
use mathlib.Core.Path.{◌≡◌, ap, ◌∙◌}
use mathlib.Core.List.{List}
use Prim.Native.Nat.{ℕ}
use native.Mathlib.Omega.{arith}
use borrow.Author.Rules.{part_to_end}
use lib.ListN.{drop}
use Rattle.route.specs.Parts.{Taken, change, taken, taken_of}
use Rattle.route.proofs.Reading.{Stepped, going_start, going_end, going-cut, going_next}
use Rattle.route.proofs.collect_list.Goals as goal

pub loop-at-init : goal.loop-at-init
loop-at-init c = going_start _ _

pub returns-then-size-eq0 : goal.returns-then-size-eq0
returns-then-size-eq0 c =
    let entry : Taken = taken c.take_entry-size.result c.take_entry-size.new.added c.take_entry-size.new.deleted in
    let read : let l = c.loop-at in
    entry ≡ taken_of (drop l.at c.args.list.now) (change l.added l.deleted) = let l = c.loop-at in
    c.take_entry-size.ensures ∙ ap (λ (xs : List ℕ). taken_of xs (change l.added l.deleted)) (part_to_end _ l.at) in going-cut _ _ _ _ c.loop-at.invariant c.loop-at-test.true _ read _ c.if-size-eq0.true

pub overflow_add-at : goal.overflow_add-at
overflow_add-at c =
    let entry : Taken = taken c.take_entry-size.result c.take_entry-size.new.added c.take_entry-size.new.deleted in
    let read : let l = c.loop-at in
    entry ≡ taken_of (drop l.at c.args.list.now) (change l.added l.deleted) = let l = c.loop-at in
    c.take_entry-size.ensures ∙ ap (λ (xs : List ℕ). taken_of xs (change l.added l.deleted)) (part_to_end _ l.at) in
    let next : let a = c.args in
    Stepped a.list.now (change a.added.now a.deleted.now) c.loop-at.at entry = going_next _ _ _ _ c.loop-at.invariant c.loop-at-test.true _ read c.if-size-eq0.false in omega (arith, next)

pub loop-at-smaller : goal.loop-at-smaller
loop-at-smaller c =
    let entry : Taken = taken c.take_entry-size.result c.take_entry-size.new.added c.take_entry-size.new.deleted in
    let read : let l = c.loop-at in
    entry ≡ taken_of (drop l.at c.args.list.now) (change l.added l.deleted) = let l = c.loop-at in
    c.take_entry-size.ensures ∙ ap (λ (xs : List ℕ). taken_of xs (change l.added l.deleted)) (part_to_end _ l.at) in
    let next : let a = c.args in
    Stepped a.list.now (change a.added.now a.deleted.now) c.loop-at.at entry = going_next _ _ _ _ c.loop-at.invariant c.loop-at-test.true _ read c.if-size-eq0.false in omega (arith, next)

pub loop-at-preserved : goal.loop-at-preserved
loop-at-preserved c =
    let entry : Taken = taken c.take_entry-size.result c.take_entry-size.new.added c.take_entry-size.new.deleted in
    let read : let l = c.loop-at in
    entry ≡ taken_of (drop l.at c.args.list.now) (change l.added l.deleted) = let l = c.loop-at in
    c.take_entry-size.ensures ∙ ap (λ (xs : List ℕ). taken_of xs (change l.added l.deleted)) (part_to_end _ l.at) in
    let next : let a = c.args in
    Stepped a.list.now (change a.added.now a.deleted.now) c.loop-at.at entry = going_next _ _ _ _ c.loop-at.invariant c.loop-at-test.true _ read c.if-size-eq0.false in next.going

pub returns : goal.returns
returns c = going_end _ _ _ _ c.loop-at.invariant c.loop-at-test.false
