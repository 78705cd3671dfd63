-- `message::joining::copy_user` meets its contract: the frame is DATA, so its user data lies
-- between the header and the end that LV gives.
-- Assumes nothing.
use mathlib.Core.Path.{◌≡◌, sym, ap, ◌∙◌}
use mathlib.Core.List.{List}
use Prim.Native.Nat.{ℕ, ◌+◌, ◌-◌, ◌%◌}
use native.Mathlib.Omega.{arith}
use lib.ListN.{length, take, drop, get_or}
use Rattle.lists.specs.Lists.{over}
use Rattle.lists.proofs.Copying.{copied-part}
use Rattle.frame.specs.Reading.{read_of}
use Rattle.message.specs.Joining.{user_in}
use Rattle.message.proofs.Users.{data_frame, user_long}
use Rattle.message.proofs.joining.copy_user.Goals as goal

pub bounds-frame-2 : goal.bounds-frame-2
bounds-frame-2 c = let d = data_frame c.args.form c.args.frame.now c.requires.0 in omega (arith, d.header, d.inside)

pub overflow_sub-end : goal.overflow_sub-end
overflow_sub-end c =
    let d = data_frame c.args.form c.args.frame.now c.requires.0 in omega (arith, d.segment, c.segment.ensures.value)

pub returns-clause-written : goal.returns-clause-written
returns-clause-written c =
    let a = c.args in
    let d = data_frame a.form a.frame.now c.requires.0 in
    let u = user_in a.form a.frame.now in
    let n = length a.frame.now - c.segment.result + get_or a.frame.now 2 0 % 16 - 3 in
    let found : take n (drop 3 a.frame.now) ≡ u =
    ap (λ (x : ℕ). take (length a.frame.now - x + get_or a.frame.now 2 0 % 16 - 3) (drop 3 a.frame.now)) c.segment.ensures.value ∙ sym d.user in
    let long : n ≡ length u = omega (arith, user_long a.form a.frame.now (read_of a.form a.frame.now) d, c.segment.ensures.value) in
    let few : a.at + n - a.at ≡ length u = omega (arith, long) in
    let part : List ℕ = take (a.at + n - a.at) (drop a.at a.out.now) in
    copied-part a.out.now u _ a.at (a.at + n - a.at) few (omega (arith, long, c.requires.1))
    (c.copy_in.ensures ∙ ap (λ (x : List ℕ). over (take (length part) x) part) found)
