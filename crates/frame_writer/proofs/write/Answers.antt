-- `frame_writer::write` meets its contract: ten bytes are a kind and its values.
-- Assumes nothing.
use mathlib.Core.Path.{◌≡◌, sym, ap, ◌∙◌}
use mathlib.Core.List.{List}
use Prim.Native.Nat.{ℕ, ◌-◌}
use native.Mathlib.Omega.{arith}
use lib.ListN.{length, take, drop, length-drop}
use borrow.Author.Rules.{part_to_end}
use Rattle.frame_kinds.specs.declared.Found.TheVariants.{Known}
use Rattle.frame_writer.specs.Writing.{write_answer_by, write_bytes_by}
use Rattle.frame_writer.proofs.Answers.{ten-answer, ten-bytes, other-answer, other-bytes}
use Rattle.refusal.proofs.Clauses.{two}
use Rattle.frame_writer.proofs.write.Goals as goal

-- nine bytes after the first are ten bytes
ten : (packet : List ℕ) → length (take (length packet - 1) (drop 1 packet)) ≡ 9 → length packet ≡ 10
ten packet h = omega (arith, h, ap length (part_to_end packet 1), length-drop 1 packet)

nine : (packet : List ℕ) → length packet ≡ 10 → length (take (length packet - 1) (drop 1 packet)) ≡ 9
nine packet h = omega (arith, h, ap length (part_to_end packet 1), length-drop 1 packet)

pub returns-in_default : goal.returns-in_default
returns-in_default c =
    two (λ p q. record { value = p; written = q })
    (let a = c.args in (
      other-answer a.form a.packet.now (length a.user.now) (length a.out.now) (λ e. omega (arith, e, c.in_default.len_below)),
      other-bytes a.form a.packet.now a.user.now a.out.now (λ e. omega (arith, e, c.in_default.len_below)),
    ))

pub returns-in_default-try_from : goal.returns-in_default-try_from
returns-in_default-try_from c =
    two (λ p q. record { value = p; written = q })
    (let a = c.args in (
      other-answer a.form a.packet.now (length a.user.now) (length a.out.now) (λ e. c.in_default-try_from.ensures.1 (nine a.packet.now e)),
      other-bytes a.form a.packet.now a.user.now a.out.now (λ e. c.in_default-try_from.ensures.1 (nine a.packet.now e)),
    ))

pub returns-in-Known : goal.returns-in-Known
returns-in-Known c =
    two (λ p q. record { value = p; written = q })
    (let a = c.args in
    let found = sym c.in-Known.is ∙ c.kind_at.ensures in
    let k = Known c.in-Known.kind in
    let part = c.in-Ok.ensures.1.same ∙ part_to_end a.packet.now 1 in
    let whole = ten a.packet.now c.in-Ok.ensures.1.long in (
      c.write_known.ensures.value
          ∙ ap (λ (v : List ℕ). write_answer_by k a.form v (length a.user.now) (length a.out.now)) part
          ∙ ten-answer a.form a.packet.now _ (length a.user.now) (length a.out.now) whole found,
      c.write_known.ensures.written
          ∙ ap (λ (v : List ℕ). write_bytes_by k a.form v a.user.now a.out.now) part
          ∙ ten-bytes a.form a.packet.now _ a.user.now a.out.now whole found,
    ))

pub returns-in-Route : goal.returns-in-Route
returns-in-Route c =
    two (λ p q. record { value = p; written = q })
    (let a = c.args in
    let found = sym c.in-Route.is ∙ c.kind_at.ensures in
    let whole = ten a.packet.now c.in-Ok.ensures.1.long in (
      ten-answer a.form a.packet.now _ (length a.user.now) (length a.out.now) whole found,
      ten-bytes a.form a.packet.now _ a.user.now a.out.now whole found,
    ))

pub returns-in-Unknown : goal.returns-in-Unknown
returns-in-Unknown c =
    two (λ p q. record { value = p; written = q })
    (let a = c.args in
    let found = sym c.in-Unknown.is ∙ c.kind_at.ensures in
    let whole = ten a.packet.now c.in-Ok.ensures.1.long in (
      ten-answer a.form a.packet.now _ (length a.user.now) (length a.out.now) whole found,
      ten-bytes a.form a.packet.now _ a.user.now a.out.now whole found,
    ))
