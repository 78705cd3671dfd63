-- `frame_reader::read_at` meets its contract: each return is a case of the checks.
-- Assumes nothing.
use mathlib.Core.Path.{sym, ap, ◌∙◌}
use mathlib.Core.List.{List, ◌∷◌}
use Prim.Native.Nat.{ℕ, ◌+◌, ◌-◌, ◌*◌}
use native.Mathlib.Omega.{arith}
use Rattle.refusal.specs.declared.Refusal.TheVariants.{FormatError, PacketTooLong}
use Rattle.refusal.proofs.Clauses.{two}
use Rattle.lists.specs.Lists.{over}
use Rattle.frame_form.specs.Forms.{form_at}
use Rattle.frame_form.proofs.Forms.{most-range}
use Rattle.frame_reader.specs.Parts.{layout_for, places_by, found_number}
use Rattle.frame_reader.proofs.Cases.{short-answer, short-bytes, passed-answer, passed-bytes, read_by, packet-is, seen_size, seen-header, seen-inside, bad-refused, clean-packet, clean-long, clean-reads, clean-padding, refused-call}
use Rattle.frame_reader.proofs.read_at.Goals as goal

pub overflow_sub-past : goal.overflow_sub-past
overflow_sub-past c = seen-inside _ _ _ _ c.requires.0

pub returns-then-head-n : goal.returns-then-head-n
returns-then-head-n c =
    two (λ p q. record { value = p; written = q })
    (let a = c.args in
    let b = bad-refused _ _ _ _ c.requires.0 a.segment c.requires.1 c.if-head-n.true in
    refused-call a.form a.frame.now a.packet.now FormatError b.0 b.1)

pub is_padded-requires : goal.is_padded-requires
is_padded-requires c = seen-inside _ _ _ _ c.requires.0

pub returns-then-most_at-n : goal.returns-then-most_at-n
returns-then-most_at-n c =
    two (λ p q. record { value = p; written = q })
    (let a = c.args in
    refused-call a.form a.frame.now a.packet.now PacketTooLong _
    (clean-long _ _ _ _ c.requires.0 _ c.requires.1 c.if-head-n.false (sym c.is_padded.ensures ∙ c.if-is_padded.true) (omega (arith, c.most_at.ensures, c.if-most_at-n.true))))

pub returns-then-packet-lt10 : goal.returns-then-packet-lt10
returns-then-packet-lt10 c =
    two (λ p q. record { value = p; written = q })
    (let a = c.args in
    let reads = clean-reads _ _ _ _ c.requires.0 _ c.requires.1 c.if-head-n.false (sym c.is_padded.ensures ∙ c.if-is_padded.true) (omega (arith, c.most_at.ensures, c.if-most_at-n.false)) in (
      sym (short-answer a.form a.frame.now reads _ c.if-packet-lt10.true),
      sym (short-bytes a.form a.frame.now reads _ c.if-packet-lt10.true),
    ))

pub overflow_sub-result : goal.overflow_sub-result
overflow_sub-result c = (clean-packet _ _ _ _ c.requires.0 _ c.requires.1 c.if-head-n.false).1

pub overflow_mul-result-then-is_padded : goal.overflow_mul-result-then-is_padded
overflow_mul-result-then-is_padded c =
    omega (arith, (clean-packet _ _ _ _ c.requires.0 _ c.requires.1 c.if-head-n.false).1, c.most_at.ensures, c.if-most_at-n.false, (most-range (form_at c.args.form) c.requires.0.named.valid).1)

pub returns-then-is_padded : goal.returns-then-is_padded
returns-then-is_padded c =
    two (λ p q. record { value = p; written = q })
    (let a = c.args in
    let frame = a.frame.now in
    let form = form_at a.form in
    let seen = c.requires.0 in
    let reads = clean-reads _ _ _ _ seen _ c.requires.1 c.if-head-n.false (sym c.is_padded.ensures ∙ c.if-is_padded.true) (omega (arith, c.most_at.ensures, c.if-most_at-n.false)) in
    let n = a.head.len in
    let nm = seen.named in
    let room = c.if-packet-lt10.false in
    let by = read_by form frame a.found nm.some in (
      ap (λ (z : ℕ). 256 * (z + 256 * (n - z))) (seen_size _ _ _ _ seen ∙ sym by.2)
          ∙ sym (passed-answer a.form frame reads a.found _ n nm.found-is room (by.1 ∙ (clean-packet _ _ _ _ seen _ c.requires.1 c.if-head-n.false).0)),
      c.put_packet.ensures
          ∙ ap (λ (h : ℕ). over (found_number a.found ∷ places_by (layout_for form a.found) h) a.packet.now) (seen-header _ _ _ _ seen)
          ∙ ap (λ (l : List ℕ). over l a.packet.now) (packet-is form frame a.found nm.some)
          ∙ sym (passed-bytes a.form frame reads a.found _ nm.found-is room),
    ))

pub returns : goal.returns
returns c =
    two (λ p q. record { value = p; written = q })
    (let a = c.args in
    refused-call a.form a.frame.now a.packet.now FormatError _
    (clean-padding _ _ _ _ c.requires.0 _ c.requires.1 c.if-head-n.false (sym c.is_padded.ensures ∙ c.if-is_padded.false)))
