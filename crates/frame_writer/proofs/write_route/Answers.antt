-- `frame_writer::write_route` meets its contract: the strings are written as they are defined.
-- Assumes nothing.
use mathlib.Core.Path.{◌≡◌, refl, sym, ap, ◌∙◌}
use mathlib.Core.Bool.{Bool}
use mathlib.Core.List.{List, ◌∷◌, ◌++◌, append-nil}
use Prim.Native.Nat.{ℕ, ◌+◌, ◌*◌, ◌≤◌}
use native.Mathlib.Omega.{arith}
use lib.ListN.{length, drop, replicate, length-append}
use borrow.Author.Tests.{eq-eqb, ne_eqb}
use Rattle.frame_fields.specs.Rows.{bytes_of}
use Rattle.frame_form.specs.Forms.{long_segment, seg_of, form_at}
use Rattle.frame_form.specs.Segments.{padding}
use Rattle.frame_form.proofs.Segments.{frame-some}
use Rattle.frame_writer.specs.Writing.{write_verdict}
use Rattle.frame_writer.specs.Parts.{SameOrLong}
use Rattle.frame_writer.specs.Routes.{route_after, route_length, route_fits, route_answer, route_bytes}
use Rattle.frame_writer.proofs.Verdicts.{number-done, Passed, passed}
use Rattle.frame_writer.proofs.Routes.{route-header, route-refused, route-fits, route-done, after-length}
use Rattle.refusal.proofs.Clauses.{two}
use Rattle.frame_writer.proofs.write_route.Goals as goal
use Rattle.std.specs.Prelude.{Ok}

-- what is written, in both cases
whole : (form optional initial n pad : ℕ) (table extra out : List ℕ) (last : List ℕ)
    → SameOrLong n (route_length optional (length table) (length extra))
    → write_verdict (form_at form) (route_fits optional initial (length extra)) n (length out) ≡ Ok tt
    → pad ≡ padding (seg_of (form_at form)) n
    → last ≡ (bytes_of 2 (0x7000 + 512 * optional + 256 * initial + length table) ++ (route_after optional table extra ++ replicate pad 0)) ++ drop (2 + length (route_after optional table extra) + pad) out
    → (256 * (n + pad) ≡ route_answer form optional initial (length table) (length extra) (length out)) × (last ≡ route_bytes form optional initial table extra out)
whole form optional initial n pad table extra out last same ok padded e =
    route-done form optional initial table extra out (route_fits optional initial (length extra)) n refl same _ pad last ok padded (route-header optional initial (length table)) e

-- the same bytes, by what follows RTL
placed : (table extra out h after : List ℕ) (pad : ℕ) → table ++ (length extra ∷ extra) ≡ after
    → (h ++ ((table ++ (length extra ∷ extra)) ++ replicate pad 0)) ++ drop (2 + (length table + (1 + length extra)) + pad) out ≡ (h ++ (after ++ replicate pad 0)) ++ drop (2 + length after + pad) out
placed table extra out h after pad e =
    let n : length table + (1 + length extra) ≡ length (table ++ (length extra ∷ extra)) = omega (arith, length-append table (length extra ∷ extra)) in
    ap (λ (x : ℕ). (h ++ ((table ++ (length extra ∷ extra)) ++ replicate pad 0)) ++ drop (2 + x + pad) out) n
    ∙ ap (λ (u : List ℕ). (h ++ (u ++ replicate pad 0)) ++ drop (2 + length u + pad) out) e

pub returns-then-refusal-ne0 : goal.returns-then-refusal-ne0
unfolding route_fits
returns-then-refusal-ne0 c =
    let a = c.args in
    two (λ p q. record { value = p; written = q })
    (route-refused a.form a.optional a.initial a.table.now a.extra.now a.out.now _ c.route_length-n.result refl c.route_length-n.ensures.same_or_long
    c.check_put-refusal.result c.check_put-refusal.ensures c.if-refusal-ne0.true)

pub put_route-requires : goal.put_route-requires
unfolding route_fits
put_route-requires c =
    let a = c.args in
    let n = c.route_length-n.result in
    let fits : Bool = route_fits a.optional a.initial (length a.extra.now) in
    let ok : write_verdict (form_at a.form) fits n (length a.out.now) ≡ Ok tt = number-done _ (sym c.check_put-refusal.ensures ∙ omega (arith, c.if-refusal-ne0.false)) in
    let facts : Passed (form_at a.form) fits n (length a.out.now) = passed (form_at a.form) fits n (length a.out.now) ok in
    let padded : c.padding_of-pad.result ≡ padding (seg_of (form_at a.form)) n = c.padding_of-pad.ensures.value ∙ ap (λ (seg : ℕ). padding seg n) (sym facts.long) in
    let sized : n ≡ 2 + length (route_after a.optional a.table.now a.extra.now) = route-fits a.form a.optional a.initial a.table.now a.extra.now a.out.now fits n refl c.route_length-n.ensures.same_or_long ok in
    let pad = c.padding_of-pad.ensures in
    let some : long_segment ≤ n + c.padding_of-pad.result = omega (arith, pad.value, frame-some long_segment n (omega arith) (omega (arith, c.route_length-n.ensures.few.0))) in
    let room : n + c.padding_of-pad.result ≤ length a.out.now = omega (arith, padded, facts.room) in
    let e : n ≡ 2 + (length a.table.now + (1 + length a.extra.now)) =
    let e : route_length a.optional (length a.table.now) (length a.extra.now) ≡ 2 + (length a.table.now + (1 + length a.extra.now)) = rw (eq-eqb a.optional 1 c.if-optional-eq1.true) in
    sized ∙ after-length a.optional a.table.now a.extra.now ∙ e in
    record { pad_le_long_segment = (omega (arith, pad.few), omega (arith, some, e), omega (arith, room, e)); short = omega (arith, facts.few, e) }

pub returns-then-optional-eq1 : goal.returns-then-optional-eq1
unfolding route_fits
returns-then-optional-eq1 c =
    let a = c.args in
    let n = c.route_length-n.result in
    let fits : Bool = route_fits a.optional a.initial (length a.extra.now) in
    let ok : write_verdict (form_at a.form) fits n (length a.out.now) ≡ Ok tt = number-done _ (sym c.check_put-refusal.ensures ∙ omega (arith, c.if-refusal-ne0.false)) in
    let facts : Passed (form_at a.form) fits n (length a.out.now) = passed (form_at a.form) fits n (length a.out.now) ok in
    let padded : c.padding_of-pad.result ≡ padding (seg_of (form_at a.form)) n = c.padding_of-pad.ensures.value ∙ ap (λ (seg : ℕ). padding seg n) (sym facts.long) in
    let pad = c.padding_of-pad.result in
    let after : route_after a.optional a.table.now a.extra.now ≡ a.table.now ++ (length a.extra.now ∷ a.extra.now) = rw (eq-eqb a.optional 1 c.if-optional-eq1.true) in
    two (λ p q. record { value = p; written = q })
    (whole a.form a.optional a.initial n pad a.table.now a.extra.now a.out.now _ c.route_length-n.ensures.same_or_long ok padded
    (c.put_route.ensures ∙ placed a.table.now a.extra.now a.out.now (bytes_of 2 (0x7000 + 512 * a.optional + 256 * a.initial + length a.table.now)) _ pad (sym after)))

pub put_frame-requires : goal.put_frame-requires
unfolding route_fits
put_frame-requires c =
    let a = c.args in
    let n = c.route_length-n.result in
    let fits : Bool = route_fits a.optional a.initial (length a.extra.now) in
    let ok : write_verdict (form_at a.form) fits n (length a.out.now) ≡ Ok tt = number-done _ (sym c.check_put-refusal.ensures ∙ omega (arith, c.if-refusal-ne0.false)) in
    let facts : Passed (form_at a.form) fits n (length a.out.now) = passed (form_at a.form) fits n (length a.out.now) ok in
    let padded : c.padding_of-pad.result ≡ padding (seg_of (form_at a.form)) n = c.padding_of-pad.ensures.value ∙ ap (λ (seg : ℕ). padding seg n) (sym facts.long) in
    let sized : n ≡ 2 + length (route_after a.optional a.table.now a.extra.now) = route-fits a.form a.optional a.initial a.table.now a.extra.now a.out.now fits n refl c.route_length-n.ensures.same_or_long ok in
    let pad = c.padding_of-pad.ensures in
    let some : long_segment ≤ n + c.padding_of-pad.result = omega (arith, pad.value, frame-some long_segment n (omega arith) (omega (arith, c.route_length-n.ensures.few.0))) in
    let room : n + c.padding_of-pad.result ≤ length a.out.now = omega (arith, padded, facts.room) in
    let e : n ≡ 2 + length a.table.now =
    let e : route_length a.optional (length a.table.now) (length a.extra.now) ≡ 2 + (length a.table.now + 0) = rw (ne_eqb a.optional 1 c.if-optional-eq1.false) in
    sized ∙ after-length a.optional a.table.now a.extra.now ∙ e ∙ omega arith in
    record { pad_le_long_segment = (omega (arith, pad.few), omega (arith, some, e), omega (arith, room, e)); header = omega arith }

pub returns : goal.returns
unfolding route_fits
returns c =
    let a = c.args in
    let n = c.route_length-n.result in
    let fits : Bool = route_fits a.optional a.initial (length a.extra.now) in
    let ok : write_verdict (form_at a.form) fits n (length a.out.now) ≡ Ok tt = number-done _ (sym c.check_put-refusal.ensures ∙ omega (arith, c.if-refusal-ne0.false)) in
    let facts : Passed (form_at a.form) fits n (length a.out.now) = passed (form_at a.form) fits n (length a.out.now) ok in
    let padded : c.padding_of-pad.result ≡ padding (seg_of (form_at a.form)) n = c.padding_of-pad.ensures.value ∙ ap (λ (seg : ℕ). padding seg n) (sym facts.long) in
    let pad = c.padding_of-pad.result in
    let after : route_after a.optional a.table.now a.extra.now ≡ a.table.now = rw (ne_eqb a.optional 1 c.if-optional-eq1.false) (append-nil a.table.now) in
    two (λ p q. record { value = p; written = q })
    (whole a.form a.optional a.initial n pad a.table.now a.extra.now a.out.now _ c.route_length-n.ensures.same_or_long ok padded
    (c.put_frame.ensures ∙ ap (λ (u : List ℕ). (bytes_of 2 (0x7000 + 512 * a.optional + 256 * a.initial + length a.table.now) ++ (u ++ replicate pad 0)) ++ drop (2 + length u + pad) a.out.now) (sym after)))
