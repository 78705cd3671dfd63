-- `frame_writer::write_data` meets its contract: its tests and its header are those of the kind.
-- Assumes nothing.
use mathlib.Core.Path.{◌≡◌, refl}
use mathlib.Core.Bool.{Bool, true, ◌&&◌, and_assoc, and-true}
use mathlib.Core.List.{[], ◌∷◌}
use Prim.Native.Nat.{ℕ, ◌<◌, ◌^◌}
use native.Mathlib.Omega.{arith}
use lib.Dec.{ltb}
use lib.ListN.{length}
use Rattle.frame_fields.specs.Layouts.{fields, header_number}
use Rattle.frame_fields.proofs.Sums.{number-lv}
use Rattle.frame_form.specs.declared.Form.{Form}
use Rattle.frame_form.specs.Forms.{form_at}
use Rattle.frame_kinds.specs.declared.Kind.TheVariants.{Data}
use Rattle.frame_kinds.specs.Kinds.{layout_in}
use Rattle.frame_writer.specs.declared.Made.{Made}
use Rattle.frame_writer.specs.Writing.{values_fit, places_fit, data_places}
use Rattle.frame_writer.specs.Parts.{Heading}
use Rattle.frame_writer.proofs.Answers.{wrote}
use Rattle.refusal.proofs.Clauses.{two}
use Rattle.frame_writer.proofs.write_data.Goals as goal

-- the tests, joined as the code and as the definitions join them
joined : (a b c d e : Bool) → (a && b && c && d && e) ≡ (a && (b && (c && (d && (e && true)))) && true && true)
joined a b c d e = simp (and_assoc, and-true)

-- what a header of DATA is made of
abbrev made : ℕ → ℕ → ℕ → ℕ → ℕ → ℕ → Made
made m sn ps pr ch h = record { fits = ltb m 2 && ltb sn 64 && ltb ps 16 && ltb pr 16 && ltb ch 16; size = 3; lv = true; number = h }

heading : (form : Form) (m sn ps pr ch h user : ℕ) → h ≡ header_number (layout_in true Data) 0 (m ∷ sn ∷ ps ∷ pr ∷ ch ∷ []) → h < 2 ^ 60
    → Heading form Data (data_places m sn ps pr ch) user (made m sn ps pr ch h)
unfolding places_fit values_fit
heading form m sn ps pr ch h user e few =
    record {
      fits = joined (ltb m 2) (ltb sn 64) (ltb ps 16) (ltb pr 16) (ltb ch 16);
      size = refl;
      lv = refl;
      number = λ ok u. omega (arith, e, number-lv u (fields (layout_in true Data)) (m ∷ sn ∷ ps ∷ pr ∷ ch ∷ []));
      few = few;
    }

pub returns : goal.returns
returns c =
    two (λ p q. record { value = p; written = q })
    (let a = c.args in
    let put = c.put in
    wrote a.form Data (data_places a.m a.sn a.ps a.pr a.ch) a.user.now a.out.now (made a.m a.sn a.ps a.pr a.ch c.data_header-number.result)
    (heading (form_at a.form) a.m a.sn a.ps a.pr a.ch c.data_header-number.result (length a.user.now) c.data_header-number.ensures.value c.data_header-number.ensures.few)
    _ _ put.ensures.value put.ensures.written)
