-- `frame_writer::header_of` meets its contract: the table of kinds. The last `refl` of each return
-- holds a row against the fields of its kind.
-- Assumes nothing.
use mathlib.Core.Path.{◌≡◌, refl, sym, ◌∙◌, subst}
use mathlib.Core.Bool.{Bool, true, false}
use mathlib.Core.List.{List}
use Prim.Native.Nat.{ℕ}
use lib.ListN.{length}
use Rattle.frame_form.specs.declared.Form.{Form}
use Rattle.frame_form.specs.Forms.{is_uplink, form_at}
use Rattle.frame_kinds.specs.declared.Kind.{Kind}
use Rattle.frame_kinds.specs.declared.Kind.TheVariants.{Data, ClearRequest, ClearConfirmation, CallRequest, CallAccept, ReceiveReady, ReceiveNotReady, Reject, Interrupt, InterruptConfirmation, Reset, ResetConfirmation}
use Rattle.frame_kinds.specs.Kinds.{layout_in}
use Rattle.frame_writer.specs.declared.Made.{Made}
use Rattle.frame_writer.specs.Parts.{Row, Heading}
use Rattle.frame_writer.proofs.Places.{given, asked, heading}
use Rattle.frame_writer.proofs.header_of.Goals as goal

-- a row that the code takes for kind k, in a frame of that direction
held : (form : Form) (kind : Kind) (p : List ℕ) (u : ℕ) → length p ≡ 9 → (up : Bool) (k : Kind) {b f : ℕ} {e : Bool} {ss ws : ℕ} {m : Made}
    → kind ≡ k → is_uplink form ≡ up → Row b f e ss ws p u m → given b f e ss ws ≡ asked (layout_in up k) → Heading form kind p u m
held form kind p u nine up k {m = m} told way row same =
    subst (λ (x : Kind). Heading form x p u m) (sym told) (heading up k p nine u m _ _ _ _ _ row same form way)

pub returns-in-Data : goal.returns-in-Data
returns-in-Data c = held (form_at c.args.form) c.args.kind c.args.p.now c.args.u c.told-p _ Data c.in-Data.is refl c.row.ensures refl

pub returns-in-ClearRequest : goal.returns-in-ClearRequest
returns-in-ClearRequest c = held (form_at c.args.form) c.args.kind c.args.p.now c.args.u c.told-p _ ClearRequest c.in-ClearRequest.is refl c.row-in-ClearRequest.ensures refl

pub returns-in-ClearConfirmation : goal.returns-in-ClearConfirmation
returns-in-ClearConfirmation c = held (form_at c.args.form) c.args.kind c.args.p.now c.args.u c.told-p _ ClearConfirmation c.in-ClearConfirmation.is refl c.row-in-ClearConfirmation.ensures refl

pub returns-then-is_uplink_at : goal.returns-then-is_uplink_at
returns-then-is_uplink_at c =
    held (form_at c.args.form) c.args.kind c.args.p.now c.args.u c.told-p true CallRequest c.in-CallRequest.is (sym c.is_uplink_at.ensures ∙ c.if-is_uplink_at.true) c.row-then-is_uplink_at.ensures refl

pub returns-else-is_uplink_at : goal.returns-else-is_uplink_at
returns-else-is_uplink_at c =
    held (form_at c.args.form) c.args.kind c.args.p.now c.args.u c.told-p false CallRequest c.in-CallRequest.is (sym c.is_uplink_at.ensures ∙ c.if-is_uplink_at.false) c.row-else-is_uplink_at.ensures refl

pub returns-then-is_uplink_at-2 : goal.returns-then-is_uplink_at-2
returns-then-is_uplink_at-2 c =
    held (form_at c.args.form) c.args.kind c.args.p.now c.args.u c.told-p true CallAccept c.in-CallAccept.is (sym c.is_uplink_at-in-CallAccept.ensures ∙ c.if-is_uplink_at-2.true) c.row-then-is_uplink_at-2.ensures refl

pub returns-else-is_uplink_at-2 : goal.returns-else-is_uplink_at-2
returns-else-is_uplink_at-2 c =
    held (form_at c.args.form) c.args.kind c.args.p.now c.args.u c.told-p false CallAccept c.in-CallAccept.is (sym c.is_uplink_at-in-CallAccept.ensures ∙ c.if-is_uplink_at-2.false) c.row-else-is_uplink_at-2.ensures refl

pub returns-in-ReceiveReady : goal.returns-in-ReceiveReady
returns-in-ReceiveReady c = held (form_at c.args.form) c.args.kind c.args.p.now c.args.u c.told-p _ ReceiveReady c.in-ReceiveReady.is refl c.row-in-ReceiveReady.ensures refl

pub returns-in-ReceiveNotReady : goal.returns-in-ReceiveNotReady
returns-in-ReceiveNotReady c = held (form_at c.args.form) c.args.kind c.args.p.now c.args.u c.told-p _ ReceiveNotReady c.in-ReceiveNotReady.is refl c.row-in-ReceiveNotReady.ensures refl

pub returns-in-Reject : goal.returns-in-Reject
returns-in-Reject c = held (form_at c.args.form) c.args.kind c.args.p.now c.args.u c.told-p _ Reject c.in-Reject.is refl c.row-in-Reject.ensures refl

pub returns-in-Interrupt : goal.returns-in-Interrupt
returns-in-Interrupt c = held (form_at c.args.form) c.args.kind c.args.p.now c.args.u c.told-p _ Interrupt c.in-Interrupt.is refl c.row-in-Interrupt.ensures refl

pub returns-in-InterruptConfirmation : goal.returns-in-InterruptConfirmation
returns-in-InterruptConfirmation c = held (form_at c.args.form) c.args.kind c.args.p.now c.args.u c.told-p _ InterruptConfirmation c.in-InterruptConfirmation.is refl c.row-in-InterruptConfirmation.ensures refl

pub returns-in-Reset : goal.returns-in-Reset
returns-in-Reset c = held (form_at c.args.form) c.args.kind c.args.p.now c.args.u c.told-p _ Reset c.in-Reset.is refl c.row-in-Reset.ensures refl

pub returns-in-ResetConfirmation : goal.returns-in-ResetConfirmation
returns-in-ResetConfirmation c = held (form_at c.args.form) c.args.kind c.args.p.now c.args.u c.told-p _ ResetConfirmation c.in-ResetConfirmation.is refl c.row-in-ResetConfirmation.ensures refl
