-- Frames as cutting makes them, joined and cut again: each is the frame of its share, with the
-- numbers after those of the one before.
-- Assumes nothing.
use mathlib.Core.Path.{◌≡◌, refl, sym, ap, ap₂, ◌∙◌, subst}
use mathlib.Core.Bool.{Bool, true, false, not, ◌&&◌}
use mathlib.Core.List.{List, [], ◌∷◌, ◌++◌, append-nil}
use Prim.Native.Nat.{ℕ, suc, ◌+◌, ◌≤◌}
use native.Mathlib.Omega.{arith}
use lib.Dec.{eqb}
use lib.ListN.{length, length-append}
use lib.Seq.{take_at, drop_at}
use borrow.Author.Tests.{eqb-true}
use Rattle.refusal.proofs.Checks.{both_true}
use Rattle.frame_fields.specs.Rows.{AreBytes}
use Rattle.frame_form.specs.declared.Form.{Form}
use Rattle.frame_form.specs.Forms.{form_valid}
use Rattle.sequence.specs.Modular.{next}
use Rattle.sequence.specs.Numbers.{link, packet}
use Rattle.frame.specs.declared.Data.{Data}
use Rattle.frame.specs.declared.Packet.TheVariants.{Data as DataPacket}
use Rattle.frame.specs.declared.UserData.{UserData}
use Rattle.frame.specs.Writing.{frame_of}
use Rattle.frame.specs.Reading.{read_of, data_in}
use Rattle.frame.proofs.Frames.{reads-frame}
use Rattle.message.specs.declared.cutting.Start.{Start}
use Rattle.message.specs.Cutting.{share_of, full_frames, data_of, next_start, frames_from}
use Rattle.message.specs.Joining.{follows, user_of, frames_checks, message_in, user_in}
use Rattle.message_claims.specs.Claims.{has_pr, AsCut, start_of}
use Rattle.message.proofs.Sizes.{share_range, one_frame}
use Rattle.message_claims.proofs.Shares.{shares-more}
use Rattle.message_claims.proofs.Joining.{IsTurn, first-turn, user-share}
use Rattle.frame.specs.Packets.{Read}
use Rattle.frame.specs.declared.Contents.TheVariants.{Packet as PacketIn}
use Rattle.std.specs.Prelude.{Ok, Option, Some}

-- every frame is bytes
unfoldable pub AllBytes : List (List ℕ) → Type 0
AllBytes [] = Unit {0}
AllBytes (f ∷ fs) = AreBytes f × AllBytes fs

-- a frame is written again from its packet and its user data
frame-of : (form : Form) (f : List ℕ) (d : Data) (place : UserData) (m : Bool) → AreBytes f → read_of form f ≡ Ok (PacketIn (DataPacket d) place) → d.m ≡ m
    → frame_of form (data_of (start_of d) m) (user_in form f) ≡ f
frame-of form f d place m bytes reads em =
    ap₂ (λ (x : Bool) (u : List ℕ). frame_of form (data_of (start_of d) x) u) (sym em) (ap (λ (r : Read). user_of r f) reads)
    ∙ (reads-frame form f (DataPacket d) place reads).again bytes

-- the numbers of the next packet are those with which cutting goes on
next_start_lem : (d e : Data) → follows (Some d) e ≡ true → e.pr.0 ≡ d.pr.0 → start_of e ≡ next_start (start_of d)
next_start_lem d e h hp =
    let a = both_true (eqb e.sn.0 (next 64 d.sn.0)) (eqb e.ps.0 (next 16 d.ps.0) && eqb e.ch d.ch) h in
    let b = both_true (eqb e.ps.0 (next 16 d.ps.0)) (eqb e.ch d.ch) a.1 in
    let es = eqb-true e.sn.0 (next 64 d.sn.0) a.0 in
    let ep = eqb-true e.ps.0 (next 16 d.ps.0) b.0 in
    let ec = eqb-true e.ch d.ch b.1 in
    λ i. record { sn = link (es i); ps = packet (ep i); pr = packet (hp i); ch = ec i }

has-pr : (pr : ℕ) (form : Form) (f : List ℕ) (d : Data) (place : UserData) → read_of form f ≡ Ok (PacketIn (DataPacket d) place) → has_pr pr (data_in (read_of form f)) → d.pr.0 ≡ pr
has-pr pr form f d place reads h = subst (λ (r : Read). has_pr pr (data_in r)) reads h

data-inj : (d e : Data) (p q : UserData) → ◌≡◌ {A = Read} (Ok (PacketIn (DataPacket d) p)) (Ok (PacketIn (DataPacket e) q)) → d ≡ e
data-inj d e p q h = cc

-- M and the numbers of an accepted frame's packet
turn-says : (form : Form) (b : Option Data) (last : Bool) (f : List ℕ) (d : Data) (place : UserData) → IsTurn form b last f → read_of form f ≡ Ok (PacketIn (DataPacket d) place)
    → (d.m ≡ not last) × (follows b d ≡ true)
turn-says form b last f d place t reads =
    let e = data-inj t.packet d t.place place (sym t.reads ∙ reads) in
    (ap (λ (x : Data). x.m) (sym e) ∙ t.m-says, ap (follows b) (sym e) ∙ t.goes_on)

as-cut-pr : (form : Form) (pr : ℕ) (alone : Bool) (f : List ℕ) (fs : List (List ℕ)) → AsCut form pr alone (f ∷ fs) → has_pr pr (data_in (read_of form f))
unfolding AsCut
as-cut-pr form pr alone f [] h = h.0
as-cut-pr form pr alone f (g ∷ gs) h = h.0

pub frames-again : (form : Form) → form_valid form ≡ true → (alone : Bool) (f : List ℕ) (fs : List (List ℕ)) (b : Option Data) (start : ℕ) (d : Data) (place : UserData) → AllBytes (f ∷ fs)
    → read_of form f ≡ Ok (PacketIn (DataPacket d) place) → frames_checks form b start (f ∷ fs) ≡ Ok tt → AsCut form d.pr.0 alone (f ∷ fs)
    → (frames_from form (length fs) (start_of d) (message_in form (f ∷ fs)) ≡ f ∷ fs)
    × (full_frames (share_of form) (length (message_in form (f ∷ fs))) ≡ length fs)
    × (alone ≡ false → 1 ≤ length (message_in form (f ∷ fs)))
unfolding AsCut AllBytes frames_from message_in
frames-again form good alone f [] b start d place bytes reads run as-cut =
    let t = turn-says form b true f d place (first-turn form b start f [] run).0 reads in
    let all : user_in form f ++ [] ≡ user_in form f = append-nil (user_in form f) in
    let some : 1 ≤ share_of form = omega (arith, (share_range form good).0) in (
      ap (λ (u : List ℕ). frame_of form (data_of (start_of d) false) u ∷ []) all ∙ ap (λ (x : List ℕ). x ∷ []) (frame-of form f d place false bytes.0 reads t.0),
      ap (λ (u : List ℕ). full_frames (share_of form) (length u)) all ∙ one_frame (share_of form) (length (user_in form f)) some (user-share form good f d place reads),
      λ h. subst (λ (u : List ℕ). 1 ≤ length u) (sym all) (as-cut.1 h),
    )
frames-again form good alone f (g ∷ gs) b start d place bytes reads run as-cut =
    let share = share_of form in
    let user = user_in form f in
    let rest = message_in form (g ∷ gs) in
    let t = turn-says form b false f d place (first-turn form b start f (g ∷ gs) run).0 reads in
    let run2 : frames_checks form (Some d) (start + length f) (g ∷ gs) ≡ Ok tt =
    sym (ap (λ (r : Read). frames_checks form (data_in r) (start + length f) (g ∷ gs)) reads) ∙ (first-turn form b start f (g ∷ gs) run).1 in
    let t2 = (first-turn form (Some d) (start + length f) g gs run2).0 in
    let pr2 : t2.packet.pr.0 ≡ d.pr.0 = has-pr d.pr.0 form g t2.packet t2.place t2.reads (as-cut-pr form d.pr.0 false g gs as-cut.2) in
    let start2 = next_start_lem d t2.packet t2.goes_on pr2 in
    let ih = frames-again form good false g gs (Some d) (start + length f) t2.packet t2.place bytes.1 t2.reads run2 (subst (λ (x : ℕ). AsCut form x false (g ∷ gs)) (sym pr2) as-cut.2) in
    let full : length user ≡ share = as-cut.1 in
    let len : length (user ++ rest) ≡ share + length rest = length-append user rest ∙ ap (λ (x : ℕ). x + length rest) full in
    let some : 1 ≤ share = omega (arith, (share_range form good).0) in (
      ap₂ (λ (x y : List ℕ). frame_of form (data_of (start_of d) true) x ∷ frames_from form (length gs) (next_start (start_of d)) y) (take_at user rest share full) (drop_at user rest share full)
          ∙ ap₂ (λ (x : List ℕ) (y : List (List ℕ)). x ∷ y) (frame-of form f d place true bytes.0 reads t.0)
          (ap (λ (s : Start). frames_from form (length gs) s rest) (sym start2) ∙ ih.0),
      ap (full_frames share) len ∙ shares-more share (length rest) some (ih.2 refl) ∙ ap suc ih.1,
      λ h. omega (arith, len, some),
    )
