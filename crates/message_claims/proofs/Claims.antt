-- The frames of a message are joined to it, and no others that are as cutting makes them; so a
-- message cut and joined comes back, and frames joined and cut again are the same; fewer frames are
-- not possible.
-- Assumes nothing.
use mathlib.Core.Path.{◌≡◌, refl, sym, ap, ap₂, ◌∙◌, subst}
use mathlib.Core.Bool.{true, false}
use mathlib.Core.List.{List, [], ◌∷◌}
use Prim.Native.Nat.{ℕ, suc, ◌*◌, ◌≤◌}
use native.Mathlib.Omega.{arith}
use lib.ListN.{length, take, drop}
use lib.Seq.{take_at}
use Rattle.refusal.specs.Positions.{Checked, verdict_of}
use Rattle.lists.specs.Lists.{over}
use Rattle.frame_fields.specs.Rows.{AreBytes}
use Rattle.frame_form.specs.declared.Form.{Form}
use Rattle.frame_form.specs.Forms.{form_valid, is_long}
use Rattle.frame_writer.specs.Writing.{output_by}
use Rattle.frame.specs.declared.Data.{Data}
use Rattle.frame.specs.declared.Packet.TheVariants.{Data as DataPacket}
use Rattle.frame.specs.declared.UserData.{UserData}
use Rattle.frame.specs.Writing.{fits}
use Rattle.frame.specs.Reading.{read_of}
use Rattle.frame.proofs.Frames.{reads-frame}
use Rattle.message.specs.declared.cutting.Start.{Start}
use Rattle.lists.specs.Frames.{bytes_in, lengths_of, parts_of, is_none}
use Rattle.message.specs.Cutting.{share_of, full_frames, data_of, frames_from, frames_of, cut_verdict, cut_by, cut_into, cut_of, cut_output, cut_lengths}
use Rattle.message.specs.Joining.{frames_checks, message_in, join_checks, join_by, join_of, join_output}
use Rattle.lists.proofs.Frames.{parts-back, sum-lengths, count-lengths, count-parts, bytes_back, lengths-back}
use Rattle.message.proofs.Sizes.{share_range, frames-count}
use Rattle.message.proofs.Passed.{by_frames, passed, accepts}
use Rattle.message.proofs.Answers.{by_bytes, JoinDone, join-done, join-accepts}
use Rattle.message_claims.specs.Claims.{FramesAreJoined, IsCut, CutIsJoined, AsCut, start_of, JoinedIsCut, Reassembly}
use Rattle.message_claims.proofs.Parts.{are-bytes}
use Rattle.message_claims.proofs.Starts.{fits-start}
use Rattle.message_claims.proofs.Shares.{shares-hold, shares-fewest}
use Rattle.message_claims.proofs.Cutting.{first, frames-run, frames-message}
use Rattle.message_claims.proofs.Joining.{message-shares}
use Rattle.message_claims.proofs.Again.{AllBytes, frames-again}
use Rattle.refusal.specs.Numbers.{Verdict}
use Rattle.frame.specs.declared.Contents.TheVariants.{Packet as PacketIn}
use Rattle.std.specs.Prelude.{Ok, None}

-- ---- by the layout

some-lengths : (fs : List (List ℕ)) (k : ℕ) → length fs ≡ suc k → is_none (lengths_of fs) ≡ false
some-lengths [] k e = absurd (omega arith)
some-lengths (f ∷ fs) k e = refl

-- the frames of a message are joined to it
frames-join : (form : Form) (s : Start) (message : List ℕ) (room : ℕ) → form_valid form ≡ true → fits form (data_of s false) 0 ≡ true → length message ≤ 4096 → length message ≤ room
    → JoinDone form (lengths_of (frames_of form s message)) (bytes_in (frames_of form s message)) room
    × (message_in form (parts_of (lengths_of (frames_of form s message)) (bytes_in (frames_of form s message))) ≡ message)
unfolding frames_of
frames-join form s message room good fit small enough =
    let share = share_of form in
    let k = full_frames share (length message) in
    let fs = frames_from form k s message in
    let some : 1 ≤ share = omega (arith, (share_range form good).0) in
    let hold = shares-hold share (length message) some in
    let msg : message_in form (parts_of (lengths_of fs) (bytes_in fs)) ≡ message = ap (message_in form) (parts-back fs) ∙ frames-message form good k s message fit hold in (
      record {
        good = good;
        sums = sum-lengths fs;
        some = some-lengths fs k (frames-count form k s message);
        run = ap (frames_checks form None 0) (parts-back fs) ∙ frames-run form good k s message None 0 fit first hold;
        small = subst (λ (m : List ℕ). length m ≤ 4096) (sym msg) small;
        fits-room = subst (λ (m : List ℕ). length m ≤ room) (sym msg) enough;
      },
      msg,
    )

pub frames-are-joined : (form : Form) (s : Start) (message room : List ℕ) → form_valid form ≡ true → fits form (data_of s false) 0 ≡ true → length message ≤ 4096
    → length message ≤ length room → FramesAreJoined form s message room
unfolding join_of join_output
frames-are-joined form s message room good fit small enough =
    let fs = frames_of form s message in
    let j = frames-join form s message (length room) good fit small enough in
    let v = join-accepts form (lengths_of fs) (bytes_in fs) (length room) j.0 in
    record {
      answer = ap (λ (x : Checked). join_by x (length (message_in form (parts_of (lengths_of fs) (bytes_in fs))))) v ∙ ap (λ (m : List ℕ). Ok (length m)) j.1;
      output = ap (λ (x : Checked). output_by (verdict_of x) (message_in form (parts_of (lengths_of fs) (bytes_in fs))) room) v ∙ ap (λ (m : List ℕ). over m room) j.1;
    }

all-bytes : (ls bytes : List ℕ) → AreBytes bytes → AllBytes (parts_of ls bytes)
unfolding AllBytes
all-bytes [] bytes b = tt
all-bytes (l ∷ ls) bytes b = let p = are-bytes l bytes b in (p.0, all-bytes ls (drop l bytes) p.1)

-- what is known of frames that join
joins : (form : Form) (lengths bytes : List ℕ) (room n : ℕ) → join_of form lengths bytes room ≡ Ok n → JoinDone form lengths bytes room
unfolding join_of
joins form lengths bytes room n e =
    join-done form lengths bytes room (by_bytes (join_checks form lengths bytes room) (length (message_in form (parts_of lengths bytes))) n e)

joined-are-frames : (form : Form) (l : ℕ) (ls bytes : List ℕ) (room n : ℕ) (d : Data) (place : UserData)
    → AreBytes bytes → join_of form (l ∷ ls) bytes room ≡ Ok n → read_of form (take l bytes) ≡ Ok (PacketIn (DataPacket d) place)
    → AsCut form d.pr.0 true (parts_of (l ∷ ls) bytes) → parts_of (l ∷ ls) bytes ≡ frames_of form (start_of d) (message_in form (parts_of (l ∷ ls) bytes))
unfolding frames_of
joined-are-frames form l ls bytes room n d place are e reads as-cut =
    let lengths = l ∷ ls in
    let message = message_in form (parts_of lengths bytes) in
    let j = joins form lengths bytes room n e in
    let again = frames-again form j.good true (take l bytes) (parts_of ls (drop l bytes)) None 0 d place (all-bytes lengths bytes are) reads j.run as-cut in
    sym (ap (λ (k : ℕ). frames_from form k (start_of d) message) again.1 ∙ again.0)

-- ---- cut, then joined

is_cut : (form : Form) (s : Start) (message out lengths : List ℕ) → form_valid form ≡ true → is_long form ≡ true → fits form (data_of s false) 0 ≡ true → length message ≤ 4096
    → length (bytes_in (frames_of form s message)) ≤ length out → length (frames_of form s message) ≤ length lengths → IsCut form s message out lengths
unfolding cut_of cut_output cut_lengths
is_cut form s message out lengths good long fit small room places =
    let fs = frames_of form s message in
    let v = accepts form s message (length out) (length lengths) (record { good = good; fit = fit; long = long; small = small; bytes = room; frames = places }) in
    record {
      answer = ap (λ (x : Verdict). cut_by x fs) v;
      output = ap (λ (x : Verdict). output_by x (bytes_in fs) out) v;
      lengths-out = ap (λ (x : Verdict). output_by x (lengths_of fs) lengths) v;
    }

cut-is-joined : (form : Form) (s : Start) (message out lengths room : List ℕ) (count bytes : ℕ) → cut_of form s message (length out) (length lengths) ≡ cut_into count bytes
    → length message ≤ length room → CutIsJoined form s message out lengths room count bytes
unfolding cut_of
cut-is-joined form s message out lengths room count bytes e enough =
    let fs = frames_of form s message in
    let c = by_frames (cut_verdict form s message (length out) (length lengths)) fs count bytes e in
    let d = passed form s message (length out) (length lengths) c.0 in
    let cut = is_cut form s message out lengths d.good d.long d.fit d.small d.bytes d.frames in
    let joined = frames-are-joined form s message room d.good d.fit d.small enough in
    let L : take count (cut_lengths form s message (length out) lengths) ≡ lengths_of fs =
    ap (take count) cut.lengths-out ∙ take_at (lengths_of fs) (drop (length (lengths_of fs)) lengths) count (count-lengths fs ∙ c.1) in
    let B : take bytes (cut_output form s message out (length lengths)) ≡ bytes_in fs =
    ap (take bytes) cut.output ∙ take_at (bytes_in fs) (drop (length (bytes_in fs)) out) bytes c.2 in
    record {
      answer = ap₂ (λ (l b : List ℕ). join_of form l b (length room)) L B ∙ joined.answer;
      output = ap₂ (λ (l b : List ℕ). join_output form l b room) L B ∙ joined.output;
    }

-- ---- joined, then cut

joined-is-cut : (form : Form) (l : ℕ) (ls bytes : List ℕ) (room n : ℕ) (d : Data) (place : UserData) (out places : List ℕ)
    → is_long form ≡ true → AreBytes bytes → join_of form (l ∷ ls) bytes room ≡ Ok n → read_of form (take l bytes) ≡ Ok (PacketIn (DataPacket d) place)
    → AsCut form d.pr.0 true (parts_of (l ∷ ls) bytes) → length bytes ≤ length out → length (l ∷ ls) ≤ length places
    → JoinedIsCut form (l ∷ ls) bytes d out places
joined-is-cut form l ls bytes room n d place out places long are e reads as-cut room_out room-places =
    let lengths = l ∷ ls in
    let s = start_of d in
    let message = message_in form (parts_of lengths bytes) in
    let j = joins form lengths bytes room n e in
    let frames : frames_of form s message ≡ parts_of lengths bytes = sym (joined-are-frames form l ls bytes room n d place are e reads as-cut) in
    let B : bytes_in (frames_of form s message) ≡ bytes = ap bytes_in frames ∙ bytes_back lengths bytes j.sums in
    let L : lengths_of (frames_of form s message) ≡ lengths = ap lengths_of frames ∙ lengths-back lengths bytes j.sums in
    let N : length (frames_of form s message) ≡ length lengths = ap (λ (x : List (List ℕ)). length x) frames ∙ count-parts lengths bytes in
    let fit : fits form (data_of s false) 0 ≡ true = fits-start form d place.len (reads-frame form (take l bytes) (DataPacket d) place reads).fit in
    let cut = is_cut form s message out places j.good long fit j.small (subst (λ (x : List ℕ). length x ≤ length out) (sym B) room_out) (omega (arith, N, room-places)) in
    record {
      answer = cut.answer ∙ ap₂ cut_into N (ap length B);
      output = cut.output ∙ ap (λ (x : List ℕ). over x out) B;
      lengths-out = cut.lengths-out ∙ ap (λ (x : List ℕ). over x places) L;
    }

-- ---- as few as possible

fewest : (form : Form) (lengths bytes : List ℕ) (room n : ℕ) (s : Start) → join_of form lengths bytes room ≡ Ok n
    → length (frames_of form s (message_in form (parts_of lengths bytes))) ≤ length lengths
unfolding frames_of
fewest form lengths bytes room n s e =
    let fs = parts_of lengths bytes in
    let message = message_in form fs in
    let j = joins form lengths bytes room n e in
    let some : 1 ≤ share_of form = omega (arith, (share_range form j.good).0) in
    let k = full_frames (share_of form) (length message) in
    let at_most : length message ≤ length lengths * share_of form = subst (λ (x : ℕ). length message ≤ x * share_of form) (count-parts lengths bytes) (message-shares form j.good None 0 fs j.run) in
    let more : 1 ≤ length lengths = go lengths j.some in
    omega (arith, frames-count form k s message, shares-fewest (share_of form) (length message) (length lengths) some more at_most)
  where
    go : (ls : List ℕ) → is_none ls ≡ false → 1 ≤ length ls
    go [] h = let z : ◌≡◌ {A = ℕ} 0 1 = cc in absurd (omega arith)
    go (l ∷ ls) h = omega arith

pub reassembly : Reassembly
reassembly = record {
  frames-are-joined = frames-are-joined;
  joined-are-frames = joined-are-frames;
  is_cut = is_cut;
  cut-is-joined = cut-is-joined;
  joined-is-cut = joined-is-cut;
  fewest = fewest;
}
