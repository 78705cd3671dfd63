-- The claims: the frames that are handed on are the first ones, in order, and each message's own
-- are joined to it.
-- Assumes nothing.
use mathlib.Core.Path.{◌≡◌, refl, sym, ap, ◌∙◌, subst}
use mathlib.Core.Bool.{Bool, true, false, cond}
use mathlib.Core.List.{List, [], ◌∷◌, ◌++◌}
use Prim.Native.Nat.{ℕ, ◌≤◌}
use lib.ListN.{length, take, drop, take-append-drop}
use lib.Seq.{take_all}
use Rattle.frame_form.specs.declared.Form.{Form}
use Rattle.frame_form.specs.Forms.{form_valid}
use Rattle.frame.specs.Writing.{fits}
use Rattle.frame.specs.Reading.{read_of}
use Rattle.message.specs.declared.cutting.Start.{Start}
use Rattle.message.specs.Cutting.{data_of, frames_of}
use Rattle.message_claims.proofs.Claims.{frames-are-joined, reassembly}
use Rattle.resequencer.specs.declared.Resequencer.{Resequencer}
use Rattle.resequencer.specs.State.{fresh_state}
use Rattle.resequencer_claims.specs.Events.{Event, nothing, more}
use Rattle.transfer_claims.specs.Circuit.{Message, message_start, start_after, frames_sent, frame_answer, frames_handed_on, more_follows, parted}
use Rattle.transfer_claims.specs.Claims.{AllSendable, Sent, FramesAllowed, FramesAllowedList, Complete, JoinTo, JoinToEach, Begins, OneMessage, Messages, Transfer}
use Rattle.transfer_claims.proofs.Sending.{Numbered, numbered-one, parted-one, numbered-sent, after-sendable}
use Rattle.transfer_claims.proofs.Arriving.{handed-frames}
use Rattle.transfer_claims.proofs.InOrder.{possible}

-- ---- at every moment before: the beginning of an allowed list is allowed

allowed-first : (form : Form) (frames : List (List ℕ)) (s : Resequencer) (has : ℕ → Bool) (first last : List Event)
    → FramesAllowed form frames s has (first ++ last) → FramesAllowed form frames s has first
unfolding FramesAllowed
allowed-first form frames s has [] last ok = tt
allowed-first form frames s has (e ∷ es) last ok = (ok.0, allowed-first form frames (frame_answer form frames s e).next (more has e) es last ok.1)

module _ (form : Form) (frames : List (List ℕ)) (numbered : Numbered form 0 frames) (es : List Event) (ok : FramesAllowedList form frames es) where
  handed-first : (first last : List Event) → es ≡ first ++ last → (n : ℕ) × (frames_handed_on form frames first ≡ take n frames)
  handed-first first last e =
      let h = handed-frames form frames numbered first (allowed-first form frames fresh_state nothing first last (subst (FramesAllowedList form frames) e ok)) in
      (h.0, h.1)

  begins-first : (first last : List Event) → es ≡ first ++ last → Begins (frames_handed_on form frames first) frames
  begins-first first last e =
      let h = handed-first first last e in
      (drop h.0 frames, sym (ap (λ (l : List (List ℕ)). l ++ drop h.0 frames) h.1 ∙ take-append-drop h.0 frames))

  handed-all : Complete frames es → frames_handed_on form frames es ≡ frames
  handed-all all =
      let h = handed-frames form frames numbered es ok in
      h.1 ∙ take_all h.0 frames (h.2 all)

-- ---- a message's own frames are joined to it

message-joins : (form : Form) (s : Start) (message : List ℕ) → form_valid form ≡ true → fits form (data_of s false) 0 ≡ true → length message ≤ 4096
    → JoinTo form (frames_of form s message) message
message-joins form s message good fit small out enough = let j = frames-are-joined form s message out good fit small enough in (j.answer, j.output)

-- ---- all messages, divided into runs

-- the runs of a beginning of a list are a beginning of its runs
first_of : (b : Bool) (run : List (List ℕ)) (on on-all next next-all : List (List (List ℕ))) → Begins on on-all → Begins next next-all
    → Begins (cond b on (run ∷ next)) (cond b on-all (run ∷ next-all))
first_of true run on on-all next next-all x y = x
first_of false run on on-all next next-all x y = (y.0, ap (λ (l : List (List (List ℕ))). run ∷ l) y.1)

parted-first : (form : Form) (begun fs rest : List (List ℕ)) → Begins (parted form begun fs) (parted form begun (fs ++ rest))
unfolding parted
parted-first form begun [] rest = (parted form begun rest, refl)
parted-first form begun (f ∷ fs) rest =
    let run = begun ++ (f ∷ []) in
    first_of (more_follows (read_of form f)) run (parted form run fs) (parted form run (fs ++ rest)) (parted form [] fs) (parted form [] (fs ++ rest))
    (parted-first form run fs rest) (parted-first form [] fs rest)

-- runs that give the messages: the first runs give the first messages
each_first : (form : Form) (first last : List (List (List ℕ))) (ms : List Message) → JoinToEach form (first ++ last) ms
    → (out : List Message) × Begins out ms × JoinToEach form first out
unfolding JoinToEach
each_first form [] last ms h = ([], (ms, refl), tt)
each_first form (x ∷ xs) last [] h = absurd h
each_first form (x ∷ xs) last (m ∷ ms) h =
    let r = each_first form xs last ms h.1 in
    (m ∷ r.0, (r.1.0, ap (λ (l : List Message). m ∷ l) r.1.1), (h.0, r.2))

module _ (form : Form) (good : form_valid form ≡ true) where
  each-joins : (s : Start) (ms : List Message) → AllSendable form s ms → JoinToEach form (parted form [] (frames_sent form s ms)) ms
  unfolding frames_sent AllSendable JoinToEach
  each-joins s [] a = unfold parted in tt
  each-joins s (m ∷ ms) a =
      let fs = frames_of form (message_start s m) m.bytes in
      let rest = frames_sent form (start_after s fs) ms in
      subst (λ (runs : List (List (List ℕ))). JoinToEach form runs (m ∷ ms)) (sym (parted-one form good (message_start s m) m.bytes a.0.1 rest))
      (message-joins form (message_start s m) m.bytes good a.0.1 a.0.0, each-joins (start_after s fs) ms (after-sendable form s fs ms a.1))

-- ---- the claims

one-message : (form : Form) (s : Start) (message : List ℕ) (es : List Event) → form_valid form ≡ true → fits form (data_of s false) 0 ≡ true → s.sn.0 ≡ 0 → length message ≤ 4096
    → FramesAllowedList form (frames_of form s message) es → OneMessage form s message es
one-message form s message es good fit from_zero small ok =
    let frames = frames_of form s message in
    let numbered = numbered-one form good s message fit 0 from_zero in
    record {
      comes-out = λ all. subst (λ (fs : List (List ℕ)). JoinTo form fs message) (sym (handed-all form frames numbered es ok all)) (message-joins form s message good fit small);
      before = begins-first form frames numbered es ok;
    }

messages : (form : Form) (s : Start) (ms : List Message) (es : List Event) → Sent form s ms → FramesAllowedList form (frames_sent form s ms) es → Messages form s ms es
messages form s ms es sent ok =
    let frames = frames_sent form s ms in
    let good = sent.form-good in
    let numbered = numbered-sent form good s ms 0 sent.from_zero sent.sendable in
    let joins = each-joins form good s ms sent.sendable in
    record {
      handed-on = handed-all form frames numbered es ok;
      come-out = λ all. subst (λ (fs : List (List ℕ)). JoinToEach form (parted form [] fs) ms) (sym (handed-all form frames numbered es ok all)) joins;
      before = λ first last e.
          let b = begins-first form frames numbered es ok first last e in
          let runs = parted-first form [] (frames_handed_on form frames first) b.0 in (
            b,
            each_first form (parted form [] (frames_handed_on form frames first)) runs.0 ms
                (subst (λ (x : List (List (List ℕ))). JoinToEach form x ms) runs.1 (subst (λ (fs : List (List ℕ)). JoinToEach form (parted form [] fs) ms) b.1 joins)),
          );
    }

pub transfer : Transfer
transfer = record { cut = reassembly.is_cut; one-message = one-message; messages = messages; possible = possible }
