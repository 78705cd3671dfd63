-- The frames that are sent: their sequence numbers count up with their places, each reads as it was
-- written, and M divides them into messages.
-- Assumes nothing.
use mathlib.Core.Path.{◌≡◌, sym, ap, ◌∙◌, subst}
use mathlib.Core.Bool.{true, false, cond}
use mathlib.Core.List.{List, [], ◌∷◌, ◌++◌, append_assoc}
use Prim.Native.Nat.{ℕ, zero, suc, ◌+◌, ◌*◌, ◌%◌, ◌≤◌, ◌<◌}
use native.Mathlib.Nat.{add-zero, mod-add-mod}
use native.Mathlib.Omega.{arith}
use lib.ListN.{length, take, drop}
use Rattle.frame_form.specs.declared.Form.{Form}
use Rattle.frame_form.specs.Forms.{form_valid}
use Rattle.frame.specs.Writing.{fits, frame_of}
use Rattle.frame.specs.Reading.{read_of, sn_in}
use Rattle.message.specs.declared.cutting.Start.{Start}
use Rattle.message.specs.Cutting.{share_of, full_frames, data_of, next_start, frames_from, frames_of}
use Rattle.message.proofs.Sizes.{share_range}
use Rattle.message_claims.proofs.Shares.{shares-hold}
use Rattle.message_claims.proofs.Starts.{next_fits}
use Rattle.message_claims.proofs.Cutting.{share-reads, share-taken, share-left, one-share}
use Rattle.transfer_claims.specs.Circuit.{Message, message_start, start_after, frames_sent, frame_at, more_follows, parted}
use Rattle.transfer_claims.specs.Claims.{AllSendable}
use Rattle.frame.specs.Packets.{Read}

-- ---- sequence numbers

-- the frames have the sequence numbers of n, n + 1 and so on
unfoldable pub Numbered : Form → ℕ → List (List ℕ) → Type 0
Numbered form n [] = Unit {0}
Numbered form n (f ∷ fs) = (sn_in (read_of form f) ≡ n % 64) × Numbered form (suc n) fs

numbered-append : (form : Form) (n : ℕ) (fs gs : List (List ℕ)) → Numbered form n fs → Numbered form (n + length fs) gs → Numbered form n (fs ++ gs)
unfolding Numbered
numbered-append form n [] gs a b = subst (λ (x : ℕ). Numbered form x gs) (add-zero n) b
numbered-append form n (f ∷ fs) gs a b =
    let e : n + length (f ∷ fs) ≡ suc n + length fs = omega arith in
    (a.0, numbered-append form (suc n) fs gs a.1 (subst (λ (x : ℕ). Numbered form x gs) e b))

pub number_at : (form : Form) (n : ℕ) (fs : List (List ℕ)) (i : ℕ) → Numbered form n fs → i < length fs → sn_in (read_of form (frame_at fs i)) ≡ (n + i) % 64
unfolding Numbered
number_at form n [] i a h = absurd (omega arith)
number_at form n (f ∷ fs) zero a h = a.0 ∙ ap (λ (x : ℕ). x % 64) (sym (add-zero n))
number_at form n (f ∷ fs) (suc i) a h =
    let e : suc n + i ≡ n + suc i = omega arith in
    number_at form (suc n) fs i a.1 (omega arith) ∙ ap (λ (x : ℕ). x % 64) e

next-number : (sn n : ℕ) → sn ≡ n % 64 → (sn + 1) % 64 ≡ suc n % 64
next-number sn n e =
    let s : n + 1 ≡ suc n = omega arith in
    ap (λ (x : ℕ). (x + 1) % 64) e ∙ mod-add-mod n 64 1 ∙ ap (λ (x : ℕ). x % 64) s

-- ---- the numbers after some frames

after-number : (s : Start) (fs : List (List ℕ)) (n : ℕ) → s.sn.0 ≡ n % 64 → (start_after s fs).sn.0 ≡ (n + length fs) % 64
unfolding start_after
after-number s [] n e = e ∙ ap (λ (x : ℕ). x % 64) (sym (add-zero n))
after-number s (f ∷ fs) n e =
    let q : suc n + length fs ≡ n + length (f ∷ fs) = omega arith in
    after-number (next_start s) fs (suc n) (next-number s.sn.0 n e) ∙ ap (λ (x : ℕ). x % 64) q

next-sendable : (form : Form) (s : Start) (ms : List Message) → AllSendable form s ms → AllSendable form (next_start s) ms
unfolding AllSendable
next-sendable form s [] a = tt
next-sendable form s (m ∷ ms) a = ((a.0.0, next_fits form (message_start s m) a.0.1), next-sendable form s ms a.1)

pub after-sendable : (form : Form) (s : Start) (fs : List (List ℕ)) (ms : List Message) → AllSendable form s ms → AllSendable form (start_after s fs) ms
unfolding start_after
after-sendable form s [] ms a = a
after-sendable form s (f ∷ fs) ms a = after-sendable form (next_start s) fs ms (next-sendable form s ms a)

-- ---- the frames of one message

module _ (form : Form) (good : form_valid form ≡ true) where
  numbered-from : (k : ℕ) (s : Start) (message : List ℕ) (n : ℕ) → fits form (data_of s false) 0 ≡ true → s.sn.0 ≡ n % 64 → length message ≤ suc k * share_of form
      → Numbered form n (frames_from form k s message)
  unfolding Numbered frames_from
  numbered-from zero s message n fit e small = (ap sn_in (share-reads form good s fit false message (one-share (share_of form) message small)) ∙ e, tt)
  numbered-from (suc k) s message n fit e small =
      let share = share_of form in (
        ap sn_in (share-reads form good s fit true (take share message) (share-taken share message)) ∙ e,
        numbered-from k (next_start s) (drop share message) (suc n) (next_fits form s fit) (next-number s.sn.0 n e) (share-left share k message small),
      )

  -- a run of frames ends with the last of a message
  parted-from : (k : ℕ) (s : Start) (message : List ℕ) (begun rest : List (List ℕ)) → fits form (data_of s false) 0 ≡ true → length message ≤ suc k * share_of form
      → parted form begun (frames_from form k s message ++ rest) ≡ (begun ++ frames_from form k s message) ∷ parted form [] rest
  unfolding parted frames_from
  parted-from zero s message begun rest fit small =
      let f = frame_of form (data_of s false) message in
      ap (λ (r : Read). cond (more_follows r) (parted form (begun ++ (f ∷ [])) rest) ((begun ++ (f ∷ [])) ∷ parted form [] rest))
      (share-reads form good s fit false message (one-share (share_of form) message small))
  parted-from (suc k) s message begun rest fit small =
      let share = share_of form in
      let f = frame_of form (data_of s true) (take share message) in
      let fs = frames_from form k (next_start s) (drop share message) in
      ap (λ (r : Read). cond (more_follows r) (parted form (begun ++ (f ∷ [])) (fs ++ rest)) ((begun ++ (f ∷ [])) ∷ parted form [] (fs ++ rest)))
      (share-reads form good s fit true (take share message) (share-taken share message))
      ∙ parted-from k (next_start s) (drop share message) (begun ++ (f ∷ [])) rest (next_fits form s fit) (share-left share k message small)
      ∙ ap (λ (l : List (List ℕ)). l ∷ parted form [] rest) (append_assoc begun (f ∷ []) fs)

  module _ (s : Start) (message : List ℕ) (fit : fits form (data_of s false) 0 ≡ true) where
    enough : length message ≤ suc (full_frames (share_of form) (length message)) * share_of form
    enough = let some : 1 ≤ share_of form = omega (arith, (share_range form good).0) in shares-hold (share_of form) (length message) some

    pub numbered-one : (n : ℕ) → s.sn.0 ≡ n % 64 → Numbered form n (frames_of form s message)
    unfolding frames_of
    numbered-one n e = numbered-from (full_frames (share_of form) (length message)) s message n fit e enough

    pub parted-one : (rest : List (List ℕ)) → parted form [] (frames_of form s message ++ rest) ≡ frames_of form s message ∷ parted form [] rest
    unfolding frames_of
    parted-one rest = parted-from (full_frames (share_of form) (length message)) s message [] rest fit enough

  -- ---- the frames of all messages

  pub numbered-sent : (s : Start) (ms : List Message) (n : ℕ) → s.sn.0 ≡ n % 64 → AllSendable form s ms → Numbered form n (frames_sent form s ms)
  unfolding frames_sent AllSendable
  numbered-sent s [] n e a = unfold Numbered in tt
  numbered-sent s (m ∷ ms) n e a =
      let fs = frames_of form (message_start s m) m.bytes in
      numbered-append form n fs (frames_sent form (start_after s fs) ms)
      (numbered-one (message_start s m) m.bytes a.0.1 n e)
      (numbered-sent (start_after s fs) ms (n + length fs) (after-number s fs n e) (after-sendable form s fs ms a.1))
