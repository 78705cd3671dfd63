-- What holds of every kind: the facts of each are found by computation, a line a kind, and the laws
-- follow from them.
-- Assumes nothing.
use mathlib.Core.Path.{◌≡◌, refl, sym, ap, ◌∙◌, subst}
use mathlib.Core.Bool.{Bool, true, false, cond}
use mathlib.Core.List.{List, [], ◌∷◌}
use Prim.Native.Nat.{ℕ, zero, suc, ◌+◌, ◌^◌, ◌<◌, ◌≤◌}
use native.Mathlib.Numerals.{add-one}
use native.Mathlib.Omega.{arith}
use lib.Dec.{ltb, eqb}
use lib.ListN.{length, get_or, drop}
use lib.Seq.{get_or-drop, drop-drop}
use borrow.Author.Tests.{ltb-true, eqb-true}
use Rattle.refusal.proofs.Checks.{both_true}
use Rattle.frame_fields.specs.Layouts.{Field, fixed, free, lv, fields, within}
use Rattle.frame_form.specs.declared.Form.{Form}
use Rattle.frame_form.specs.Forms.{is_uplink}
use Rattle.frame_kinds.specs.declared.Kind.{Kind}
use Rattle.frame_kinds.specs.declared.Kind.TheVariants.{Data as DataKind, ClearRequest as ClearRequestKind, ClearConfirmation as ClearConfirmationKind, CallRequest as CallRequestKind, CallAccept as CallAcceptKind, ReceiveReady as ReceiveReadyKind, ReceiveNotReady as ReceiveNotReadyKind, Reject as RejectKind, Interrupt as InterruptKind, InterruptConfirmation as InterruptConfirmationKind, Reset as ResetKind, ResetConfirmation as ResetConfirmationKind}
use Rattle.frame.specs.declared.Packet.{Packet}
use Rattle.frame.specs.declared.Data.{Data as DataFields}
use Rattle.frame.specs.declared.Packet.TheVariants.{Data, ClearRequest, ClearConfirmation, CallRequest, CallAccept, ReceiveReady, ReceiveNotReady, Reject, Interrupt, InterruptConfirmation, Reset, ResetConfirmation}
use Rattle.little.specs.Little.{flag}
use Rattle.frame_kinds.specs.Kinds.{layout_in, layout_of, free_count, value_count}
use Rattle.frame_kinds.proofs.Table.{count-in}
use Rattle.frame.specs.Packets.{kind_of, values_of, packet_of, as_data}
use Rattle.std.specs.Prelude.{Some}

-- ---- flags

-- a flag is read back from its bit
pub flag-read : (b : Bool) → eqb (flag b) 1 ≡ b
flag-read true = refl
flag-read false = refl

-- the flag read from a bit has that bit
pub bit-read : (x : ℕ) → x < 2 → flag (eqb x 1) ≡ x
bit-read zero h = refl
bit-read (suc zero) h = refl
bit-read (suc (suc x)) h = absurd (omega arith)

-- ---- the facts of each kind

-- the values that a packet keeps of those from the i-th on: a value of one bit as a flag
abbrev pub kept : List Field → List ℕ → ℕ → List ℕ
kept [] vs i = []
kept (fixed w v ∷ fs) vs i = kept fs vs i
kept (lv w ∷ fs) vs i = kept fs vs i
kept (free w ∷ fs) vs i = cond (eqb w 1) (flag (eqb (get_or vs i 0) 1)) (get_or vs i 0) ∷ kept fs vs (suc i)

-- a packet made of values has the kind, and keeps them
pub record Facts (up : Bool) (k : Kind) : Type 0 where
  pub made : (vs : List ℕ) → kind_of (packet_of k vs) ≡ k
  pub keeps : (vs : List ℕ) → values_of (packet_of k vs) ≡ kept (fields (layout_in up k)) vs 0

-- by computation
pub facts : (up : Bool) (k : Kind) → Facts up k
facts up DataKind = record { made = λ vs. refl; keeps = λ vs. refl }
facts up ClearRequestKind = record { made = λ vs. refl; keeps = λ vs. refl }
facts up ClearConfirmationKind = record { made = λ vs. refl; keeps = λ vs. refl }
facts true CallRequestKind = record { made = λ vs. refl; keeps = λ vs. refl }
facts false CallRequestKind = record { made = λ vs. refl; keeps = λ vs. refl }
facts true CallAcceptKind = record { made = λ vs. refl; keeps = λ vs. refl }
facts false CallAcceptKind = record { made = λ vs. refl; keeps = λ vs. refl }
facts up ReceiveReadyKind = record { made = λ vs. refl; keeps = λ vs. refl }
facts up ReceiveNotReadyKind = record { made = λ vs. refl; keeps = λ vs. refl }
facts up RejectKind = record { made = λ vs. refl; keeps = λ vs. refl }
facts up InterruptKind = record { made = λ vs. refl; keeps = λ vs. refl }
facts up InterruptConfirmationKind = record { made = λ vs. refl; keeps = λ vs. refl }
facts up ResetKind = record { made = λ vs. refl; keeps = λ vs. refl }
facts up ResetConfirmationKind = record { made = λ vs. refl; keeps = λ vs. refl }

-- a packet is made of its kind and its values
pub packet-made : (p : Packet) → packet_of (kind_of p) (values_of p) ≡ p
packet-made (Data d) = simp flag-read
packet-made (ClearRequest d) = simp flag-read
packet-made (ClearConfirmation d) = refl
packet-made (CallRequest d) = simp flag-read
packet-made (CallAccept d) = simp flag-read
packet-made (ReceiveReady d) = refl
packet-made (ReceiveNotReady d) = refl
packet-made (Reject d) = refl
packet-made (Interrupt d) = simp flag-read
packet-made (InterruptConfirmation d) = refl
packet-made (Reset d) = refl
packet-made (ResetConfirmation d) = refl

-- ---- what follows for every kind

-- a kind's packet is of that kind, and has the values of which it was made
pub kind-made : (k : Kind) (vs : List ℕ) → kind_of (packet_of k vs) ≡ k
kind-made k vs = (facts true k).made vs

-- a value within its width is kept as it is
kept-value : (w v : ℕ) → v < 2 ^ w → cond (eqb w 1) (flag (eqb v 1)) v ≡ v
kept-value w v h = go (eqb w 1) refl
  where
    go : (b : Bool) → eqb w 1 ≡ b → cond b (flag (eqb v 1)) v ≡ v
    go true e = bit-read v (subst (λ (x : ℕ). v < 2 ^ x) (eqb-true w 1 e) h)
    go false e = refl

-- all values within their widths are kept as they are
kept-all : (fs : List Field) (vs : List ℕ) (i : ℕ) (ds : List ℕ) → drop i vs ≡ ds → within fs ds ≡ true → kept fs vs i ≡ ds
kept-all [] vs i [] e h = refl
kept-all [] vs i (d ∷ ds) e h = let z : ◌≡◌ {A = ℕ} 0 1 = cc in absurd (omega arith)
kept-all (fixed w v ∷ fs) vs i ds e h = kept-all fs vs i ds e h
kept-all (lv w ∷ fs) vs i ds e h = kept-all fs vs i ds e h
kept-all (free w ∷ fs) vs i [] e h = let z : ◌≡◌ {A = ℕ} 0 1 = cc in absurd (omega arith)
kept-all (free w ∷ fs) vs i (d ∷ ds) e h =
    let p = both_true (ltb d (2 ^ w)) (within fs ds) h in
    let n : i + 0 ≡ i = omega arith in
    let here : get_or vs i 0 ≡ d = sym (ap (λ (j : ℕ). get_or vs j 0) n) ∙ sym (get_or-drop i vs 0 0) ∙ ap (λ (l : List ℕ). get_or l 0 0) e in
    let rest : drop (suc i) vs ≡ ds = sym (ap (λ (j : ℕ). drop j vs) (add-one i)) ∙ sym (drop-drop 1 i vs) ∙ ap (drop 1) e in
    let value : cond (eqb w 1) (flag (eqb (get_or vs i 0) 1)) (get_or vs i 0) ≡ d =
    ap (λ (x : ℕ). cond (eqb w 1) (flag (eqb x 1)) x) here ∙ kept-value w d (ltb-true d (2 ^ w) p.0) in
    λ j. value j ∷ kept-all fs vs (suc i) ds rest p.1 j

pub values-made : (form : Form) (k : Kind) (vs : List ℕ) → within (fields (layout_of form k)) vs ≡ true → values_of (packet_of k vs) ≡ vs
values-made form k vs h = (facts (is_uplink form) k).keeps vs ∙ kept-all (fields (layout_of form k)) vs 0 vs refl h

-- ---- a packet's values, and what follows them

-- a packet keeps no more values than there are free fields
kept_same : (fs : List Field) (vs ws : List ℕ) (c i : ℕ) → ((j : ℕ) → j < c → get_or vs j 0 ≡ get_or ws j 0) → i + free_count fs ≤ c → kept fs vs i ≡ kept fs ws i
kept_same [] vs ws c i same h = refl
kept_same (fixed w v ∷ fs) vs ws c i same h = kept_same fs vs ws c i same h
kept_same (lv w ∷ fs) vs ws c i same h = kept_same fs vs ws c i same h
kept_same (free w ∷ fs) vs ws c i same h =
    let here : get_or vs i 0 ≡ get_or ws i 0 = same i (omega arith) in
    λ j. cond (eqb w 1) (flag (eqb (here j) 1)) (here j) ∷ kept_same fs vs ws c (suc i) same (omega arith) j

kept-length : (fs : List Field) (vs : List ℕ) (i : ℕ) → length (kept fs vs i) ≡ free_count fs
kept-length [] vs i = refl
kept-length (fixed w v ∷ fs) vs i = kept-length fs vs i
kept-length (lv w ∷ fs) vs i = kept-length fs vs i
kept-length (free w ∷ fs) vs i = ap suc (kept-length fs vs (suc i))

-- a packet has as many values as its kind
pub counted : (p : Packet) → length (values_of p) ≡ value_count (kind_of p)
counted p =
    let k = kind_of p in
    ap (λ (q : Packet). length (values_of q)) (sym (packet-made p)) ∙ ap length ((facts true k).keeps (values_of p))
    ∙ kept-length (fields (layout_in true k)) (values_of p) 0 ∙ count-in true k

-- lists with the same values make the same packet
pub values_same : (k : Kind) (vs ws : List ℕ) → ((j : ℕ) → j < value_count k → get_or vs j 0 ≡ get_or ws j 0) → values_of (packet_of k vs) ≡ values_of (packet_of k ws)
values_same k vs ws same =
    let few : 0 + free_count (fields (layout_in true k)) ≤ value_count k = omega (arith, count-in true k) in
    (facts true k).keeps vs ∙ kept_same (fields (layout_in true k)) vs ws (value_count k) 0 same few ∙ sym ((facts true k).keeps ws)

made_of : (k : Kind) (vs : List ℕ) → packet_of k (values_of (packet_of k vs)) ≡ packet_of k vs
made_of k vs = ap (λ (j : Kind). packet_of j (values_of (packet_of k vs))) (sym (kind-made k vs)) ∙ packet-made (packet_of k vs)

pub packet-same : (k : Kind) (vs ws : List ℕ) → ((j : ℕ) → j < value_count k → get_or vs j 0 ≡ get_or ws j 0) → packet_of k vs ≡ packet_of k ws
packet-same k vs ws same = sym (made_of k vs) ∙ ap (packet_of k) (values_same k vs ws same) ∙ made_of k ws

-- ---- the DATA packet

pub data_is : (p : Packet) (d : DataFields) → as_data p ≡ Some d → p ≡ Data d
data_is (Data e) d h = cc
data_is (ClearRequest e) d h = let z : ◌≡◌ {A = ℕ} 0 1 = cc in absurd (omega arith)
data_is (ClearConfirmation e) d h = let z : ◌≡◌ {A = ℕ} 0 1 = cc in absurd (omega arith)
data_is (CallRequest e) d h = let z : ◌≡◌ {A = ℕ} 0 1 = cc in absurd (omega arith)
data_is (CallAccept e) d h = let z : ◌≡◌ {A = ℕ} 0 1 = cc in absurd (omega arith)
data_is (ReceiveReady e) d h = let z : ◌≡◌ {A = ℕ} 0 1 = cc in absurd (omega arith)
data_is (ReceiveNotReady e) d h = let z : ◌≡◌ {A = ℕ} 0 1 = cc in absurd (omega arith)
data_is (Reject e) d h = let z : ◌≡◌ {A = ℕ} 0 1 = cc in absurd (omega arith)
data_is (Interrupt e) d h = let z : ◌≡◌ {A = ℕ} 0 1 = cc in absurd (omega arith)
data_is (InterruptConfirmation e) d h = let z : ◌≡◌ {A = ℕ} 0 1 = cc in absurd (omega arith)
data_is (Reset e) d h = let z : ◌≡◌ {A = ℕ} 0 1 = cc in absurd (omega arith)
data_is (ResetConfirmation e) d h = let z : ◌≡◌ {A = ℕ} 0 1 = cc in absurd (omega arith)

-- a packet that is DATA was made of that kind
pub data-kind : (k : Kind) (vs : List ℕ) (d : DataFields) → as_data (packet_of k vs) ≡ Some d → k ≡ DataKind
data-kind k vs d h = sym (kind-made k vs) ∙ ap kind_of (data_is (packet_of k vs) d h)
