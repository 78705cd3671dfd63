-- What the copying loop keeps: the user data copied so far is at the front of the lent output,
-- behind it the output is as before; the frames still to come are DATA.
-- Assumes nothing.
use mathlib.Core.Path.{◌≡◌, refl, sym, ap, ap₂, ◌∙◌}
use mathlib.Core.Bool.{true}
use mathlib.Core.List.{List, [], ◌++◌, append_assoc, append-nil}
use Prim.Native.Nat.{ℕ, ◌+◌, ◌-◌, ◌≤◌, ◌<◌}
use native.Mathlib.Omega.{arith}
use lib.ListN.{length, take, drop, get_or, length-append, length-drop}
use lib.Seq.{paste}
use Rattle.lists.proofs.Copying.{paste-after}
use Rattle.lists.specs.Lists.{over}
use Rattle.lists.specs.Frames.{parts_of, sum}
use Rattle.frame_form.specs.declared.Form.{Form}
use Rattle.frame.specs.Reading.{read_of}
use Rattle.message.specs.Joining.{message_in, user_in}
use Rattle.message.specs.JoiningParts.{is_data, all_data}
use Rattle.message.proofs.Places.{from, At, from-here, from_end, at-start, at_next, part-is}
use Rattle.message.proofs.Users.{data-parts}

pub record Copying (form : Form) (ls bytes out₀ out : List ℕ) (at p i : ℕ) : Type 0 where
  pub place : At ls bytes p i
  pub copied : List ℕ
  pub long : length copied ≡ at
  pub text : out ≡ copied ++ drop at out₀
  pub data-left : all_data form (from ls bytes p i) ≡ true
  pub whole : copied ++ message_in form (from ls bytes p i) ≡ message_in form (parts_of ls bytes)

pub starts : (form : Form) (ls bytes out₀ : List ℕ) → sum ls ≡ length bytes → all_data form (parts_of ls bytes) ≡ true → Copying form ls bytes out₀ out₀ 0 0 0
starts form ls bytes out₀ e d = record { place = at-start ls bytes e; copied = []; long = refl; text = refl; data-left = d; whole = refl }

module _ (form : Form) (ls bytes out₀ out : List ℕ) (at p i : ℕ) (v : Copying form ls bytes out₀ out at p i) (h : i < length ls) where
  more : (v.copied ++ user_in form (take (p + get_or ls i 0 - p) (drop p bytes))) ++ message_in form (from ls bytes (p + get_or ls i 0) (i + 1)) ≡ message_in form (parts_of ls bytes)
  unfolding message_in
  more =
      let frame = take (get_or ls i 0) (drop p bytes) in
      let rest = message_in form (from ls bytes (p + get_or ls i 0) (i + 1)) in
      append_assoc v.copied (user_in form (take (p + get_or ls i 0 - p) (drop p bytes))) rest
      ∙ ap (λ (f : List ℕ). v.copied ++ (user_in form f ++ rest)) (part-is bytes p (get_or ls i 0))
      ∙ ap (λ (fs : List (List ℕ)). v.copied ++ message_in form fs) (sym (from-here ls bytes p i h))
      ∙ v.whole

  -- the frame is DATA, and so are those after it
  data-here : (is_data (read_of form (take (get_or ls i 0) (drop p bytes))) ≡ true) × (all_data form (from ls bytes (p + get_or ls i 0) (i + 1)) ≡ true)
  data-here =
      data-parts form (take (get_or ls i 0) (drop p bytes)) (from ls bytes (p + get_or ls i 0) (i + 1))
      (sym (ap (all_data form) (from-here ls bytes p i h)) ∙ v.data-left)

  pub is-data : is_data (read_of form (take (p + get_or ls i 0 - p) (drop p bytes))) ≡ true
  is-data = ap (λ (f : List ℕ). is_data (read_of form f)) (part-is bytes p (get_or ls i 0)) ∙ data-here.0

  -- there is room for the frame's user data
  pub asks : length (message_in form (parts_of ls bytes)) ≤ length out₀
      → (at + length (user_in form (take (p + get_or ls i 0 - p) (drop p bytes))) ≤ length out) × (length out ≡ length out₀)
  asks room =
      let user = user_in form (take (p + get_or ls i 0 - p) (drop p bytes)) in
      let rest = message_in form (from ls bytes (p + get_or ls i 0) (i + 1)) in
      let total : length v.copied + length user + length rest ≡ length (message_in form (parts_of ls bytes)) = simp length-append at (ap length more) in
      let same : length out ≡ length v.copied + (length out₀ - at) = ap length v.text ∙ length-append v.copied (drop at out₀) ∙ ap (λ (x : ℕ). length v.copied + x) (length-drop at out₀) in
      (omega (arith, total, same, v.long, room), omega (arith, total, same, v.long, room))

  pub turns : (out1 : List ℕ) (n : ℕ) → n ≡ length (user_in form (take (p + get_or ls i 0 - p) (drop p bytes)))
      → out1 ≡ paste out at (user_in form (take (p + get_or ls i 0 - p) (drop p bytes))) (length (user_in form (take (p + get_or ls i 0 - p) (drop p bytes))))
      → Copying form ls bytes out₀ out1 (at + n) (p + get_or ls i 0) (i + 1)
  turns out1 n en eo =
      let user = user_in form (take (p + get_or ls i 0 - p) (drop p bytes)) in
      record {
        place = at_next ls bytes p i v.place h;
        copied = v.copied ++ user;
        long = length-append v.copied user ∙ ap₂ (λ (x y : ℕ). x + y) v.long (sym en);
        text =
            eo ∙ ap (λ (o : List ℕ). paste o at user (length user)) v.text ∙ paste-after v.copied out₀ user at v.long
            ∙ ap (λ (x : ℕ). (v.copied ++ user) ++ drop (at + x) out₀) (sym en);
        data-left = data-here.1;
        whole = more;
      }

pub ends : (form : Form) (ls bytes out₀ out : List ℕ) (at p i : ℕ) → Copying form ls bytes out₀ out at p i → length ls ≤ i
    → out ≡ over (message_in form (parts_of ls bytes)) out₀
unfolding message_in
ends form ls bytes out₀ out at p i v h =
    let all : v.copied ≡ message_in form (parts_of ls bytes) =
    sym (append-nil v.copied) ∙ ap (λ (fs : List (List ℕ)). v.copied ++ message_in form fs) (sym (from_end ls bytes p i h)) ∙ v.whole in
    v.text ∙ ap₂ (λ (x : List ℕ) (k : ℕ). x ++ drop k out₀) all (sym v.long ∙ ap length all)
