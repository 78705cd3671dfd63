-- `frame_writer::put_route` meets its contract: as in `put_frame`, the last segment is cleared
-- first.
-- Assumes nothing.
use mathlib.Core.Path.{◌≡◌, sym, ap, ◌∙◌, subst}
use mathlib.Core.List.{List, ◌∷◌, ◌++◌}
use Prim.Native.Nat.{ℕ, ◌+◌, ◌-◌, ◌≤◌}
use native.Mathlib.Omega.{arith}
use lib.ListN.{length, drop, replicate, length-append}
use lib.Seq.{paste}
use borrow.Author.Rules.{rules}
use Rattle.frame_fields.specs.Rows.{bytes_of}
use Rattle.frame_fields.proofs.Rows.{bytes-length}
use Rattle.frame_fields.proofs.Bytes.{bytes_high}
use Rattle.frame_form.specs.Forms.{long_segment}
use Rattle.frame_writer.proofs.Writing.{cleared, three-parts}
use Rattle.frame_writer.proofs.put_route.Goals as goal

-- the laws for user data of m bytes
as-user : (h d o k : List ℕ) (m pad : ℕ) → m ≡ length d → length h ≡ 2 → 8 ≤ length k → 8 ≤ 2 + m + pad → drop (2 + m) k ≡ replicate pad 0 ++ drop (2 + m + pad) o
    → paste ((h ++ replicate (8 - 2) 0) ++ drop 8 k) 2 d m ≡ (h ++ (d ++ replicate pad 0)) ++ drop (2 + m + pad) o
as-user h d o k m pad e wide room some rest =
    subst (λ (x : ℕ). drop (2 + x) k ≡ replicate pad 0 ++ drop (2 + x + pad) o → 8 ≤ 2 + x + pad
    → paste ((h ++ replicate (8 - 2) 0) ++ drop 8 k) 2 d x ≡ (h ++ (d ++ replicate pad 0)) ++ drop (2 + x + pad) o) (sym e)
    (λ r q. three-parts h d o k 2 pad wide (omega arith) room q r) rest some

pub returns : goal.returns
returns c =
    let a = c.args in
    let t : List ℕ = a.table.now in
    let d : List ℕ = t ++ (length a.extra.now ∷ a.extra.now) in
    let m = length t + (1 + length a.extra.now) in
    let long : m ≡ length d = omega (arith, length-append t (length a.extra.now ∷ a.extra.now)) in
    let p = c.requires.pad_le_long_segment in
    let k : List ℕ = c.clear.new.out in
    c.put_strings.ensures
    ∙ ap (λ (l : List ℕ). paste l 2 d m) (c.put_eight.ensures ∙ ap (λ (l : List ℕ). l ++ drop 8 k) (bytes_high 2 a.header (omega arith)))
    ∙ as-user (bytes_of 2 a.header) d a.out.now k m a.pad long (bytes-length 2 a.header) (search rules) (omega (arith, p.1))
    (ap (drop (2 + m)) c.clear.ensures ∙ cleared a.out.now (2 + m) long_segment a.pad p.0 p.1 p.2)
