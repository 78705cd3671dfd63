-- The bytes of a table: where each set is stored, and how all sets are read or written one after
-- another.
-- Assumes nothing.
use mathlib.Core.Path.{◌≡◌, refl, sym, ap, ap₂, ◌∙◌}
use mathlib.Core.List.{List, [], ◌∷◌, ◌++◌, append_assoc}
use Prim.Native.Nat.{ℕ, ◌+◌, ◌*◌, ◌/◌, ◌%◌, ◌≤◌, ◌<◌}
use native.Mathlib.Omega.{arith}
use lib.ListN.{length, get_or, take, drop, set, length-append}
use lib.Seq.{length-take-le}
use Rattle.lists.specs.Lists.{list_from}
use Rattle.lists.proofs.Lists.{is-from}
use Rattle.little.specs.Little.{little_of, little_bytes, list_bytes}
use Rattle.little.proofs.Little.{length-list, length-list_bytes}
use Rattle.little.proofs.Places.{list_at, byte-first, list-next, put_next}
use Rattle.route.specs.Updating.{codes_of}
use Rattle.route_bytes.specs.Stored.{table_in}

-- ---- read

-- an address's set is stored in two bytes
pub set-bytes : (b : List ℕ) (a : ℕ) → length b ≡ 512 → a < 256 → get_or b (a * 2) 0 + 256 * get_or b (a * 2 + 1) 0 ≡ codes_of (table_in b) a
unfolding little_of
set-bytes b a e h =
    let first = byte-first 1 (a * 2) b (omega arith) in
    let second = byte-first 0 (a * 2 + 1) b (omega arith) in
    let value : little_of (take 2 (drop (a * 2) b)) ≡ get_or b (a * 2) 0 + 256 * get_or b (a * 2 + 1) 0 = omega (arith, first, second) in
    sym (list_at 2 256 b a h ∙ value)

-- all sets
pub sets-read : (b : List ℕ) → list_from 0 256 (codes_of (table_in b)) ≡ (table_in b).codes
sets-read b = sym (is-from 256 (table_in b).codes (codes_of (table_in b)) (length-list 2 256 b) (λ i h. refl))

-- ---- written

-- the first a sets are written over the front of lent memory
abbrev pub written : List ℕ → List ℕ → ℕ → List ℕ
written codes out a = list_bytes 2 (take a codes) ++ drop (a * 2) out

pub written_next : (codes out now : List ℕ) (a : ℕ) → a < length codes → length codes * 2 ≤ length out → get_or codes a 0 < 65536 → now ≡ written codes out a
    → set (set now (a * 2) (get_or codes a 0 % 256)) (a * 2 + 1) (get_or codes a 0 / 256) ≡ written codes out (a + 1)
unfolding little_bytes
written_next codes out now a h l w e =
    let x = get_or codes a 0 in
    let p = list_bytes 2 (take a codes) in
    let n : length p ≡ a * 2 = omega (arith, length-list_bytes 2 (take a codes), length-take-le a codes (omega arith)) in
    let m : length (p ++ (x % 256 ∷ [])) ≡ a * 2 + 1 = omega (arith, length-append p (x % 256 ∷ [])) in
    let high : x / 256 ≡ x / 256 % 256 = omega arith in
    let end : a * 2 + 1 + 1 ≡ (a + 1) * 2 = omega arith in
    ap (λ (t : List ℕ). set (set t (a * 2) (x % 256)) (a * 2 + 1) (x / 256)) e
    ∙ ap (λ (t : List ℕ). set t (a * 2 + 1) (x / 256)) (put_next p out (a * 2) (x % 256) n (omega arith))
    ∙ put_next (p ++ (x % 256 ∷ [])) out (a * 2 + 1) (x / 256) m (omega arith)
    ∙ ap₂ (λ (t : List ℕ) (k : ℕ). t ++ drop k out)
    (append_assoc p (x % 256 ∷ []) (x / 256 ∷ []) ∙ ap (λ (y : ℕ). p ++ (x % 256 ∷ y ∷ [])) high ∙ sym (list-next 2 a codes h)) end
