-- Reading a state from its bytes, field by field.
-- Assumes nothing.
use mathlib.Core.Path.{◌≡◌, refl, sym, ap, ap₂, ◌∙◌}
use mathlib.Core.List.{List, [], ◌∷◌}
use Prim.Native.Nat.{ℕ, suc, ◌+◌, ◌*◌, ◌≤◌, ◌<◌}
use native.Mathlib.Omega.{arith}
use lib.ListN.{length, get_or, take, drop}
use lib.Seq.{drop-drop}
use Rattle.std.specs.Int.{w16, w64, from_le_bytes}
use Rattle.little.specs.Little.{little_of}
use Rattle.little.proofs.Places.{list_at, byte-first}
use Rattle.sequence.specs.Numbers.{link}
use Rattle.resequencer.specs.declared.Numbers.{Numbers}
use Rattle.resequencer.specs.Numbers.{numbers_of}
use Rattle.resequencer_bytes.specs.Stored.{state_in}
use Rattle.resequencer_bytes.specs.Parts.{tickets_in}

-- one byte of a number, where m is the index after n
next-byte : (k n m : ℕ) (b : List ℕ) → n < length b → m ≡ n + 1 → little_of (take (suc k) (drop n b)) ≡ get_or b n 0 + 256 * little_of (take k (drop m b))
next-byte k n m b h e = byte-first k n b h ∙ ap (λ (j : ℕ). get_or b n 0 + 256 * little_of (take k (drop j b))) (sym e)

-- no byte is left
none-left : (b : List ℕ) → little_of (take 0 b) ≡ 0
unfolding little_of
none-left b = refl

module _ (b : List ℕ) (at : ℕ) where
  -- the number that two bytes encode
  pub two-bytes : at + 2 ≤ length b → from_le_bytes w16 (get_or b at 0 ∷ get_or b (at + 1) 0 ∷ []) ≡ little_of (take 2 (drop at b))
  two-bytes h =
      omega (
        arith,
        next-byte 1 at (at + 1) b (omega arith) refl,
        next-byte 0 (at + 1) (at + 2) b (omega arith) (omega arith),
        none-left (drop (at + 2) b),
      )

  -- the number that eight bytes encode
  pub eight-bytes : at + 8 ≤ length b
      → from_le_bytes w64 (get_or b at 0 ∷ get_or b (at + 1) 0 ∷ get_or b (at + 2) 0 ∷ get_or b (at + 3) 0 ∷ get_or b (at + 4) 0 ∷ get_or b (at + 5) 0 ∷ get_or b (at + 6) 0 ∷ get_or b (at + 7) 0 ∷ [])
      ≡ little_of (take 8 (drop at b))
  eight-bytes h =
      omega (
        arith,
        next-byte 7 at (at + 1) b (omega arith) refl,
        next-byte 6 (at + 1) (at + 2) b (omega arith) (omega arith),
        next-byte 5 (at + 2) (at + 3) b (omega arith) (omega arith),
        next-byte 4 (at + 3) (at + 4) b (omega arith) (omega arith),
        next-byte 3 (at + 4) (at + 5) b (omega arith) (omega arith),
        next-byte 2 (at + 5) (at + 6) b (omega arith) (omega arith),
        next-byte 1 (at + 6) (at + 7) b (omega arith) (omega arith),
        next-byte 0 (at + 7) (at + 8) b (omega arith) (omega arith),
        none-left (drop (at + 8) b),
      )

-- the ticket of number n is in the two bytes at index 18 + 2 * n
pub ticket-bytes : (b : List ℕ) (n : ℕ) → length b ≡ 146 → n < 64
    → from_le_bytes w16 (get_or b (18 + 2 * n) 0 ∷ get_or b (18 + 2 * n + 1) 0 ∷ []) ≡ get_or (tickets_in (drop 18 b)) n 0
ticket-bytes b n l h =
    let e : 18 + 2 * n ≡ 18 + n * 2 = omega arith in
    two-bytes b (18 + 2 * n) (omega arith)
    ∙ ap (λ (j : ℕ). little_of (take 2 (drop j b))) e
    ∙ ap (λ (r : List ℕ). little_of (take 2 r)) (sym (drop-drop (n * 2) 18 b))
    ∙ sym (list_at 2 64 (drop 18 b) n h)

-- the fields read are those of the state
pub read-numbers : (b : List ℕ) (held clocks : ℕ) → held ≡ little_of (take 8 (drop 2 b)) → clocks ≡ little_of (take 8 (drop 10 b))
    → ◌≡◌ {A = Numbers} (record { nesn = link (get_or b 0 0); hsnr = link (get_or b 1 0); held = held; clocks = clocks }) (numbers_of (state_in b))
unfolding state_in
read-numbers b held clocks h c = ap₂ (λ (x y : ℕ). record { nesn = link (get_or b 0 0); hsnr = link (get_or b 1 0); held = x; clocks = y }) h c
