-- A state written is read back the same, and bytes read are written back the same.
-- Assumes nothing.
use mathlib.Core.Path.{◌≡◌, sym, ap, ap₂, ◌∙◌}
use mathlib.Core.List.{List, ◌∷◌, ◌++◌}
use Prim.Native.Nat.{ℕ, ◌+◌, ◌≤◌}
use native.Mathlib.Omega.{arith}
use lib.ListN.{length, get_or, take, drop, length-drop, take-append-drop}
use lib.Seq.{length-take-le, drop-cons, drop-drop}
use Rattle.little.specs.Little.{little_of, little_bytes, little_list, list_bytes}
use Rattle.little.specs.Law.{Below}
use Rattle.little.proofs.Little.{read_back, written_back as number-back, list-read-back, list-written-back, below-take, below-drop}
use Rattle.resequencer.specs.declared.Resequencer.{Resequencer}
use Rattle.resequencer_bytes.specs.Stored.{state_in, state_bytes}
use Rattle.resequencer_bytes.specs.Claims.{FitsTypes}

-- k bytes starting at n, read as a number and written again, are the same bytes
word_back : (b : List ℕ) (k n : ℕ) → n + k ≤ length b → Below 256 b → little_bytes k (little_of (take k (drop n b))) ++ drop (n + k) b ≡ drop n b
word_back b k n h low =
    let l : length (take k (drop n b)) ≡ k = length-take-le k (drop n b) (omega (arith, length-drop n b)) in
    ap₂ (λ (x y : List ℕ). x ++ y)
    (ap (λ (m : ℕ). little_bytes m (little_of (take k (drop n b)))) (sym l)
    ∙ number-back (take k (drop n b)) (below-take 256 k (drop n b) (omega (arith, length-drop n b)) (below-drop 256 n b low)))
    (sym (drop-drop k n b))
    ∙ take-append-drop k (drop n b)

pub written_back : (b : List ℕ) → length b ≡ 146 → Below 256 b → state_bytes (state_in b) ≡ b
unfolding state_bytes state_in
written_back b l low =
    let tickets : list_bytes 2 (little_list 2 64 (drop 18 b)) ≡ drop 18 b = list-written-back 2 64 (drop 18 b) (omega (arith, length-drop 18 b)) (below-drop 256 18 b low) in
    let clocks : little_bytes 8 (little_of (take 8 (drop 10 b))) ++ list_bytes 2 (little_list 2 64 (drop 18 b)) ≡ drop 10 b =
    ap (λ (x : List ℕ). little_bytes 8 (little_of (take 8 (drop 10 b))) ++ x) tickets ∙ word_back b 8 10 (omega arith) low in
    let held : little_bytes 8 (little_of (take 8 (drop 2 b))) ++ (little_bytes 8 (little_of (take 8 (drop 10 b))) ++ list_bytes 2 (little_list 2 64 (drop 18 b))) ≡ drop 2 b =
    ap (λ (x : List ℕ). little_bytes 8 (little_of (take 8 (drop 2 b))) ++ x) clocks ∙ word_back b 8 2 (omega arith) low in
    ap (λ (x : List ℕ). get_or b 0 0 ∷ get_or b 1 0 ∷ x) held
    ∙ sym (drop-cons b 0 0 (omega arith) ∙ ap (λ (x : List ℕ). get_or b 0 0 ∷ x) (drop-cons b 1 0 (omega arith)))

pub state-back : (s : Resequencer) → FitsTypes s → state_in (state_bytes s) ≡ s
unfolding state_in state_bytes little_bytes
state-back s f =
    let held : little_of (take 8 (drop 2 (state_bytes s))) ≡ s.held = read_back 8 s.held f.held in
    let clocks : little_of (take 8 (drop 10 (state_bytes s))) ≡ s.clocks = read_back 8 s.clocks f.clocks in
    let tickets : little_list 2 64 (drop 18 (state_bytes s)) ≡ s.tickets =
    ap (λ (n : ℕ). little_list 2 n (list_bytes 2 s.tickets)) (sym f.count) ∙ list-read-back 2 s.tickets f.tickets in
    ap₂ (λ (x y : ℕ). state x y (little_list 2 64 (drop 18 (state_bytes s)))) held clocks ∙ ap (state s.held s.clocks) tickets
  where
    state : ℕ → ℕ → List ℕ → Resequencer
    state x y z = record { nesn = s.nesn; hsnr = s.hsnr; held = x; clocks = y; tickets = z }
