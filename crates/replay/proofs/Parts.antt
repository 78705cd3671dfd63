-- Running the bytes of the input in parts, one after the other.
-- Assumes nothing.
use mathlib.Core.Path.{◌≡◌, refl, sym, ap, ◌∙◌}
use mathlib.Core.List.{List}
use Prim.Native.Nat.{ℕ, ◌+◌, ◌-◌, ◌*◌, ◌≤◌, ◌<◌, min}
use native.Mathlib.Decide.{dec_le}
use native.Mathlib.Omega.{arith}
use lib.ListN.{length, take, drop, length-take, length-drop}
use lib.Seq.{take-add, take_all}
use Rattle.replay_script.specs.declared.Replay.{Replay}
use Rattle.replay_script.specs.Feeding.{feed_next}
use Rattle.replay_script.proofs.Feeding.{next-append}

pub nothing_run : (r : Replay) (bytes : List ℕ) → r ≡ feed_next r (take 0 bytes)
unfolding feed_next
nothing_run r bytes = refl

pub more-run : (r₀ : Replay) (bytes : List ℕ) (at to : ℕ) {r r' : Replay} → at < to → r ≡ feed_next r₀ (take at bytes)
    → r' ≡ feed_next r (take (to - at) (drop at bytes)) → r' ≡ feed_next r₀ (take to bytes)
more-run r₀ bytes at to h e k =
    let z : at + (to - at) ≡ to = omega arith in
    k ∙ ap (λ x. feed_next x (take (to - at) (drop at bytes))) e ∙ sym (next-append r₀ (take at bytes) (take (to - at) (drop at bytes)))
    ∙ ap (feed_next r₀) (sym (take-add at (to - at) bytes) ∙ ap (λ n. take n bytes) z)

-- the end of a part is 64 bytes on, or the end of the bytes
part_end : (bytes : List ℕ) (to next : ℕ) → to ≡ min (length bytes) next → take to bytes ≡ take next bytes
part_end bytes to next e = elim (dec_le next (length bytes)) [
  | yes h ↦
      let z : to ≡ next = omega arith in
      ap (λ (n : ℕ). take n bytes) z
  | no h ↦ take_all to bytes (omega arith) ∙ sym (take_all next bytes (omega arith))
]

-- one part more
pub part-run : (r₀ : Replay) (bytes : List ℕ) (k to : ℕ) {r r' : Replay} → to ≡ min (length bytes) (64 * k + 64) → 64 * k < length bytes
    → r ≡ feed_next r₀ (take (64 * k) bytes) → r' ≡ feed_next r (take (to - 64 * k) (drop (64 * k) bytes))
    → r' ≡ feed_next r₀ (take (64 * (k + 1)) bytes)
part-run r₀ bytes k to e h a b =
    let n : 64 * k + 64 ≡ 64 * (k + 1) = omega arith in
    more-run r₀ bytes (64 * k) to (omega arith) a b ∙ ap (feed_next r₀) (part_end bytes to (64 * k + 64) e ∙ ap (λ (n : ℕ). take n bytes) n)

pub all-run : (r₀ : Replay) (bytes : List ℕ) (at : ℕ) {r : Replay} → length bytes ≤ at → r ≡ feed_next r₀ (take at bytes) → r ≡ feed_next r₀ bytes
all-run r₀ bytes at h e = e ∙ ap (feed_next r₀) (take_all at bytes h)

-- the rest of the output has room for the report of a part
pub part_room : (bytes out : List ℕ) (at to end : ℕ) → to ≤ at + 64 → end ≤ 49152 → 65536 ≤ length out
    → length (take (to - at) (drop at bytes)) * 256 ≤ length (take (length out - end) (drop end out))
part_room bytes out at to end h k m =
    omega (arith, length-take (to - at) (drop at bytes), length-take (length out - end) (drop end out), length-drop end out)

-- the report of a part lies within the output
pub part-fits : (out rest : List ℕ) (end : ℕ) {written : ℕ} → end ≤ length out → length rest ≡ length (take (length out - end) (drop end out))
    → written ≤ length rest → end + written ≤ length out
part-fits out rest end h e k = omega (arith, length-take (length out - end) (drop end out), length-drop end out)
