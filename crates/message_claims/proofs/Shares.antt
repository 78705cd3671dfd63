-- How many frames a message makes: n bytes, at most `share` of them in a frame.
-- Assumes nothing.
use mathlib.Core.Path.{◌≡◌, ap, ◌∙◌}
use Prim.Native.Nat.{ℕ, zero, suc, ◌+◌, ◌-◌, ◌*◌, ◌/◌, ◌<◌, ◌≤◌}
use native.Mathlib.Nat.{div-add-mod', mod-lt, suc-mul, div-lt_iff_lt-mul, div-eq-sub-div}
use native.Mathlib.Omega.{arith}
use Rattle.message.specs.Cutting.{full_frames}

-- the frames hold the message
pub shares-hold : (share n : ℕ) → 1 ≤ share → n ≤ suc (full_frames share n) * share
unfolding full_frames
shares-hold share n some = omega (arith, suc-mul ((n - 1) / share) share, div-add-mod' (n - 1) share, mod-lt (n - 1) some)

-- k frames that hold n bytes are at least as many as cutting makes
pub shares-fewest : (share n k : ℕ) → 1 ≤ share → 1 ≤ k → n ≤ k * share → suc (full_frames share n) ≤ k
unfolding full_frames
shares-fewest share n zero some more h = absurd (omega arith)
shares-fewest share n (suc k) some more h =
    let lt : n - 1 < suc k * share = omega (arith, suc-mul k share, h) in
    let d : (n - 1) / share < suc k = (div-lt_iff_lt-mul {k = share} {x = n - 1} {y = suc k} some).1 lt in
    omega (arith, d)

-- one share more makes one frame more
pub shares-more : (share n : ℕ) → 1 ≤ share → 1 ≤ n → full_frames share (share + n) ≡ suc (full_frames share n)
unfolding full_frames
shares-more share n some more =
    let big : share ≤ share + n - 1 = omega arith in
    let same : share + n - 1 - share ≡ n - 1 = omega arith in
    div-eq-sub-div some big ∙ ap (λ (x : ℕ). x / share + 1) same ∙ omega arith
