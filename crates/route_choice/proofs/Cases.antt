-- The choice case by case: the premises are the tests, the conclusion is the choice.
-- Assumes nothing.
use mathlib.Core.Path.{◌≡◌, refl, ap, ◌∙◌}
use mathlib.Core.Logic.{◌≢◌}
use mathlib.Core.Bool.{Bool, true, cond}
use Prim.Native.Nat.{ℕ, ◌<◌}
use borrow.Author.Tests.{lt-ltb}
use Rattle.wordset.specs.Sets.{member, lowest}
use Rattle.route_choice.specs.Choosing.{usable, choose_of}
use Rattle.route_choice.proofs.Meaning.{of-usable, lowest-usable, must-choose}
use Rattle.std.specs.Prelude.{Ok, Some, None}

module _ (codes failed : ℕ) where
  pub last-used : (c : ℕ) → c < 16 → member (usable codes failed) c ≡ true → choose_of codes (Some c) failed ≡ Ok c
  last-used c h m =
      must-choose codes failed (Some c) c (lt-ltb c 16 h) (of-usable codes failed c h m)
      ∙ ap (λ (b : Bool). Ok (cond b c (lowest 16 (usable codes failed)))) m

  pub lowest-chosen : usable codes failed ≢ 0 → choose_of codes None failed ≡ Ok (lowest 16 (usable codes failed))
  lowest-chosen n = must-choose codes failed None _ refl (lowest-usable codes failed n)
