-- Every kind is in the table, so that a test which the kinds of the table pass, as computation
-- shows, holds of every kind.
-- Assumes nothing.
use mathlib.Core.Path.{◌≡◌, refl}
use mathlib.Core.Bool.{Bool, true, false, ◌&&◌, not}
use mathlib.Core.List.{List, [], ◌∷◌}
use lib.Dec.{eqb}
use Rattle.refusal.proofs.Checks.{both_true}
use Rattle.frame_fields.proofs.Tags.{apart}
use Rattle.frame_kinds.specs.declared.Kind.{Kind}
use Rattle.frame_kinds.specs.declared.Kind.TheVariants.{Data, ClearRequest, ClearConfirmation, CallRequest, CallAccept, ReceiveReady, ReceiveNotReady, Reject, Interrupt, InterruptConfirmation, Reset, ResetConfirmation}
use Rattle.frame_kinds.specs.Kinds.{lead_of, kinds, kind_number}

-- no first byte names both kinds, and no number
abbrev pub differ : Kind → Kind → Bool
differ j k = apart (lead_of j) (lead_of k) && not (eqb (kind_number k) (kind_number j))

-- k is in the table, and differs from every kind before it
pub data Named : List Kind → Kind → Type 0 where
  here : {k : Kind} {ks : List Kind} → Named (k ∷ ks) k
  there : {j k : Kind} {ks : List Kind} → differ j k ≡ true → Named ks k → Named (j ∷ ks) k

pub in_table : (k : Kind) → Named kinds k
in_table Data = here
in_table CallRequest = there refl here
in_table CallAccept = there refl (there refl here)
in_table ClearRequest = there refl (there refl (there refl here))
in_table ClearConfirmation = there refl (there refl (there refl (there refl here)))
in_table ReceiveReady = there refl (there refl (there refl (there refl (there refl here))))
in_table ReceiveNotReady = there refl (there refl (there refl (there refl (there refl (there refl here)))))
in_table Reset = there refl (there refl (there refl (there refl (there refl (there refl (there refl here))))))
in_table ResetConfirmation = there refl (there refl (there refl (there refl (there refl (there refl (there refl (there refl here)))))))
in_table Interrupt = there refl (there refl (there refl (there refl (there refl (there refl (there refl (there refl (there refl here))))))))
in_table InterruptConfirmation = there refl (there refl (there refl (there refl (there refl (there refl (there refl (there refl (there refl (there refl here)))))))))
in_table Reject = there refl (there refl (there refl (there refl (there refl (there refl (there refl (there refl (there refl (there refl (there refl here))))))))))

-- whether all the given kinds pass a test
abbrev pub every : (Kind → Bool) → List Kind → Bool
every test [] = true
every test (k ∷ ks) = test k && every test ks

passes : (test : Kind → Bool) (ks : List Kind) (k : Kind) → Named ks k → every test ks ≡ true → test k ≡ true
passes test ks k (here {ks = rest}) e = (both_true (test k) (every test rest) e).0
passes test ks k (there {j = j} {ks = rest} d n) e = passes test rest k n (both_true (test j) (every test rest) e).1

pub for-all : (test : Kind → Bool) → every test kinds ≡ true → (k : Kind) → test k ≡ true
for-all test e k = passes test kinds k (in_table k) e

-- the same of a test in both directions
pub for-both : (test : Bool → Kind → Bool) → every (λ (k : Kind). test true k && test false k) kinds ≡ true → (up : Bool) (k : Kind) → test up k ≡ true
for-both test e up k = go up
  where
    both : (test true k ≡ true) × (test false k ≡ true)
    both = both_true (test true k) (test false k) (for-all (λ (j : Kind). test true j && test false j) e k)

    go : (b : Bool) → test b k ≡ true
    go true = both.0
    go false = both.1
