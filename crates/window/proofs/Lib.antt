-- Good order of the receiving end.
pub mod Order
-- The proofs of the claims.
pub mod Ends
pub mod History
pub mod Holding
pub mod BothEnds
pub mod Refusing
