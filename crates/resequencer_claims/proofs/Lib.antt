-- The proofs of the claims about whole histories.
pub mod Places
pub mod Order
pub mod Meeting
pub mod Holding
pub mod Advancing
pub mod Runs
pub mod Standing
pub mod Answers
pub mod Steps
pub mod Demand3
pub mod Keeping
pub mod AtMost
pub mod Twins
pub mod Rising
pub mod Wanted
pub mod Bytes
