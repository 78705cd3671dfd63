-- The proofs about the ends in lent bytes.

pub mod Stored
pub mod Kept
pub mod Claims
