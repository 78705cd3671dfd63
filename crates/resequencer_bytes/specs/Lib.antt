-- The definitions that the contracts of `resequencer_bytes` cite, and the claims about them.
pub mod Stored
pub mod Parts
pub mod Claims
