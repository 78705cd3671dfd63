-- The definitions that the contracts of `capture` use.
pub mod Files
pub mod Saving
pub mod Opening
pub mod Parts
