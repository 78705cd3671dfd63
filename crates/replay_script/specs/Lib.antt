-- The definitions that the contracts of `replay_script` cite, and the claims about the whole report
-- and about refusals.
pub mod Text
pub mod Lines
pub mod Feeding
pub mod Whole
pub mod Writing
pub mod Refusing
