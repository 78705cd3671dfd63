-- The laws of the resequencer's definitions.
pub mod Order
pub mod Bounds
pub mod Cases
pub mod Passing
pub mod Handing
pub mod Steps
pub mod Stray
pub mod Deciding
pub mod Refusing
pub mod OutcomeNumbers
