-- The definitions that the contracts of `resequencer` cite.
pub mod State
pub mod Events
pub mod Parts
pub mod Numbers
pub mod Refusing
