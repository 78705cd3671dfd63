-- The laws and claims of the stored state.
pub mod Reading
pub mod Writing
pub mod Stored
pub mod Steps
pub mod Calls
pub mod Checking
pub mod Claims
