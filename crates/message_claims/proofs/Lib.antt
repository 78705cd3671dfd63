-- What is proved of messages cut and joined.
pub mod Parts
pub mod Starts
pub mod Shares
pub mod Cutting
pub mod Joining
pub mod Again
pub mod Claims
pub mod Refusing
pub mod Short
pub mod Witness
pub mod Faults
