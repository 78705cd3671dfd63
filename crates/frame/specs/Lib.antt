-- The definitions that the contracts of `frame` use.
pub mod Packets
pub mod Writing
pub mod Reading
pub mod Routes
