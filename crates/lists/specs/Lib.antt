-- Definitions of lists that several crates share.
pub mod Lists
pub mod Frames
