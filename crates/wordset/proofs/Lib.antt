-- The laws of words, digit by digit, and of the sets that they hold.
pub mod Digits
pub mod Sets
pub mod Words
pub mod Rings
pub mod Masks
pub mod Runs
pub mod Walks
pub mod Counts
