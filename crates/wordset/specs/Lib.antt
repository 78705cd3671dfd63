-- The definitions that the contracts of `wordset` use, and the laws of sets in words.
pub mod Sets
pub mod Laws
pub mod Runs
