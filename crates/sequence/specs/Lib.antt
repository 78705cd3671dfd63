-- The definitions that the contracts of `sequence` use, and the law of distance.
pub mod Modular
pub mod Numbers
