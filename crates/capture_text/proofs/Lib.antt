-- The laws of the texts, and the lines of some frames.
pub mod Texts
pub mod Reports
pub mod Values
