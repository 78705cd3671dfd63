-- The laws of reading and writing, document 01's whole case, and the claims about the whole report
-- and about refusals.
pub mod Writing
pub mod Reports
pub mod Reading
pub mod Lines
pub mod Feeding
pub mod Whole
pub mod Refusing
pub mod Values
