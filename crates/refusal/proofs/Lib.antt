-- The laws of checks.
pub mod Checks
pub mod Numbers
pub mod Clauses
