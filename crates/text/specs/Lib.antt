-- The definitions that the contracts of `text` use.
pub mod Decimal
pub mod Writing
