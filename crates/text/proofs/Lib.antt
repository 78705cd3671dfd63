-- The laws of texts written one after another and of numbers in decimal, and some numbers.
pub mod Writing
pub mod Decimal
pub mod Values
