-- The laws of counting modulo m.
pub mod Modular
