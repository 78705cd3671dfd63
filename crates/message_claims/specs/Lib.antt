-- The claims about messages cut and joined.
pub mod Claims
pub mod Short
pub mod Witness
pub mod Refusing
pub mod Faults
