-- The claims about frames written and read.
pub mod ByLayout
pub mod ReadBack
pub mod Short
pub mod Refusing
pub mod Bytes
pub mod Stored
pub mod Faults
pub mod Routes
