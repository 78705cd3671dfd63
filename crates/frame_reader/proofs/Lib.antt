-- What is proved of reading.

pub mod Zeros
pub mod Rows
pub mod Founds
pub mod Cases
