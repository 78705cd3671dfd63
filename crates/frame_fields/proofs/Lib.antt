-- What is proved of rows and headers.

pub mod Rows
pub mod Headers
pub mod Masks
pub mod Tags
pub mod Sums
pub mod Bytes
pub mod Ends
