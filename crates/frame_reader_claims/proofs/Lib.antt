-- What is proved of the position of a fault.
pub mod Verdicts
pub mod Fixed
pub mod Holding
pub mod Counting
pub mod Extent
pub mod Least
pub mod Agreeing
pub mod Front
pub mod ByKind
pub mod FirstFault
