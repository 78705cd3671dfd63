-- What is proved of frames written and read.
pub mod ByLayout
pub mod RouteFrames
pub mod Routes
pub mod ReadBack
pub mod Refusing
pub mod Stored
pub mod Bytes
pub mod Short
pub mod Faults
pub mod RouteBytes
