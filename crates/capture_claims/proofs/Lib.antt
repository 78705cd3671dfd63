-- What is proved of captures beyond single calls.
pub mod Offsets
pub mod Files
pub mod Frames
pub mod Claims
