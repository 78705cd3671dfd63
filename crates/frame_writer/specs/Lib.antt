-- The definitions that the contracts of `frame_writer` use.
pub mod Writing
pub mod Routes
pub mod Parts
