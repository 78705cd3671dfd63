-- The definitions that the contracts of `frame_reader` use.
pub mod Faults
pub mod Reading
pub mod Parts
