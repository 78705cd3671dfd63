-- The laws of running the input part by part.
pub mod Parts
