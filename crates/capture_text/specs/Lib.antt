-- The definitions that the contracts of `capture_text` use.
pub mod Report
pub mod Parts
