-- The definitions that the contracts of `window_bytes` use, and the claims about them.
pub mod Stored
pub mod Claims
