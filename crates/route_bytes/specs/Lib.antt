-- The definitions that the contracts of `route_bytes` cite, and the claims about them.
pub mod Stored
pub mod Claims
