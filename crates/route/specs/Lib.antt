-- The definitions that the contracts of `route` cite, and the claim about what an update means.
pub mod Entries
pub mod Updating
pub mod Parts
pub mod Meaning
