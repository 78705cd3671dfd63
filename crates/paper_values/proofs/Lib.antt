-- The proof of document 01's values.
pub mod Values
