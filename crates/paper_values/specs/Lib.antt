-- Document 01's values to check, as one claim.
pub mod Values
