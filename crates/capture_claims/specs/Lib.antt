-- What is claimed of captures.
pub mod Claims
