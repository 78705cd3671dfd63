-- What is proved of captures.
pub mod Numbers
pub mod Saving
pub mod Opening
