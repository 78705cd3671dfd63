-- What is proved of the kinds.

pub mod Every
pub mod Table
pub mod Stored
